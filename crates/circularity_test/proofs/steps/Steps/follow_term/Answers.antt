-- The edge of a term is the one of the method that it calls.
use Rattle.std.proofs.Common.{◌∙◌, ap, sym}
use Rattle.std.proofs.lemmas.Option.{same_Some}
use Rattle.circularity_test.proofs.AddingLemmas.{on_ok}
use Rattle.circularity_test.proofs.PartLemmas.{joins_gets}
use Rattle.circularity_test.specs.declared.parts.Part.TheVariants as part
use Rattle.circularity_test.proofs.steps.Steps.follow_term.Goals as goal

pub returns-in-Some : goal.returns-in-Some
returns-in-Some c =
    let sign = c.args.sign.now in
    let class = c.args.class in
    let member = c.args.member in
    let other = c.in-Some.other in
    on_ok c.lead.result (λ joins. joins_gets joins (λ one step.
    step.is
    ∙ (ap (λ it. (part.Method sign class member, part.Method sign class it))
    (same_Some step.other other (sym step.calls ∙ (sym c.called.ensures ∙ c.in-Some.is)))
    ∙ (ap (λ it. (part.Method it class member, part.Method sign class other)) (sym c.copied.ensures)
    ∙ ap (λ it. (part.Method c.copied.result class member, part.Method it class other))
    (sym c.copied-in-Some.ensures))))) c.lead.ensures
