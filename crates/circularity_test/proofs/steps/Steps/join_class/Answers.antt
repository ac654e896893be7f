-- The edge is that of the body of the method in the class, if there is one.
use Rattle.std.proofs.Common.{◌∙◌, ⊎_elim, ap, sym, subst}
use Rattle.std.proofs.lemmas.Option.{none-some, same_Some}
use Rattle.abs_program.specs.NamedViews.{program_tree}
use Rattle.abs_program.specs.declared.named.Named.{Named}
use Rattle.abs_tree.specs.Names.{name_of}
use Rattle.circularity_test.proofs.AddingLemmas.{on_ok}
use Rattle.circularity_test.proofs.PartLemmas.{gets_none, joins_gets}
use Rattle.circularity_test.proofs.StepLemmas.{main_is_none, initials_are_none, one_method}
use Rattle.circularity_test.specs.Parts.{joined}
use Rattle.circularity_test.specs.declared.parts.Part.TheVariants as part
use Rattle.saturation.specs.Rows.{MethodIs}
use Rattle.saturation.specs.declared.body.Body.TheVariants as body
use Rattle.circularity_test.proofs.steps.Steps.join_class.Goals as goal

pub returns-in-Method : goal.returns-in-Method
returns-in-Method c =
    let same = c.named.ensures.program ∙ ap (λ it. it.named) c.checked.ensures.program in
    let own = c.in-Some.own in
    on_ok c.join.result (λ joins. joins_gets joins (λ one step.
    step.is
    ∙ (one_method c.args.end.now c.args.sign.now own c.in-Method.class c.in-Method.member step.index step.member
    c.in-Method.is (same_Some own (body.Method step.index step.member)
    (sym c.in-Some.is ∙ (c.of_method.ensures (body.Method step.index step.member)).1
    (subst (λ (it : Named). MethodIs (program_tree it) (name_of it.symbols c.args.class)
    (name_of it.symbols c.args.method) (body.Method step.index step.member)) (sym same) step.found)))
    ∙ ap (λ it. joined c.args.end.now (part.Method it c.in-Method.class c.in-Method.member)) (sym c.copied.ensures))))
    c.join.ensures

pub returns-in-Main : goal.returns-in-Main
returns-in-Main c =
    let same = c.named.ensures.program ∙ ap (λ it. it.named) c.checked.ensures.program in
    let own = c.in-Some.own in
    gets_none (λ edge step.
    let is = same_Some own (body.Method step.index step.member)
    (sym c.in-Some.is ∙ (c.of_method.ensures (body.Method step.index step.member)).1
    (subst (λ (it : Named). MethodIs (program_tree it) (name_of it.symbols c.args.class)
    (name_of it.symbols c.args.method) (body.Method step.index step.member)) (sym same) step.found)) in
    ⊎_elim
    (λ main. main_is_none step.index step.member (sym main ∙ is))
    (λ initials. initials_are_none initials.0 step.index step.member (sym initials.1 ∙ is))
    c.in-Main.is)

pub returns-in_default : goal.returns-in_default
returns-in_default c =
    let same = c.named.ensures.program ∙ ap (λ it. it.named) c.checked.ensures.program in
    gets_none (λ edge step. none-some (body.Method step.index step.member)
    (sym c.in_default.is ∙ (c.of_method.ensures (body.Method step.index step.member)).1
    (subst (λ (it : Named). MethodIs (program_tree it) (name_of it.symbols c.args.class)
    (name_of it.symbols c.args.method) (body.Method step.index step.member)) (sym same) step.found)))
