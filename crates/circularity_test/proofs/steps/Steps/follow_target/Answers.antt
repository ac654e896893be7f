-- The edges from a target: to the cog that it needs, and where an `await` may be reached, along calls on `this`.
use Rattle.std.proofs.Common.{◌∙◌, ap, sym, subst}
use Rattle.std.proofs.lemmas.Bool.{false≢true}
use Rattle.circularity_test.proofs.PartLemmas.{joins_as}
use Rattle.circularity_test.proofs.StepLemmas.{target_all, target_cog}
use Rattle.circularity_test.specs.Parts.{Gets}
use Rattle.circularity_test.specs.Steps.{Awaits, MethodStep, program_of}
use Rattle.circularity_test.specs.declared.parts.Part.TheVariants as part
use Rattle.circularity_test.proofs.steps.Steps.follow_target.Goals as goal

pub returns-in_ok-join_methods : goal.returns-in_ok-join_methods
returns-in_ok-join_methods c =
    let kind = c.args.kind.now in
    target_all (program_of c.args.self.now) (Awaits c.args.self.now) kind
    (joins_as c.in_ok-lead.ensures (ap (λ it. (it, part.Cog c.cog.result)) (c.copied.ensures ∙ c.requires)
    ∙ ap (λ it. (part.Target kind, part.Cog it)) c.cog.ensures))
    (joins_as c.in_ok-lead-2.ensures
    (ap (λ it. (it, part.Running c.copied-then-is_awaited-2.result)) (c.copied-then-is_awaited.ensures ∙ c.requires)
    ∙ ap (λ it. (part.Target kind, part.Running it)) c.copied-then-is_awaited-2.ensures))
    (subst (λ end. Gets (MethodStep (program_of c.args.self.now) end kind) c.lead-then-is_awaited.new.self
    c.join_methods.new.parts) c.requires c.in_ok-join_methods.ensures)

pub returns-else-is_awaited : goal.returns-else-is_awaited
returns-else-is_awaited c =
    let kind = c.args.kind.now in
    target_cog (program_of c.args.self.now) (Awaits c.args.self.now) kind
    (joins_as c.in_ok-lead.ensures (ap (λ it. (it, part.Cog c.cog.result)) (c.copied.ensures ∙ c.requires)
    ∙ ap (λ it. (part.Target kind, part.Cog it)) c.cog.ensures))
    (λ awaited. false≢true (sym c.if-is_awaited.false ∙ c.is_awaited.ensures.1 awaited))
