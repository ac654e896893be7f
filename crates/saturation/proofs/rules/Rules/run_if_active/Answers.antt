-- The task of an active object is live.
use Rattle.std.proofs.Common.{◌≡◌, ◌∙◌, ap, ℕ, sym, true≢false}
use Rattle.std.specs.Prelude.{codes}
use Rattle.contract_terms.specs.KindBodies.{called}
use Rattle.contract_terms.specs.declared.fact.Fact.TheVariants.{Live}
use Rattle.name_bounding.specs.declared.kind.Kind.TheVariants.{Method}
use Rattle.saturation.specs.RuleViews.{names_of, program_of}
use Rattle.saturation.proofs.StepLemmas.{adds_none}
use Rattle.saturation.proofs.ObjectLemmas.{runs_adds}
use Rattle.saturation.proofs.rules.Rules.run_if_active.Goals as goal

pub returns-then-is_active : goal.returns-then-is_active
returns-then-is_active c =
    let own = c.args.self.now in
    let is : Live (Method c.copied.result own.run) ≡ Live (called (names_of own) c.args.sign.now (codes "run")) =
    rw c.copied.ensures (ap (λ (it : ℕ). Live (Method c.args.sign.now (record { 0 = it }))) own.run_is) in
    runs_adds (program_of own) c.args.sign.now c.args.class _ is (c.is_active.ensures.active c.if-is_active.true)
    c.add.ensures

pub returns-else-is_active : goal.returns-else-is_active
returns-else-is_active c = adds_none _ (λ known fact runs.
    true≢false (sym (c.is_active.ensures.complete runs.active) ∙ c.if-is_active.false))
