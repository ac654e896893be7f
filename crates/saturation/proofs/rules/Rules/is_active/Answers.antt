-- A class is active just if it has the method `run`.
use Rattle.std.proofs.Common.{◌∙◌, sym}
use Rattle.saturation.specs.RuleViews.{program_of}
use Rattle.saturation.proofs.ObjectLemmas.{is_active}
use Rattle.saturation.proofs.rules.Rules.is_active.Goals as goal

pub returns-in-Some-clause-active : goal.returns-in-Some-clause-active
returns-in-Some-clause-active c active =
    is_active (program_of c.args.self.now) c.args.class _ (sym c.in-Some.ensures) (sym c.is_some.ensures ∙ active)
