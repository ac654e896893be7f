use Rattle.std.proofs.Common.{◌∙◌}
use Rattle.check_fun.proofs.RuleLemmas.{bound_is_there}
use Rattle.check_fun.proofs.checker.Checker.is_visible.Goals as goal

pub returns-in-Bound : goal.returns-in-Bound
returns-in-Bound c context knows =
    rw (c.len.ensures ∙ c.args.self.now.bound.ok.0, c.in-Bound.is) (bound_is_there c.in-Bound.depth knows)
