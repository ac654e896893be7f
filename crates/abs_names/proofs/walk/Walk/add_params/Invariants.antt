use Rattle.std.proofs.Common.{◌≡◌}
use Rattle.abs_names.proofs.ParamLemmas.{FieldsSoFar}
use Rattle.abs_names.proofs.walk.Walk.add_params.Given as goal

abbrev pub invariant-loop-param : goal.invariant-loop-param
invariant-loop-param l =
    FieldsSoFar l.fn.self.scope l.params l.param-index l.self.scope × (l.index ≡ l.param-index)
    × (l.self.first ≡ l.fn.self.first)
