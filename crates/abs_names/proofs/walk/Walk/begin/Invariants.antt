use Rattle.std.proofs.Common.{◌≡◌}
use Rattle.abs_names.proofs.ParamLemmas.{BeginSoFar}
use Rattle.abs_names.proofs.walk.Walk.begin.Given as goal

abbrev pub invariant-loop-param : goal.invariant-loop-param
invariant-loop-param l =
    BeginSoFar l.fn.routine l.fn.self.scope l.params l.param-index l.self.scope l.slots.items.items
    × (l.self.first ≡ l.fn.self.first)
