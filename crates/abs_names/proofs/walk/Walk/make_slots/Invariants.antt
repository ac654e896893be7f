use Rattle.abs_tree.specs.Syntax.{AtSlot}
use Rattle.abs_names.proofs.InPlaceLemmas.{ChangedSoFar}
use Rattle.abs_names.proofs.ParamLemmas.{param_resolution}
use Rattle.abs_names.proofs.walk.Walk.make_slots.Given as goal

abbrev pub invariant-loop-param : goal.invariant-loop-param
invariant-loop-param l =
    ChangedSoFar (param_resolution AtSlot) l.fn.self.scope 0 l.fn.self.first l.fn.params.items l.param-index
    l.param-items l.self.scope l.index l.self.first
