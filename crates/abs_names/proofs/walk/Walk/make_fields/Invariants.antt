use Rattle.abs_tree.specs.Syntax.{AtField}
use Rattle.abs_names.proofs.InPlaceLemmas.{ChangedSoFar}
use Rattle.abs_names.proofs.ParamLemmas.{param_resolution}
use Rattle.abs_names.proofs.walk.Walk.make_fields.Given as goal

abbrev pub invariant-loop-param : goal.invariant-loop-param
invariant-loop-param l =
    ChangedSoFar (param_resolution AtField) l.fn.self.scope 0 l.fn.self.first l.fn.params.items l.param-index
    l.param-items l.self.scope l.index l.self.first
