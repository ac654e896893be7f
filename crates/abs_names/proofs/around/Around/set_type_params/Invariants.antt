use Rattle.std.specs.Prelude.{[]}
use Rattle.abs_tree.specs.SyntaxViews.{declared}
use Rattle.abs_names.proofs.SpaceLemmas.{AddedSoFar, and_type_params}
use Rattle.abs_names.proofs.around.Around.set_type_params.Given as goal

abbrev pub invariant-loop-param : goal.invariant-loop-param
invariant-loop-param l =
    AddedSoFar declared and_type_params l.fn.self.names (record l.fn.self.around { type_params = [] }) 0 l.params
    l.param-index l.index l.self
