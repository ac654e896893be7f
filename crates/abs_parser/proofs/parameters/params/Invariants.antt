use Rattle.std.proofs.Common.{length}
use Rattle.abs_parser.specs.Views.{spot}
use Rattle.abs_parser.proofs.reader.ListSteps.{ReadsSoFar}
use Rattle.abs_parser.proofs.reader.ParameterSteps.{list_of_params, trees_of_params}
use Rattle.abs_parser.proofs.parameters.params.Given as goal

-- what was read so far
abbrev pub invariant-loop-after : goal.invariant-loop-after
invariant-loop-after l = record {
  read : ReadsSoFar list_of_params trees_of_params 0 l.fn.symbols l.symbols
      (spot l.from) (spot l.here) l.params.items;
}

abbrev pub decreases-loop-after : goal.decreases-loop-after
decreases-loop-after l = length (spot l.here).rest
