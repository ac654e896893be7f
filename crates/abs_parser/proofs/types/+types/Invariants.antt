use Rattle.std.proofs.Common.{◌+◌, ◌*◌, length}
use Rattle.abs_parser.specs.Views.{spot}
use Rattle.abs_parser.proofs.reader.ListLemmas.{list_of_types, trees_of_types}
use Rattle.abs_parser.proofs.reader.ListSteps.{ReadsSoFar}
use Rattle.abs_parser.proofs.types.+types.Given as goal

abbrev pub decreases-type_term : goal.decreases-type_term
decreases-type_term l = 2 * length (spot l.from).rest

abbrev pub decreases-type_arguments : goal.decreases-type_arguments
decreases-type_arguments l = 2 * length (spot l.from).rest

abbrev pub decreases-types : goal.decreases-types
decreases-types l = 2 * length (spot l.from).rest + 1

-- what was read so far
abbrev pub invariant-types-loop-after : goal.invariant-types-loop-after
invariant-types-loop-after l = record {
  read : ReadsSoFar list_of_types trees_of_types l.depth l.fn.symbols l.symbols
      (spot l.from) (spot l.here) l.types.items;
}

abbrev pub decreases-types-loop-after : goal.decreases-types-loop-after
decreases-types-loop-after l = length (spot l.here).rest
