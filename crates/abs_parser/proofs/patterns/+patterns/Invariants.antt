use Rattle.std.proofs.Common.{◌+◌, ◌*◌, length}
use Rattle.abs_parser.specs.Views.{spot}
use Rattle.abs_parser.proofs.reader.ListLemmas.{list_of_patterns, trees_of_patterns}
use Rattle.abs_parser.proofs.reader.ListSteps.{ReadsSoFar}
use Rattle.abs_parser.proofs.patterns.+patterns.Given as goal

abbrev pub decreases-pattern : goal.decreases-pattern
decreases-pattern l = 3 * length (spot l.from).rest + 1

abbrev pub decreases-pattern_arguments : goal.decreases-pattern_arguments
decreases-pattern_arguments l = 3 * length (spot l.from).rest

abbrev pub decreases-constructor_pattern : goal.decreases-constructor_pattern
decreases-constructor_pattern l = 3 * length (spot l.from).rest

abbrev pub decreases-patterns : goal.decreases-patterns
decreases-patterns l = 3 * length (spot l.from).rest + 2

-- what was read so far
abbrev pub invariant-patterns-loop-after : goal.invariant-patterns-loop-after
invariant-patterns-loop-after l =
    record {
      read : ReadsSoFar list_of_patterns trees_of_patterns l.depth l.fn.symbols l.symbols (spot l.from)
          (spot l.here) l.patterns.items;
    }

abbrev pub decreases-patterns-loop-after : goal.decreases-patterns-loop-after
decreases-patterns-loop-after l = length (spot l.here).rest
