use Rattle.std.proofs.Common.{length}
use Rattle.abs_parser.specs.Views.{spot}
use Rattle.abs_parser.proofs.reader.ListLemmas.{list_of_tests, trees_of_tests}
use Rattle.abs_parser.proofs.reader.ListSteps.{ReadsSoFar}
use Rattle.abs_parser.proofs.guards.guard.Given as goal

abbrev pub invariant-loop-after : goal.invariant-loop-after
invariant-loop-after l = record {
  read : ReadsSoFar list_of_tests trees_of_tests l.depth l.fn.symbols l.symbols
      (spot l.from) (spot l.here) l.tests.items;
}

abbrev pub decreases-loop-after : goal.decreases-loop-after
decreases-loop-after l = length (spot l.here).rest
