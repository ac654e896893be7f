use Rattle.std.proofs.Common.{length}
use Rattle.abs_parser.specs.Views.{spot}
use Rattle.abs_parser.proofs.reader.NameListSteps.{NamesSoFar}
use Rattle.abs_parser.proofs.names.more_names.Given as goal

-- what was read so far
abbrev pub invariant-loop-name_at : goal.invariant-loop-name_at
invariant-loop-name_at l = record {
  read : NamesSoFar l.fn.symbols l.symbols (spot l.from) (spot l.here) l.fn.first
      l.listed.items;
}

abbrev pub decreases-loop-name_at : goal.decreases-loop-name_at
decreases-loop-name_at l = length (spot l.here).rest
