use Rattle.std.proofs.Common.{length}
use Rattle.abs_parser.specs.Views.{spot}
use Rattle.abs_parser.proofs.reader.DeclarationListSteps.{DeclsSoFar}
use Rattle.abs_parser.proofs.programs.declarations.Given as goal

-- what was read so far
abbrev pub invariant-loop-alloc : goal.invariant-loop-alloc
invariant-loop-alloc l = record {
  read : DeclsSoFar l.fn.symbols l.symbols l.index l.free (spot l.from) (spot l.here)
      l.declarations.items;
}

abbrev pub decreases-loop-alloc : goal.decreases-loop-alloc
decreases-loop-alloc l = length (spot l.here).rest
