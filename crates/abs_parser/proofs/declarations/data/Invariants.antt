use Rattle.std.proofs.Common.{length}
use Rattle.abs_parser.specs.Views.{spot}
use Rattle.abs_parser.proofs.reader.DeclarationSteps.{AnyIndex, ReadsParts, constructors_of, data_of}
use Rattle.abs_parser.proofs.declarations.data.Given as goal

-- what was read so far
abbrev pub invariant-loop-next_at : goal.invariant-loop-next_at
invariant-loop-next_at l = record {
  read : ReadsParts constructors_of AnyIndex (data_of l.token.place l.declared l.parameters.items) 0 l.fn.symbols
      l.symbols (spot l.from) (spot l.here) l.constructors.items;
}

abbrev pub decreases-loop-next_at : goal.decreases-loop-next_at
decreases-loop-next_at l = length (spot l.here).rest
