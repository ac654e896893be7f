use Rattle.std.proofs.Common.{length}
use Rattle.abs_parser.specs.Views.{spot}
use Rattle.abs_parser.proofs.reader.DeclarationSteps.{AnyIndex, ReadsParts}
use Rattle.abs_parser.proofs.reader.SignatureSteps.{signatures_of, interface_of}
use Rattle.abs_parser.proofs.declarations.interface.Given as goal

-- what was read so far
abbrev pub invariant-loop-alloc : goal.invariant-loop-alloc
invariant-loop-alloc l = record {
  read : ReadsParts signatures_of AnyIndex (interface_of l.token.place l.declared l.extended.items) 0 l.fn.symbols
      l.symbols (spot l.from) (spot l.here) l.signatures.items;
}

abbrev pub decreases-loop-alloc : goal.decreases-loop-alloc
decreases-loop-alloc l = length (spot l.here).rest
