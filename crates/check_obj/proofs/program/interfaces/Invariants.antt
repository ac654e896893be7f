use Rattle.abs_types.specs.TypeOffences.{interfaces_offences}
use Rattle.check_fun.specs.Contexts.{Stays}
use Rattle.check_obj.proofs.ProgramLemmas.{DeclarationsSoFar}
use Rattle.check_obj.proofs.program.interfaces.Given as goal

abbrev pub invariant-loop-index : goal.invariant-loop-index
invariant-loop-index l =
    DeclarationsSoFar interfaces_offences l.fn.checker l.checker l.declaration-items l.index
    × Stays l.fn.checker l.checker
