use Rattle.abs_types.specs.TypeOffences.{classes_offences}
use Rattle.check_obj.proofs.ProgramLemmas.{DeclarationsSoFar}
use Rattle.check_obj.proofs.program.classes.Given as goal

abbrev pub invariant-loop-index : goal.invariant-loop-index
invariant-loop-index l = DeclarationsSoFar classes_offences l.fn.checker l.checker l.declaration-items l.index
