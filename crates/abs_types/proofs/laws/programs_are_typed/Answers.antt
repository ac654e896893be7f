use Rattle.abs_types.proofs.ProgramLemmas.{program_found, program_whole}
use Rattle.abs_types.proofs.laws.programs_are_typed.Goals as goal

pub returns : goal.returns
returns c = λ source. (program_found source, program_whole source)
