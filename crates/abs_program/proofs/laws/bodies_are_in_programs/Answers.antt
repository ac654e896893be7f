use Rattle.abs_program.proofs.ProgramPointLemmas.{points_of_body}
use Rattle.abs_program.proofs.laws.bodies_are_in_programs.Goals as goal

pub returns : goal.returns
returns c = points_of_body
