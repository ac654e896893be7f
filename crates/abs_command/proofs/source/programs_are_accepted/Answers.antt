use Rattle.abs_command.proofs.AcceptedLemmas.{program_is_accepted}
use Rattle.abs_command.proofs.source.programs_are_accepted.Goals as goal

pub returns : goal.returns
returns c = program_is_accepted
