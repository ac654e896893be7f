use Rattle.abs_command.proofs.SourceLemmas.{one_first_offence}
use Rattle.abs_command.proofs.source.one_first_offence.Goals as goal

pub returns : goal.returns
returns c = one_first_offence
