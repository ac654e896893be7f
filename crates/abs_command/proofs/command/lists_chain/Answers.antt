use Rattle.abs_command.proofs.StatusLemmas.{chain_listed}
use Rattle.abs_command.proofs.command.lists_chain.Goals as goal

pub returns : goal.returns
returns c = chain_listed c.args.report.now c.is_empty.result c.is_empty.ensures
