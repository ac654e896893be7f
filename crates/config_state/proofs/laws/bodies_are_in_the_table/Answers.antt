use Rattle.config_state.proofs.StatementLemmas.{method_entry-is}
use Rattle.config_state.proofs.laws.bodies_are_in_the_table.Goals as goal

pub returns : goal.returns
returns c = method_entry-is
