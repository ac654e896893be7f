use Rattle.abs_tree.proofs.OffenceLemmas.{first_is_least}
use Rattle.abs_tree.proofs.laws.first_is_least.Goals as goal

pub returns : goal.returns
returns c = first_is_least
