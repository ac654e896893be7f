use Rattle.abs_types.proofs.JoinLemmas.{join_of_least, join_of_symmetric, join_of_applied, join_of_futures, join_all_least}
use Rattle.abs_types.proofs.laws.joins_are_least.Goals as goal

pub returns-clause-least : goal.returns-clause-least
returns-clause-least c = join_of_least

pub returns-clause-symmetric : goal.returns-clause-symmetric
returns-clause-symmetric c = join_of_symmetric

pub returns-clause-applied : goal.returns-clause-applied
returns-clause-applied c = join_of_applied

pub returns-clause-futures : goal.returns-clause-futures
returns-clause-futures c = join_of_futures

pub returns-clause-several : goal.returns-clause-several
returns-clause-several c = join_all_least
