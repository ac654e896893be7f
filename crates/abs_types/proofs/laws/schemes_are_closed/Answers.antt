use Rattle.abs_types.proofs.SchemeLemmas.{function_is_closed, constructor_is_closed}
use Rattle.abs_types.proofs.laws.schemes_are_closed.Goals as goal

pub returns-clause-functions : goal.returns-clause-functions
returns-clause-functions c = function_is_closed

pub returns-clause-constructors : goal.returns-clause-constructors
returns-clause-constructors c = constructor_is_closed
