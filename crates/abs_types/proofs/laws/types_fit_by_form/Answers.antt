use Rattle.abs_types.proofs.SpineLemmas.{data_fitting}
use Rattle.abs_types.proofs.SubtypingLemmas.{futures_fitting, null_fitting}
use Rattle.abs_types.proofs.laws.types_fit_by_form.Goals as goal

pub returns-clause-null : goal.returns-clause-null
returns-clause-null c = null_fitting

pub returns-clause-applied : goal.returns-clause-applied
returns-clause-applied c = data_fitting

pub returns-clause-futures : goal.returns-clause-futures
returns-clause-futures c = futures_fitting
