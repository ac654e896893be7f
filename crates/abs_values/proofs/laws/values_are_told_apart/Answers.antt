use Rattle.abs_values.proofs.SameValueLemmas.{same_value-Decides}
use Rattle.abs_values.proofs.laws.values_are_told_apart.Goals as goal

pub returns : goal.returns
returns c = same_value-Decides
