use Rattle.abs_types.proofs.SubtypingLemmas.{fits_found, fits_whole, fits_reflexive, fits_transitive, fits_antisymmetric}
use Rattle.abs_types.proofs.laws.subtyping_is_an_order.Goals as goal

pub returns-clause-reported : goal.returns-clause-reported
returns-clause-reported c = λ declarations one other. (fits_found declarations one other, fits_whole)

pub returns-clause-reflexive : goal.returns-clause-reflexive
returns-clause-reflexive c = fits_reflexive

pub returns-clause-transitive : goal.returns-clause-transitive
returns-clause-transitive c = fits_transitive

pub returns-clause-antisymmetric : goal.returns-clause-antisymmetric
returns-clause-antisymmetric c = fits_antisymmetric
