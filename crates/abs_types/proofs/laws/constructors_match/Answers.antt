use Rattle.abs_types.proofs.ConstructorLemmas.{built_parts, data_is_built, parts_below, replaced_parts, no_value_parts}
use Rattle.abs_types.proofs.laws.constructors_match.Goals as goal

pub returns-clause-agree : goal.returns-clause-agree
returns-clause-agree c = built_parts

pub returns-clause-below : goal.returns-clause-below
returns-clause-below c = parts_below

pub returns-clause-data : goal.returns-clause-data
returns-clause-data c = data_is_built

pub returns-clause-replaced_subject : goal.returns-clause-replaced_subject
returns-clause-replaced_subject c = replaced_parts

pub returns-clause-no_value : goal.returns-clause-no_value
returns-clause-no_value c = no_value_parts
