use Rattle.std.proofs.Common.{refl}
use Rattle.std.specs.Fmt.{digits}
use Rattle.abs_values.specs.Printed.{inner_form}
use Rattle.abs_tests.proofs.values.values_print.Goals as goal

pub returns-clause-text : goal.returns-clause-text
unfolding inner_form digits
returns-clause-text c = refl

pub returns-clause-quoted : goal.returns-clause-quoted
unfolding inner_form digits
returns-clause-quoted c = refl

pub returns-clause-escaped : goal.returns-clause-escaped
unfolding inner_form digits
returns-clause-escaped c = refl

pub returns-clause-unit : goal.returns-clause-unit
unfolding inner_form digits
returns-clause-unit c = refl

pub returns-clause-list : goal.returns-clause-list
unfolding inner_form digits
returns-clause-list c = refl

pub returns-clause-empty : goal.returns-clause-empty
unfolding inner_form digits
returns-clause-empty c = refl

pub returns-clause-strings : goal.returns-clause-strings
unfolding inner_form digits
returns-clause-strings c = refl

pub returns-clause-object : goal.returns-clause-object
unfolding inner_form digits
returns-clause-object c = refl

pub returns-clause-future : goal.returns-clause-future
unfolding inner_form digits
returns-clause-future c = refl

pub returns-clause-null : goal.returns-clause-null
unfolding inner_form digits
returns-clause-null c = refl

pub returns-clause-pair : goal.returns-clause-pair
unfolding inner_form digits
returns-clause-pair c = refl

pub returns-clause-nameless : goal.returns-clause-nameless
unfolding inner_form digits
returns-clause-nameless c = refl
