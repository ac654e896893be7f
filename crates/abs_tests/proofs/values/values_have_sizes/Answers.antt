use Rattle.std.proofs.Common.{refl}
use Rattle.abs_values.specs.ValueTrees.{value_nodes, value_depth}
use Rattle.abs_tests.proofs.values.values_have_sizes.Goals as goal

pub returns-clause-number : goal.returns-clause-number
unfolding value_nodes value_depth
returns-clause-number c = refl

pub returns-clause-string : goal.returns-clause-string
unfolding value_nodes value_depth
returns-clause-string c = refl

pub returns-clause-object : goal.returns-clause-object
unfolding value_nodes value_depth
returns-clause-object c = refl

pub returns-clause-future : goal.returns-clause-future
unfolding value_nodes value_depth
returns-clause-future c = refl

pub returns-clause-null : goal.returns-clause-null
unfolding value_nodes value_depth
returns-clause-null c = refl

pub returns-clause-number_depth : goal.returns-clause-number_depth
unfolding value_nodes value_depth
returns-clause-number_depth c = refl

pub returns-clause-string_depth : goal.returns-clause-string_depth
unfolding value_nodes value_depth
returns-clause-string_depth c = refl

pub returns-clause-empty_depth : goal.returns-clause-empty_depth
unfolding value_nodes value_depth
returns-clause-empty_depth c = refl

pub returns-clause-empty : goal.returns-clause-empty
unfolding value_nodes value_depth
returns-clause-empty c = refl

pub returns-clause-list : goal.returns-clause-list
unfolding value_nodes value_depth
returns-clause-list c = refl

pub returns-clause-list_depth : goal.returns-clause-list_depth
unfolding value_nodes value_depth
returns-clause-list_depth c = refl

pub returns-clause-siblings : goal.returns-clause-siblings
unfolding value_nodes value_depth
returns-clause-siblings c = refl
