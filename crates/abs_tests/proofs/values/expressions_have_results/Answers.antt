use Rattle.std.proofs.Common.{refl}
use Rattle.abs_values.specs.Evaluation.{evaluate}
use Rattle.abs_values.specs.Operations.{matched}
use Rattle.abs_values.specs.Printed.{inner_form}
use Rattle.abs_values.specs.ValueTrees.{same_value, value_nodes, value_depth}
use Rattle.abs_tests.proofs.values.expressions_have_results.Goals as goal

pub returns-clause-sum : goal.returns-clause-sum
unfolding evaluate matched same_value value_nodes value_depth inner_form
returns-clause-sum c = refl

pub returns-clause-quotient : goal.returns-clause-quotient
unfolding evaluate matched same_value value_nodes value_depth inner_form
returns-clause-quotient c = refl

pub returns-clause-least_remainder : goal.returns-clause-least_remainder
unfolding evaluate matched same_value value_nodes value_depth inner_form
returns-clause-least_remainder c = refl

pub returns-clause-overflow : goal.returns-clause-overflow
unfolding evaluate matched same_value value_nodes value_depth inner_form
returns-clause-overflow c = refl

pub returns-clause-zero : goal.returns-clause-zero
unfolding evaluate matched same_value value_nodes value_depth inner_form
returns-clause-zero c = refl

pub returns-clause-first : goal.returns-clause-first
unfolding evaluate matched same_value value_nodes value_depth inner_form
returns-clause-first c = refl

pub returns-clause-decided : goal.returns-clause-decided
unfolding evaluate matched same_value value_nodes value_depth inner_form
returns-clause-decided c = refl

pub returns-clause-undecided : goal.returns-clause-undecided
unfolding evaluate matched same_value value_nodes value_depth inner_form
returns-clause-undecided c = refl

pub returns-clause-mistyped : goal.returns-clause-mistyped
unfolding evaluate matched same_value value_nodes value_depth inner_form
returns-clause-mistyped c = refl

pub returns-clause-bound : goal.returns-clause-bound
unfolding evaluate matched same_value value_nodes value_depth inner_form
returns-clause-bound c = refl

pub returns-clause-matched : goal.returns-clause-matched
unfolding evaluate matched same_value value_nodes value_depth inner_form
returns-clause-matched c = refl

pub returns-clause-no_branch : goal.returns-clause-no_branch
unfolding evaluate matched same_value value_nodes value_depth inner_form
returns-clause-no_branch c = refl

pub returns-clause-applied : goal.returns-clause-applied
unfolding evaluate matched same_value value_nodes value_depth inner_form
returns-clause-applied c = refl

pub returns-clause-arity : goal.returns-clause-arity
unfolding evaluate matched same_value value_nodes value_depth inner_form
returns-clause-arity c = refl

pub returns-clause-string : goal.returns-clause-string
unfolding evaluate matched same_value value_nodes value_depth inner_form
returns-clause-string c = refl

pub returns-clause-chosen : goal.returns-clause-chosen
unfolding evaluate matched same_value value_nodes value_depth inner_form
returns-clause-chosen c = refl

pub returns-clause-equal : goal.returns-clause-equal
unfolding evaluate matched same_value value_nodes value_depth inner_form
returns-clause-equal c = refl

pub returns-clause-own_object : goal.returns-clause-own_object
unfolding evaluate matched same_value value_nodes value_depth inner_form
returns-clause-own_object c = refl

pub returns-clause-unknown : goal.returns-clause-unknown
unfolding evaluate matched same_value value_nodes value_depth inner_form
returns-clause-unknown c = refl
