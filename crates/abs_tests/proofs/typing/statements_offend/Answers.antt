use Rattle.std.proofs.Common.{refl}
use Rattle.abs_types.specs.Applications.{applied_type, meet, replaced}
use Rattle.abs_types.specs.Joins.{join_of}
use Rattle.abs_types.specs.Methods.{call_type, has_method, signatures_of_type}
use Rattle.abs_types.specs.OperatorTypes.{operator_type, prefix_type}
use Rattle.abs_types.specs.PatternTypes.{constructor_parts}
use Rattle.abs_types.specs.Schemes.{scheme_of_constructor, scheme_of_function}
use Rattle.abs_types.specs.Subtyping.{fits}
use Rattle.abs_tests.proofs.typing.statements_offend.Goals as goal

pub returns-clause-inner_return : goal.returns-clause-inner_return
unfolding call_type signatures_of_type scheme_of_function scheme_of_constructor applied_type meet replaced join_of fits operator_type prefix_type constructor_parts has_method
returns-clause-inner_return c = refl

pub returns-clause-early_return : goal.returns-clause-early_return
unfolding call_type signatures_of_type scheme_of_function scheme_of_constructor applied_type meet replaced join_of fits operator_type prefix_type constructor_parts has_method
returns-clause-early_return c = refl

pub returns-clause-main_return : goal.returns-clause-main_return
unfolding call_type signatures_of_type scheme_of_function scheme_of_constructor applied_type meet replaced join_of fits operator_type prefix_type constructor_parts has_method
returns-clause-main_return c = refl

pub returns-clause-without_values : goal.returns-clause-without_values
unfolding call_type signatures_of_type scheme_of_function scheme_of_constructor applied_type meet replaced join_of fits operator_type prefix_type constructor_parts has_method
returns-clause-without_values c = refl

pub returns-clause-wrong_calls : goal.returns-clause-wrong_calls
unfolding call_type signatures_of_type scheme_of_function scheme_of_constructor applied_type meet replaced join_of fits operator_type prefix_type constructor_parts has_method
returns-clause-wrong_calls c = refl
