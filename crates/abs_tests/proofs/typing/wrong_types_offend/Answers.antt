use Rattle.std.proofs.Common.{refl}
use Rattle.abs_types.specs.Applications.{applied_type, meet, replaced}
use Rattle.abs_types.specs.Joins.{join_of}
use Rattle.abs_types.specs.Methods.{call_type, has_method, signatures_of_type}
use Rattle.abs_types.specs.OperatorTypes.{operator_type, prefix_type}
use Rattle.abs_types.specs.PatternTypes.{constructor_parts}
use Rattle.abs_types.specs.Schemes.{scheme_of_constructor, scheme_of_function}
use Rattle.abs_types.specs.Subtyping.{fits}
use Rattle.abs_tests.proofs.typing.wrong_types_offend.Goals as goal

pub returns-clause-untyped : goal.returns-clause-untyped
unfolding call_type signatures_of_type scheme_of_function scheme_of_constructor applied_type meet replaced join_of fits operator_type prefix_type constructor_parts has_method
returns-clause-untyped c = refl

pub returns-clause-sum : goal.returns-clause-sum
unfolding call_type signatures_of_type scheme_of_function scheme_of_constructor applied_type meet replaced join_of fits operator_type prefix_type constructor_parts has_method
returns-clause-sum c = refl

pub returns-clause-pattern : goal.returns-clause-pattern
unfolding call_type signatures_of_type scheme_of_function scheme_of_constructor applied_type meet replaced join_of fits operator_type prefix_type constructor_parts has_method
returns-clause-pattern c = refl
