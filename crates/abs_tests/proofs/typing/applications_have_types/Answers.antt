use Rattle.std.proofs.Common.{refl}
use Rattle.abs_types.specs.Applications.{applied_type, meet, replaced}
use Rattle.abs_types.specs.Joins.{join_of}
use Rattle.abs_types.specs.Methods.{call_type, has_method, signatures_of_type}
use Rattle.abs_types.specs.OperatorTypes.{operator_type, prefix_type}
use Rattle.abs_types.specs.PatternTypes.{constructor_parts}
use Rattle.abs_types.specs.Schemes.{scheme_of_constructor, scheme_of_function}
use Rattle.abs_types.specs.Subtyping.{fits}
use Rattle.abs_tests.proofs.typing.applications_have_types.Goals as goal

pub returns-clause-just : goal.returns-clause-just
unfolding call_type signatures_of_type scheme_of_function scheme_of_constructor applied_type meet replaced join_of fits operator_type prefix_type constructor_parts has_method
returns-clause-just c = refl

pub returns-clause-nothing : goal.returns-clause-nothing
unfolding call_type signatures_of_type scheme_of_function scheme_of_constructor applied_type meet replaced join_of fits operator_type prefix_type constructor_parts has_method
returns-clause-nothing c = refl

pub returns-clause-match_just : goal.returns-clause-match_just
unfolding call_type signatures_of_type scheme_of_function scheme_of_constructor applied_type meet replaced join_of fits operator_type prefix_type constructor_parts has_method
returns-clause-match_just c = refl

pub returns-clause-own_text : goal.returns-clause-own_text
unfolding call_type signatures_of_type scheme_of_function scheme_of_constructor applied_type meet replaced join_of fits operator_type prefix_type constructor_parts has_method
returns-clause-own_text c = refl

pub returns-clause-call : goal.returns-clause-call
unfolding call_type signatures_of_type scheme_of_function scheme_of_constructor applied_type meet replaced join_of fits operator_type prefix_type constructor_parts has_method
returns-clause-call c = refl
