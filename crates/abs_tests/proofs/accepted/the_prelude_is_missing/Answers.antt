use Rattle.std.proofs.Common.{refl, ap, arith, length}
use Rattle.abs_graph.specs.Graphs.{reaches_within}
use Rattle.abs_program.specs.PreludeTypes.{prelude_types}
use Rattle.abs_program.specs.Supertypes.{is_below}
use Rattle.abs_types.specs.Applications.{applied_type, meet, replaced}
use Rattle.abs_types.specs.Joins.{join_of}
use Rattle.abs_types.specs.Methods.{call_type, has_method, inherited_signatures, signatures_of_type}
use Rattle.abs_types.specs.OperatorTypes.{operator_type, prefix_type}
use Rattle.abs_types.specs.PatternTypes.{constructor_parts}
use Rattle.abs_types.specs.Schemes.{scheme_of_constructor, scheme_of_function}
use Rattle.abs_types.specs.Subtyping.{fits}
use Rattle.abs_types.specs.TypeOffences.{class_offences, function_offences, interface_offences, main_offences, type_offences}
use Rattle.abs_tests.proofs.accepted.the_prelude_is_missing.Goals as goal

pub returns-clause-typed : goal.returns-clause-typed
unfolding prelude_types class_offences function_offences interface_offences main_offences type_offences inherited_signatures is_below reaches_within fits call_type signatures_of_type scheme_of_function scheme_of_constructor applied_type meet replaced join_of operator_type prefix_type constructor_parts has_method
returns-clause-typed c = refl

-- it has one declaration, and is to have at least five
pub returns-clause-not_whole : goal.returns-clause-not_whole
unfolding prelude_types
returns-clause-not_whole c = λ whole. let same = ap length whole.prelude_first.are in omega (arith, same)
