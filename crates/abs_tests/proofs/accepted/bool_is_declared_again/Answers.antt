use Rattle.std.proofs.Common.{◌≡◌, ℕ, Option, Some, refl, ap, arith}
use Rattle.abs_graph.specs.Graphs.{reaches_within}
use Rattle.abs_program.specs.PreludeTypes.{prelude_types}
use Rattle.abs_program.specs.Supertypes.{is_below}
use Rattle.abs_program.specs.declared.name_spaces.TypeMeaning.{TypeMeaning}
use Rattle.abs_program.specs.declared.name_spaces.TypeMeaning.TheVariants as type
use Rattle.abs_types.specs.Applications.{applied_type, meet, replaced}
use Rattle.abs_types.specs.Joins.{join_of}
use Rattle.abs_types.specs.Methods.{call_type, has_method, inherited_signatures, signatures_of_type}
use Rattle.abs_types.specs.OperatorTypes.{operator_type, prefix_type}
use Rattle.abs_types.specs.PatternTypes.{constructor_parts}
use Rattle.abs_types.specs.Schemes.{scheme_of_constructor, scheme_of_function}
use Rattle.abs_types.specs.Subtyping.{fits}
use Rattle.abs_types.specs.TypeOffences.{class_offences, function_offences, interface_offences, main_offences, type_offences}
use Rattle.abs_tests.proofs.accepted.bool_is_declared_again.Goals as goal

pub returns-clause-typed : goal.returns-clause-typed
unfolding prelude_types class_offences function_offences interface_offences main_offences type_offences inherited_signatures is_below reaches_within fits call_type signatures_of_type scheme_of_function scheme_of_constructor applied_type meet replaced join_of operator_type prefix_type constructor_parts has_method
returns-clause-typed c = refl

-- the index of the declaration of data
abbrev data_index : Option TypeMeaning → ℕ
data_index (Some (type.Data taking)) = taking.declaration
data_index _ = 0

-- the name `Bool` stands for the declaration of the prelude, and not for the one after it
pub returns-clause-not_whole : goal.returns-clause-not_whole
unfolding prelude_types
returns-clause-not_whole c = λ whole.
    let same : 1 ≡ 5 = ap data_index whole.types_once.1.1.1.1.1.0 in
    omega (arith, same)
