use Rattle.std.proofs.Common.{◌≡◌, ℕ, ◌++◌, ◌∷◌, [], refl, ap, arith, get_or}
use Rattle.std.proofs.lemmas.List.Elements.{All-drop, All-head}
use Rattle.abs_program.specs.OwnSlots.{Given, DeclarationHasOwnSlots, MemberHasOwnSlots}
use Rattle.abs_tree.specs.Syntax.{VariableTree, AtSlot}
use Rattle.abs_tree.specs.declared.syntax.slot.Slot.TheVariants.{Local}
use Rattle.abs_tests.specs.AcceptedExamples.{own_class, own_method}
use Rattle.abs_graph.specs.Graphs.{reaches_within}
use Rattle.abs_program.specs.PreludeTypes.{prelude_types}
use Rattle.abs_program.specs.Supertypes.{is_below}
use Rattle.abs_types.specs.Applications.{applied_type, meet, replaced}
use Rattle.abs_types.specs.Joins.{join_of}
use Rattle.abs_types.specs.Methods.{call_type, has_method, inherited_signatures, signatures_of_type}
use Rattle.abs_types.specs.OperatorTypes.{operator_type, prefix_type}
use Rattle.abs_types.specs.PatternTypes.{constructor_parts}
use Rattle.abs_types.specs.Schemes.{scheme_of_constructor, scheme_of_function}
use Rattle.abs_types.specs.Subtyping.{fits}
use Rattle.abs_types.specs.TypeOffences.{class_offences, function_offences, interface_offences, main_offences, type_offences}
use Rattle.abs_tests.proofs.accepted.a_field_is_declared.Goals as goal

pub returns-clause-typed : goal.returns-clause-typed
unfolding prelude_types class_offences function_offences interface_offences main_offences type_offences inherited_signatures is_below reaches_within fits call_type signatures_of_type scheme_of_function scheme_of_constructor applied_type meet replaced join_of operator_type prefix_type constructor_parts has_method
returns-clause-typed c = refl

-- 1 for a slot, 0 for another variable
abbrev slots_of : VariableTree → ℕ
slots_of (AtSlot slot) = 1
slots_of _ = 0

-- the local is a field, and is to be slot 0
pub returns-clause-not_whole : goal.returns-clause-not_whole
unfolding prelude_types
returns-clause-not_whole c = λ whole.
    let class = All-head DeclarationHasOwnSlots own_class []
    (All-drop DeclarationHasOwnSlots 5 (prelude_types ++ own_class ∷ []) whole.own_slots.declarations) in
    let method = All-head MemberHasOwnSlots own_method [] class in
    let same : 0 ≡ 1 = ap (λ (given : Given). slots_of (get_or given 0 (Local 0, AtSlot 0)).1) method.in_order in
    omega (arith, same)
