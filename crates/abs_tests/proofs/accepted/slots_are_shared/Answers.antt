use Rattle.std.proofs.Common.{◌≡◌, ℕ, refl, ap, arith, get_or}
use Rattle.abs_program.specs.OwnSlots.{Given}
use Rattle.abs_tree.specs.Syntax.{VariableTree, AtSlot}
use Rattle.abs_tree.specs.declared.syntax.slot.Slot.TheVariants.{Local}
use Rattle.abs_graph.specs.Graphs.{reaches_within}
use Rattle.abs_program.specs.PreludeTypes.{prelude_types}
use Rattle.abs_program.specs.Supertypes.{is_below}
use Rattle.abs_types.specs.Applications.{applied_type, meet, replaced}
use Rattle.abs_types.specs.Joins.{join_of}
use Rattle.abs_types.specs.Methods.{call_type, has_method, inherited_signatures, signatures_of_type}
use Rattle.abs_types.specs.OperatorTypes.{operator_type, prefix_type}
use Rattle.abs_types.specs.PatternTypes.{constructor_parts}
use Rattle.abs_types.specs.Schemes.{scheme_of_constructor, scheme_of_function}
use Rattle.abs_types.specs.Subtyping.{fits}
use Rattle.abs_types.specs.TypeOffences.{class_offences, function_offences, interface_offences, main_offences, type_offences}
use Rattle.abs_tests.proofs.accepted.slots_are_shared.Goals as goal

abbrev slot_of : VariableTree → ℕ
slot_of (AtSlot slot) = slot
slot_of _ = 0

pub returns-clause-typed : goal.returns-clause-typed
unfolding prelude_types class_offences function_offences interface_offences main_offences type_offences inherited_signatures is_below reaches_within fits call_type signatures_of_type scheme_of_function scheme_of_constructor applied_type meet replaced join_of operator_type prefix_type constructor_parts has_method
returns-clause-typed c = refl

-- the second local has slot 0, and is to have slot 1
pub returns-clause-not_whole : goal.returns-clause-not_whole
returns-clause-not_whole c = λ whole.
    let same : 0 ≡ 1 =
    ap (λ (given : Given). slot_of (get_or given 1 (Local 0, AtSlot 0)).1) whole.own_slots.main.in_order in
    omega (arith, same)
