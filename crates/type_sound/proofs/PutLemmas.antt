-- A frame after a value went to a target in it, in any configuration.
--
--   `same_or_not`              a target is this slot, or is not
--   `entry_after`, `field_after`       what is in a slot and in a field after a value went to a target
--   `frame_takes`              the frame is well typed, if the value has the type that the target takes
--   `class_fields`             the types of the fields that a routine can use are those of the class of its object
use Rattle.std.proofs.Common.{◌≡◌, ◌≢◌, ◌⊎◌, ⊎_elim, ◌<◌, ℕ, zero, suc, inl, inr, List, [], ◌∷◌, set, slice_get, Option, Some, None, refl, sym, ap, ◌∙◌, subst, arith}
use Rattle.std.proofs.lemmas.Bool.{cases_eq}
use Rattle.std.proofs.lemmas.Option.{same_Some, none-some, option_and_then_some}
use Rattle.std.specs.Prelude.{option_and_then}
use Rattle.abs_program.specs.ProgramBodies.{BodyAt}
use Rattle.abs_tree.specs.Syntax.{Name, MemberTree, FieldTree, MethodTree, ProgramTree}
use Rattle.abs_types.specs.OperatorTypes.{unit_type}
use Rattle.abs_types.specs.PlainTypes.{PlainType}
use Rattle.abs_types.specs.Typing.{known_at}
use Rattle.abs_values.specs.ValueTrees.{ValueTree}
use Rattle.config_state.specs.Bodies.{method_at}
use Rattle.config_state.specs.Configurations.{ObjectState, FrameState, Configuration}
use Rattle.config_state.specs.declared.frame.Target.{Target}
use Rattle.config_state.specs.declared.frame.Target.TheVariants.{Nothing, Local, Field}
use Rattle.step_rules.specs.Targets.{slots_after, fields_after}
use Rattle.type_sound.proofs.Events.{ValueIn}
use Rattle.type_sound.specs.Routines.{Routine, fields_of_class, method_tree, member_routine, routine_found, routine_of}
use Rattle.type_sound.specs.Visible.{IsVisible}
use Rattle.type_sound.specs.WellTyped.{IsFrameTyped, target_type_in}

-- what is in a list after an entry was set is that entry, or was there
set_entry : {A : Type 0} (list : List A) (at index : ℕ) (new found : A)
    → slice_get (set list at new) index ≡ Some found
    → ((at ≡ index) × (new ≡ found)) ⊎ ((at ≢ index) × (slice_get list index ≡ Some found))
set_entry [] at index new found is = absurd (none-some found is)
set_entry (first ∷ others) zero zero new found is = inl (refl, same_Some new found is)
set_entry (first ∷ others) zero (suc index) new found is = inr ((λ same. absurd cc), is)
set_entry (first ∷ others) (suc at) zero new found is = inr ((λ same. absurd cc), is)
set_entry (first ∷ others) (suc at) (suc index) new found is =
    ⊎_elim (λ own. inl (ap suc own.0, own.1)) (λ old. inr ((λ same. old.0 (omega (arith, same))), old.1))
    (set_entry others at index new found is)

-- the slot of a target, or this number where it has none
slot_or : ℕ → Target → ℕ
slot_or none Nothing = none
slot_or none (Field field) = none
slot_or none (Local slot) = slot

-- two slots that are the same target are the same
same_slot : (one other : ℕ) → Local one ≡ Local other → one ≡ other
unfolding slot_or
same_slot one other same = ap (slot_or one) same

-- a target is this slot, or is not
pub same_or_not : (target : Target) (slot : ℕ) → (target ≡ Local slot) ⊎ (target ≢ Local slot)
same_or_not Nothing slot = inr (λ same. absurd cc)
same_or_not (Field field) slot = inr (λ same. absurd cc)
same_or_not (Local one) slot =
    ⊎_elim (λ same. inl (ap Local same)) (λ differs. inr (λ same. differs (same_slot one slot same)))
    (cases_eq one slot)

-- what is in a slot after a value went to a target is the value, or was there
pub entry_after : (target : Target) (value : ValueTree) (slots : List ValueTree) (slot : ℕ) (found : ValueTree)
    → slice_get (slots_after target value slots) slot ≡ Some found
    → ((target ≡ Local slot) × (value ≡ found)) ⊎ ((target ≢ Local slot) × (slice_get slots slot ≡ Some found))
entry_after Nothing value slots slot found is = inr ((λ same. absurd cc), is)
entry_after (Field field) value slots slot found is = inr ((λ same. absurd cc), is)
entry_after (Local at) value slots slot found is =
    ⊎_elim (λ own. inl (ap Local own.0, own.1)) (λ old. inr ((λ same. old.0 (same_slot at slot same)), old.1))
    (set_entry slots at slot value found is)

-- what is in a field after a value went to a target is the value, or was there
pub field_after : (target : Target) (value : ValueTree) (fields : List ValueTree) (field : ℕ) (found : ValueTree)
    → slice_get (fields_after target value fields) field ≡ Some found
    → ((target ≡ Field field) × (value ≡ found)) ⊎ (slice_get fields field ≡ Some found)
field_after Nothing value fields field found is = inr is
field_after (Local slot) value fields field found is = inr is
field_after (Field at) value fields field found is =
    ⊎_elim (λ own. inl (ap Field own.0, own.1)) (λ old. inr old.1) (set_entry fields at field value found is)

module _ (program : ProgramTree) (config : Configuration) (frame : FrameState) (pending : Target)
    (typed : IsFrameTyped program config pending frame) (routine : Routine)
    (is : routine_of program config frame ≡ Some routine) where
  -- the types of the slots are those of the routine
  known_own : (slot : ℕ) (type : PlainType) → known_at routine.slots slot ≡ Some type
      → known_at typed.routine.slots slot ≡ Some type
  known_own slot type known =
      ap (λ (one : Routine). known_at one.slots slot) (same_Some typed.routine routine (sym typed.there ∙ is)) ∙ known

  -- A frame after a value went to a target in it is well typed, with another target of the frame above, if the value
  -- has the type that the target takes; if each slot that is visible next was visible before, or is the target; and if
  -- the result type is `Unit` where no statement is left.
  pub frame_takes : (next_pending target : Target) (value : ValueTree) (next : Option ℕ)
      → ((type : PlainType) → target_type_in routine target ≡ Some type → ValueIn program config value type)
      → ((statement slot : ℕ) → next ≡ Some statement → IsVisible program statement slot → next_pending ≢ Local slot
      → ((before : ℕ) × (frame.next ≡ Some before) × IsVisible program before slot × (pending ≢ Local slot))
      ⊎ (target ≡ Local slot))
      → (next ≡ None → routine.result ≡ unit_type)
      → IsFrameTyped program config next_pending
      (record frame { slots = slots_after target value frame.slots; next = next })
  frame_takes next_pending target value next takes sees ends = record {
    routine = routine;
    there = is;
    slots = λ slot found type at known. ⊎_elim (λ own. inr (by_own slot found type known own))
        (λ old. typed.slots slot found type old.1 (known_own slot type known))
        (entry_after target value frame.slots slot found at);
    params = λ slot within found type at known. ⊎_elim (λ own. by_own slot found type known own)
        (λ old. typed.params slot (by_params slot within) found type old.1 (known_own slot type known))
        (entry_after target value frame.slots slot found at);
    seen = λ statement slot goes visible apart found type at known. ⊎_elim
        (λ own. by_own slot found type known own)
        (λ old. by_sight slot found type known old (sees statement slot goes visible apart))
        (entry_after target value frame.slots slot found at);
    ends = ends;
  }
    where
      by_own : (slot : ℕ) (found : ValueTree) (type : PlainType) → known_at routine.slots slot ≡ Some type
          → (target ≡ Local slot) × (value ≡ found) → ValueIn program config found type
      by_own slot found type known own = subst (λ (one : ValueTree). ValueIn program config one type) own.1
          (takes type (ap (target_type_in routine) own.0 ∙ known))

      by_params : (slot : ℕ) → slot < routine.body.params → slot < typed.routine.body.params
      by_params slot within = subst (λ (one : Routine). slot < one.body.params)
          (same_Some routine typed.routine (sym is ∙ typed.there)) within

      by_sight : (slot : ℕ) (found : ValueTree) (type : PlainType) → known_at routine.slots slot ≡ Some type
          → (target ≢ Local slot) × (slice_get frame.slots slot ≡ Some found)
          → ((before : ℕ) × (frame.next ≡ Some before) × IsVisible program before slot × (pending ≢ Local slot))
          ⊎ (target ≡ Local slot) → ValueIn program config found type
      by_sight slot found type known old (inl before) =
          typed.seen before.0 slot before.1 before.2 before.3 found type old.1 (known_own slot type known)
      by_sight slot found type known old (inr own) = absurd (old.0 own)

-- the types of the fields that a method can use are those of its class
member_fields : (class : Name) (fields : List PlainType) (body : BodyAt) (member : MemberTree) (routine : Routine)
    → member_routine class fields body member ≡ Some routine → routine.start.fields ≡ fields
member_fields class fields body (MethodTree signature end statements) routine is =
    ap (λ (one : Routine). one.start.fields) (sym (same_Some _ routine is))
member_fields class fields body (FieldTree type name initial) routine is = absurd (none-some routine is)

-- the types of the fields that a routine can use are those of the class of its object
pub class_fields : (program : ProgramTree) (cell : ObjectState) (method : Option Name) (routine : Routine)
    → routine_found program (Some cell) method ≡ Some routine
    → routine.start.fields ≡ fields_of_class program cell.class
class_fields program cell None routine is = absurd (none-some routine is)
class_fields program cell (Some method) routine is =
    let fields = fields_of_class program cell.class in
    option_and_then_some (λ (body : BodyAt). option_and_then (member_routine cell.class fields body)
    (method_tree program cell.class method)) (method_at program cell.class method) routine is
    (λ body body_there found.
    option_and_then_some (member_routine cell.class fields body) (method_tree program cell.class method) routine found
    (λ member member_there made. member_fields cell.class fields body member routine made))
