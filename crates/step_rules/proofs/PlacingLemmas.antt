-- Lists of the code after an entry of them is changed.
--
--   `last-set`                         the last frame is the innermost one
--   `updated-there`, `updated-past`    an entry that is there, and one that is not there
--   `written-same`                     a value that goes to no field
--   `written-there`, `written-past`    a value that goes to an object that is there, and to one that is not there
--   `enters-objects`                   a frame that is pushed writes nothing
--   `goes_on-objects`                  a task that goes on writes where its value goes
use Rattle.std.proofs.Common.{◌≡◌, ℕ, zero, suc, ◌-◌, List, [], ◌∷◌, ◌++◌, length, map, reverse, set, get_or, slice_get, Option, Some, None, refl, sym, ap, ◌∙◌, subst, arith}
use Rattle.std.proofs.lemmas.List.{get_or_at, set_at, map-set, length-append}
use Rattle.std.proofs.lemmas.Option.{same_Some, slice_get-map}
use Rattle.std.specs.Option.{option_map}
use Rattle.abs_tree.specs.Syntax.{Name}
use Rattle.abs_values.specs.ValueTrees.{ValueTree}
use Rattle.abs_values.specs.ValueViews.{value_tree}
use Rattle.abs_values.specs.declared.value.Value.{Value}
use Rattle.config_state.specs.Configurations.{ObjectState, FrameState, Configuration, object_at, fields_of}
use Rattle.config_state.specs.Views.{object_state, task_state}
use Rattle.config_state.specs.declared.frame.Frame.{Frame}
use Rattle.config_state.specs.declared.frame.Target.{Target}
use Rattle.config_state.specs.declared.object.ObjectCell.{ObjectCell}
use Rattle.config_state.specs.declared.task.TaskCell.{TaskCell}
use Rattle.step_rules.specs.Changes.{Change, updated, with_fields}
use Rattle.step_rules.specs.Placing.{frames_of, writing, IsTurn}
use Rattle.step_rules.specs.Plans.{turn_change}
use Rattle.step_rules.specs.Targets.{fields_after}
use Rattle.step_rules.specs.declared.plan.Turn.{Turn}
use Rattle.step_rules.specs.declared.plan.Turn.TheVariants.{Enters, GoesOn}
use Rattle.list_facts.proofs.MapLemmas.{reverse-map_last}

-- A list is empty, or it has a last entry.
data HasLast {A : Type 0} (list : List A) : Type 0 where
  Empty : list ≡ [] → HasLast list
  Ends : (front : List A) (last : A) → list ≡ front ++ last ∷ [] → HasLast list

has_last : {A : Type 0} (list : List A) → HasLast list
has_last [] = Empty refl
has_last {A} (first ∷ others) = next (has_last others)
  where
    next : HasLast others → HasLast (first ∷ others)
    next (Empty none) = Ends [] first (ap (λ (rest : List A). first ∷ rest) none)
    next (Ends front last is) = Ends (first ∷ front) last (ap (λ (rest : List A). first ∷ rest) is)

-- The entry is the last one of a list, and with a new one in its place another one is first in the other order.
pub record IsLast {A B : Type 0} (f : A → B) (list : List A) (entry new : A) (first : B) (others : List B) : Type 0
  where
    pub entry_is : f entry ≡ first
    pub changed : reverse (map f (set list (length list - 1) new)) ≡ f new ∷ others

-- the last entry of a list is that which is first in the other order
pub last-set : {A B : Type 0} (f : A → B) (list : List A) (entry new : A) (first : B) (others : List B)
    → reverse (map f list) ≡ first ∷ others → entry ≡ get_or list (length list - 1) entry
    → IsLast f list entry new first others
last-set {A} {B} f list entry new first others order read = by_last (has_last list)
  where
    at_last : (front : List A) (last : A) (place : ℕ) → reverse (map f (front ++ last ∷ [])) ≡ first ∷ others
        → length front ≡ place → entry ≡ get_or (front ++ last ∷ []) place entry
        → (f entry ≡ first) × (reverse (map f (set (front ++ last ∷ []) place new)) ≡ f new ∷ others)
    at_last front last place order before read =
        let turned : f last ∷ reverse (map f front) ≡ first ∷ others = sym (reverse-map_last f front last) ∙ order in
        let same : entry ≡ last = read ∙ get_or_at front last [] entry place before in
        (cc, rw (set_at front last [] new place before, reverse-map_last f front new) (cc))

    by_last : HasLast list → IsLast f list entry new first others
    by_last (Empty none) =
        absurd (let order : [] ≡ first ∷ others = subst (λ (one : List A). reverse (map f one) ≡ first ∷ others) none
        order in cc)
    by_last (Ends front last is) =
        let found = at_last front last (length list - 1) (rw is at order)
        (omega (arith, ap length is, length-append front (last ∷ [])))
        (subst (λ (one : List A). entry ≡ get_or one (length list - 1) entry) is read) in
        record {
          entry_is = found.0;
          changed = subst (λ (one : List A). reverse (map f (set one (length list - 1) new)) ≡ f new ∷ others) (sym is)
              found.1;
        }

-- to change an entry that is there is to set it
pub updated-there : {A : Type 0} (change : A → A) (list : List A) (index : ℕ) (entry : A)
    → slice_get list index ≡ Some entry → updated change list index ≡ set list index (change entry)
updated-there change [] index entry there = refl
updated-there {A} change (first ∷ others) zero entry there =
    let same : first ≡ entry = cc in ap (λ (one : A). change one ∷ others) same
updated-there {A} change (first ∷ others) (suc index) entry there =
    ap (λ (rest : List A). first ∷ rest) (updated-there change others index entry there)

-- to change an entry that is not there changes nothing
pub updated-past : {A : Type 0} (change : A → A) (list : List A) (index : ℕ) → slice_get list index ≡ None
    → updated change list index ≡ list
updated-past change [] index past = refl
updated-past change (first ∷ others) zero past = absurd cc
updated-past {A} change (first ∷ others) (suc index) past =
    ap (λ (rest : List A). first ∷ rest) (updated-past change others index past)

-- fields that are written as they were
same_fields : (objects : List ObjectState) (at : ℕ)
    → updated (λ (entry : ObjectState). record entry { fields = fields_of (slice_get objects at) }) objects at ≡ objects
same_fields [] at = refl
same_fields (first ∷ others) zero = refl
same_fields (first ∷ others) (suc at) = ap (λ (rest : List ObjectState). first ∷ rest) (same_fields others at)

-- a value that goes to no field leaves the objects as they were
pub written-same : (objects : List ObjectState) (object : Option ℕ) (target : Target) (value : ValueTree)
    → ((fields : List ValueTree) → fields_after target value fields ≡ fields)
    → with_fields objects (writing objects object target value) ≡ objects
written-same objects None target value same = refl
written-same objects (Some at) target value same =
    ap (λ (fields : List ValueTree). with_fields objects (Some (record { object = at; fields = fields })))
    (same (fields_of (slice_get objects at))) ∙ same_fields objects at

-- a value that goes to a target changes the fields of an object that is there
pub written-there : (names : List Name) (objects : List ObjectCell) (at : ℕ) (cell new : ObjectCell) (target : Target)
    (value : ValueTree) → slice_get objects at ≡ Some cell
    → new ≡ record cell { fields = fields_after target value cell.fields }
    → map (object_state names) (set objects at new)
    ≡ with_fields (map (object_state names) objects) (writing (map (object_state names) objects) (Some at) target value)
written-there names objects at cell new target value there is = map-set (object_state names) objects at new
    ∙ (ap (set list at) (ap (object_state names) is
    ∙ ap (λ (found : Option ObjectState). written found (object_state names cell)) (sym now))
    ∙ sym (updated-there (written (slice_get list at)) list at (object_state names cell) now))
  where
    list : List ObjectState
    list = map (object_state names) objects

    written : Option ObjectState → ObjectState → ObjectState
    written found entry = record entry { fields = fields_after target value (fields_of found) }

    now : slice_get (map (object_state names) objects) at ≡ Some (object_state names cell)
    now = slice_get-map (object_state names) objects at ∙ ap (option_map (object_state names)) there

-- a value that goes to a target of an object that is not there changes nothing
pub written-past : (names : List Name) (objects : List ObjectCell) (at : ℕ) (target : Target) (value : ValueTree)
    → slice_get objects at ≡ None → map (object_state names) objects
    ≡ with_fields (map (object_state names) objects) (writing (map (object_state names) objects) (Some at) target value)
written-past names objects at target value past = sym (updated-past _ (map (object_state names) objects) at
    (slice_get-map (object_state names) objects at ∙ ap (option_map (object_state names)) past))

-- fields of the object of a frame, if there is one, that are written as they were
kept_fields : (config : Configuration) (object : Option ℕ) → with_fields config.objects
    (option_map (λ (at : ℕ). record { object = at; fields = fields_of (object_at config object) }) object)
    ≡ config.objects
kept_fields config None = refl
kept_fields config (Some at) = same_fields config.objects at

-- a frame that is pushed leaves the objects as they were
pub enters-objects : (names : List Name) (objects : List ObjectCell) (index : ℕ) (cell : TaskCell) (turn : Turn)
    (frame : Frame) (next : Option ℕ) (change : Change) → turn ≡ Enters frame next
    → IsTurn names objects index cell turn change
    → map (object_state names) objects ≡ with_fields (map (object_state names) objects) change.written
enters-objects names objects index cell turn frame next change enters is =
    by_frames (task_state names cell).frames (rw enters at is.is)
  where
    by_frames : (frames : List FrameState)
        → turn_change names is.config index (task_state names cell) frames is.lines is.kind (Enters frame next)
        ≡ Some change → map (object_state names) objects ≡ with_fields (map (object_state names) objects) change.written
    by_frames [] changes = absurd cc
    by_frames (below ∷ others) changes = rw (← is.objects_are)
        (sym (kept_fields is.config below.object)
        ∙ ap (λ (one : Change). with_fields is.config.objects one.written) (same_Some _ change changes))

-- what a task that goes on writes is what its value writes
writes : (config : Configuration) (object : Option ℕ) (target : Target) (value : ValueTree)
    → writing config.objects object target value ≡ option_map (λ (at : ℕ).
    record { object = at; fields = fields_after target value (fields_of (object_at config object)) }) object
writes config None target value = refl
writes config (Some at) target value = refl

-- a task that goes on changes the objects as its value does
pub goes_on-objects : (names : List Name) (objects moved : List ObjectCell) (index : ℕ) (cell : TaskCell) (turn : Turn)
    (target : Target) (value : Value) (next : Option ℕ) (change : Change) → turn ≡ GoesOn target value next
    → IsTurn names objects index cell turn change
    → ((frame : FrameState) (others : List FrameState) → frames_of names cell.frames ≡ frame ∷ others
    → map (object_state names) moved ≡ with_fields (map (object_state names) objects)
    (writing (map (object_state names) objects) frame.object target (value_tree value)))
    → map (object_state names) moved ≡ with_fields (map (object_state names) objects) change.written
goes_on-objects names objects moved index cell turn target value next change goes is moves =
    by_frames (frames_of names cell.frames) refl (rw goes at is.is)
  where
    by_frames : (frames : List FrameState) → frames_of names cell.frames ≡ frames
        → turn_change names is.config index (task_state names cell) frames is.lines is.kind (GoesOn target value next)
        ≡ Some change
        → map (object_state names) moved ≡ with_fields (map (object_state names) objects) change.written
    by_frames [] order changes = absurd cc
    by_frames (frame ∷ others) order changes = moves frame others order
        ∙ ap (with_fields (map (object_state names) objects))
        (ap (λ (list : List ObjectState). writing list frame.object target (value_tree value)) (sym is.objects_are)
        ∙ (writes is.config frame.object target (value_tree value)
        ∙ ap (λ (one : Change). one.written) (same_Some _ change changes)))
