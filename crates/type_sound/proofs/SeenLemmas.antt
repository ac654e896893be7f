-- Frames that see what is visible: where a routine begins, its parameters alone, and after a declaration its slot too.
-- All else around the statements of a routine is the same at each of them.
--
--   `Sees`, `sees_after`           a frame sees slots of a set alone, with their declared types, after a statement too
--   `IsAround`, `around_after`     all else is the same, after a statement too
--   `first_sees`                   at first parameters are seen alone
use Rattle.std.proofs.Common.{◌≡◌, ◌<◌, ◌||◌, ◌⊎◌, inl, inr, ℕ, zero, suc, Bool, true, false, nat_eq, nat_lt, List, [], ◌∷◌, ◌++◌, map, set, replicate, Option, Some, None, refl, sym, ap, ◌∙◌, subst, arith, slice_get}
use Rattle.std.specs.List.{AllByRecursion}
use Rattle.std.proofs.lemmas.Bool.Decides.{nat_tests}
use Rattle.std.proofs.lemmas.List.{length-map}
use Rattle.std.proofs.lemmas.Option.{none-some, same_Some, slice_get_within}
use Rattle.abs_program.specs.Flows.{Slots, IsWithin, fact_after, fact_after_one}
use Rattle.abs_tree.specs.Syntax.{VariableTree, AtSlot, AtBound, AtField, Unresolved, Statement, DeclareOf, ParamTree, ProgramTree}
use Rattle.abs_types.specs.PlainTypes.{PlainType, plain}
use Rattle.abs_types.specs.Schemes.{param_types}
use Rattle.abs_types.specs.StatementOffences.{frame_after, with_variable}
use Rattle.abs_types.specs.Typing.{Frame, known_at}
use Rattle.type_sound.proofs.OwnSlotLemmas.{OwnSlot, declared_in_one}
use Rattle.type_sound.proofs.RoutineLemmas.{IsRoutine}
use Rattle.type_sound.proofs.SightLemmas.{stays_visible_one}
use Rattle.type_sound.proofs.SlotLemmas.{declared-param}
use Rattle.type_sound.specs.Routines.{Routine}
use Rattle.type_sound.specs.Visible.{declares, visible}

-- the frame sees slots of this set alone, with their declared types
abbrev pub Sees : Frame → List (Option PlainType) → Slots → Type 0
Sees frame types fact = (slot : ℕ) (type : PlainType) → known_at frame.slots slot ≡ Some type
    → (fact slot ≡ true) × (known_at types slot ≡ Some type)

-- Around a statement is what is around the first one, but for what is visible.
pub record IsAround (start frame : Frame) : Type 0 where
  pub fields : frame.fields ≡ start.fields
  pub this : frame.this ≡ start.this
  pub task : frame.task ≡ start.task

-- a type that is found after one was put at an index is that type, or was there before
known_at-set : (list : List (Option PlainType)) (index slot : ℕ) (new type : PlainType)
    → known_at (set list index (Some new)) slot ≡ Some type
    → ((index ≡ slot) × (new ≡ type)) ⊎ (known_at list slot ≡ Some type)
known_at-set [] index slot new type is = inr is
known_at-set (first ∷ others) zero zero new type is = inl (refl, same_Some new type is)
known_at-set (first ∷ others) zero (suc slot) new type is = inr is
known_at-set (first ∷ others) (suc index) zero new type is = inr is
known_at-set (first ∷ others) (suc index) (suc slot) new type is =
    by_case (known_at-set others index slot new type is)
  where
    by_case : ((index ≡ slot) × (new ≡ type)) ⊎ (known_at others slot ≡ Some type)
        → ((suc index ≡ suc slot) × (new ≡ type)) ⊎ (known_at others slot ≡ Some type)
    by_case (inl now) = inl (ap suc now.0, now.1)
    by_case (inr before) = inr before

-- one of two tests holds if the first does
or_before : (one other : Bool) → one ≡ true → (one || other) ≡ true
or_before one other is = ap (λ (found : Bool). found || other) is

-- so it is if the second does
or_after : (one other : Bool) → other ≡ true → (one || other) ≡ true
or_after true other is = refl
or_after false other is = is

-- after a declaration its slot is seen too
sees_declared : (frame : Frame) (types : List (Option PlainType)) (fact : Slots) (own : ℕ) (type : PlainType)
    → known_at types own ≡ Some type → Sees frame types fact
    → Sees (record frame { slots = set frame.slots own (Some type) }) types (λ slot. fact slot || nat_eq own slot)
sees_declared frame types fact own type is sees slot found known =
    by_case (known_at-set frame.slots own slot type found known)
  where
    by_case : ((own ≡ slot) × (type ≡ found)) ⊎ (known_at frame.slots slot ≡ Some found)
        → ((fact slot || nat_eq own slot) ≡ true) × (known_at types slot ≡ Some found)
    by_case (inl now) =
        let same : nat_eq own slot ≡ true = let at = now.0 in grind (arith, nat_tests) in (
          or_after (fact slot) (nat_eq own slot) same,
          ap (known_at types) (sym now.0) ∙ (is ∙ ap Some now.1),
        )
    by_case (inr before) =
        let seen = sees slot found before in (or_before (fact slot) (nat_eq own slot) seen.0, seen.1)

-- what is seen is in a larger set
sees_within : (frame : Frame) (types : List (Option PlainType)) (one other : Slots) → IsWithin one other
    → Sees frame types one → Sees frame types other
sees_within frame types one other within sees slot type known =
    let seen = sees slot type known in (within slot seen.0, seen.1)

-- After a statement a frame sees what is visible after it.
pub sees_after : (frame : Frame) (types : List (Option PlainType)) (fact : Slots) (statement : Statement)
    → AllByRecursion (OwnSlot types) (declared_in_one statement) → Sees frame types fact
    → Sees (frame_after frame statement) types (fact_after_one visible fact statement)
unfolding fact_after
sees_after frame types fact (DeclareOf index place type variable_place variable initial) own sees =
    subst (λ (one : VariableTree). Sees (with_variable frame one (plain type)) types
    (λ slot. fact slot || declares (DeclareOf index place type variable_place one initial) slot)) (sym own.0.1)
    (sees_declared frame types fact own.0.0 (plain type) own.0.2 sees)
sees_after frame types fact statement own sees =
    sees_within frame types fact (fact_after_one visible fact statement) (stays_visible_one fact statement) sees

-- a declaration changes nothing but what is visible
around_variable : (start frame : Frame) (variable : VariableTree) (type : PlainType) → IsAround start frame
    → IsAround start (with_variable frame variable type)
around_variable start frame (AtSlot slot) type is =
    record { fields = is.fields; this = is.this; task = is.task }
around_variable start frame (AtBound depth) type is = is
around_variable start frame (AtField field) type is = is
around_variable start frame (Unresolved name) type is = is

-- Around the next statement is what is around the first one, but for what is visible.
pub around_after : (start frame : Frame) (statement : Statement) → IsAround start frame
    → IsAround start (frame_after frame statement)
around_after start frame (DeclareOf index place type variable_place variable initial) is =
    around_variable start frame variable (plain type) is
around_after start frame statement is = is

-- slots without types have none
none_known : (count slot : ℕ) (type : PlainType) → known_at (replicate count None) slot ≡ Some type → ⊥
none_known zero slot type is = none-some type is
none_known (suc count) zero type is = none-some type is
none_known (suc count) (suc slot) type is = none_known count slot type is

-- at first a slot has the type of the parameter with its index
first_known : (types : List PlainType) (count slot : ℕ) (type : PlainType)
    → known_at (map Some types ++ replicate count None) slot ≡ Some type → slice_get types slot ≡ Some type
first_known [] count slot type is = absurd (none_known count slot type is)
first_known (first ∷ others) count zero type is = is
first_known (first ∷ others) count (suc slot) type is = first_known others count slot type is

-- The frame around the first statement of a routine sees its parameters alone.
pub first_sees : (program : ProgramTree) (routine : Routine) → IsRoutine program routine
    → Sees routine.start routine.slots (λ slot. nat_lt slot routine.body.params)
first_sees program routine is slot type known =
    let among = first_known (param_types is.params) _ slot type
    (ap (λ (slots : List (Option PlainType)). known_at slots slot) (sym is.begins) ∙ known) in
    let below = slice_get_within (param_types is.params) slot type among in
    let counted = length-map is.params (λ (param : ParamTree). plain param.type_of) in
    let within : slot < routine.body.params = omega (arith, below, counted, is.param_count) in (
      grind (arith, nat_tests),
      ap (λ (slots : List (Option PlainType)). known_at slots slot) is.declared
          ∙ declared-param is.params routine.body.statements slot type among,
    )
