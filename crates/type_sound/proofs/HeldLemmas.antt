-- What values of a type can hold, of one kind of reference: objects or futures. A type holds it where it is in the type
-- outside of `Fut`. What fits a type that holds nothing of a kind has nothing of it inside.
--
--   `Kind`                         what of the types holds a reference of a kind
--   `holds`, `any_holds`           a type, and one of several types, holds it
--   `applied_holds`                data that is applied to arguments holds what it or one of them does
--   `fits_holds`                   what a type holds is held by each type that it fits
--   `ConstructorsHold`             what a constructor takes is held by what it gives
--   `inside_is_held`               a reference that is inside a value is held by each type of the value
use Rattle.std.proofs.Common.{◌≡◌, ℕ, zero, suc, Bool, true, false, ◌||◌, ◌⊎◌, List, [], ◌∷◌, Some, sym, ap, ◌∙◌, get_or, length, map, inl, inr, ⊎_elim, true≢false}
use Rattle.std.proofs.Math.Bool.{or-false, or_assoc}
use Rattle.std.proofs.lemmas.Bool.{or_cases, or_left, or_right}
use Rattle.abs_tree.specs.Syntax.{Name, DeclTree, ProgramTree}
use Rattle.abs_types.proofs.ConstructorLemmas.{data_is_built}
use Rattle.abs_types.proofs.SubtypingLemmas.{fits_found}
use Rattle.abs_types.specs.Applications.{replaced}
use Rattle.abs_types.specs.PlainTypes.{PlainType, PlainInt, PlainString, PlainBottom, PlainNull, PlainFut, PlainData, PlainApplied, PlainInterface, PlainClass, PlainParameter, applied_to}
use Rattle.abs_types.specs.Schemes.{Scheme, scheme_of_constructor}
use Rattle.abs_types.specs.Subtyping.{Fits, fits}
use Rattle.abs_types.specs.Subtyping.Fits.{equal, bottom, null_interface, null_future, implements, extends, futures, applied}
use Rattle.abs_values.specs.References.{Reference, ToObject, ToFuture, IsIn, IsInAny}
use Rattle.abs_values.specs.ValueTrees.{ValueTree, IntValue, StringValue, BuiltValue, ObjectValue, FutureValue, NullValue, ValueTrees, NoPart, NextPart}
use Rattle.type_sound.specs.Values.{World, ValueHas, PartsHave}

-- whether data with a name holds a reference of a kind by itself, whether `Fut` does, and whether interfaces and classes
-- do
pub record Kind : Type 0 where
  pub in_data : Name → Bool
  pub in_futures : Bool
  pub in_objects : Bool

-- whether a type holds it, and whether one of several types does
abbrev pub holds : Kind → PlainType → Bool
holds kind (PlainFut value) = kind.in_futures
holds kind (PlainData name) = kind.in_data name
holds kind (PlainApplied head argument) = holds kind head || holds kind argument
holds kind (PlainInterface name) = kind.in_objects
holds kind (PlainClass name) = kind.in_objects
holds kind PlainInt = false
holds kind PlainString = false
holds kind PlainBottom = false
holds kind PlainNull = false
holds kind (PlainParameter index) = false

abbrev pub any_holds : Kind → List PlainType → Bool
any_holds kind [] = false
any_holds kind (type ∷ types) = holds kind type || any_holds kind types

-- data that is applied to arguments holds what it or one of them does
pub applied_holds : (kind : Kind) (head : PlainType) (arguments : List PlainType)
    → holds kind (applied_to head arguments) ≡ holds kind head || any_holds kind arguments
applied_holds kind head [] = sym (or-false (holds kind head))
applied_holds kind head (argument ∷ others) =
    applied_holds kind (PlainApplied head argument) others
    ∙ or_assoc (holds kind head) (holds kind argument) (any_holds kind others)

-- what a type holds is held by each type that it fits
Fits_holds : {declarations : List DeclTree} {one other : PlainType} (kind : Kind) → Fits declarations one other
    → holds kind one ≡ true → holds kind other ≡ true
Fits_holds kind (equal one) held = held
Fits_holds kind (bottom other) held = absurd (true≢false (sym held))
Fits_holds kind (null_interface name) held = absurd (true≢false (sym held))
Fits_holds kind (null_future value) held = absurd (true≢false (sym held))
Fits_holds kind (implements class interface reported) held = held
Fits_holds kind (extends one other reported) held = held
Fits_holds kind (futures one other parts) held = held
Fits_holds kind (applied head other_head argument other_argument heads arguments) held = ⊎_elim
    (λ in_head. or_left (holds kind other_head) (holds kind other_argument) (Fits_holds kind heads in_head))
    (λ in_argument. or_right (holds kind other_head) (holds kind other_argument)
    (Fits_holds kind arguments in_argument))
    (or_cases (holds kind head) (holds kind argument) held)

pub fits_holds : (kind : Kind) (declarations : List DeclTree) (one other : PlainType)
    → fits declarations one other ≡ true → holds kind one ≡ true → holds kind other ≡ true
fits_holds kind declarations one other reported = Fits_holds kind (fits_found declarations one other reported)

-- the entry of a list at an index, or a type parameter, holds it only where one of the list does
entry_holds : (kind : Kind) (types : List PlainType) (index own : ℕ)
    → holds kind (get_or types index (PlainParameter own)) ≡ true → any_holds kind types ≡ true
entry_holds kind [] index own held = absurd (true≢false (sym held))
entry_holds kind (type ∷ types) zero own held = or_left (holds kind type) (any_holds kind types) held
entry_holds kind (type ∷ types) (suc index) own held =
    or_right (holds kind type) (any_holds kind types) (entry_holds kind types index own held)

-- a type whose type parameters are replaced holds it only where the type or one of the replacing types does
replaced_holds : (kind : Kind) (types : List PlainType) (type : PlainType)
    → holds kind (replaced types type) ≡ true → (holds kind type ≡ true) ⊎ (any_holds kind types ≡ true)
unfolding replaced
replaced_holds kind types (PlainParameter index) held = inr (entry_holds kind types index index held)
replaced_holds kind types (PlainApplied head argument) held = ⊎_elim
    (λ in_head. ⊎_elim (λ own. inl (or_left (holds kind head) (holds kind argument) own)) (λ other. inr other)
    (replaced_holds kind types head in_head))
    (λ in_argument. ⊎_elim (λ own. inl (or_right (holds kind head) (holds kind argument) own)) (λ other. inr other)
    (replaced_holds kind types argument in_argument))
    (or_cases (holds kind (replaced types head)) (holds kind (replaced types argument)) held)
replaced_holds kind types (PlainFut value) held = inl held
replaced_holds kind types (PlainData name) held = inl held
replaced_holds kind types (PlainInterface name) held = inl held
replaced_holds kind types (PlainClass name) held = inl held
replaced_holds kind types PlainInt held = inl held
replaced_holds kind types PlainString held = inl held
replaced_holds kind types PlainBottom held = inl held
replaced_holds kind types PlainNull held = inl held

-- what a type holds, it still holds with its type parameters replaced
still_holds : (kind : Kind) (types : List PlainType) (type : PlainType) → holds kind type ≡ true
    → holds kind (replaced types type) ≡ true
unfolding replaced
still_holds kind types (PlainParameter index) held = absurd (true≢false (sym held))
still_holds kind types (PlainApplied head argument) held = ⊎_elim
    (λ in_head. or_left (holds kind (replaced types head)) (holds kind (replaced types argument))
    (still_holds kind types head in_head))
    (λ in_argument. or_right (holds kind (replaced types head)) (holds kind (replaced types argument))
    (still_holds kind types argument in_argument))
    (or_cases (holds kind head) (holds kind argument) held)
still_holds kind types (PlainFut value) held = held
still_holds kind types (PlainData name) held = held
still_holds kind types (PlainInterface name) held = held
still_holds kind types (PlainClass name) held = held
still_holds kind types PlainInt held = held
still_holds kind types PlainString held = held
still_holds kind types PlainBottom held = held
still_holds kind types PlainNull held = held

-- where one of several types with replaced type parameters holds it, one of them or of the replacing types does
any_replaced_holds : (kind : Kind) (arguments types : List PlainType)
    → any_holds kind (map (replaced arguments) types) ≡ true
    → (any_holds kind types ≡ true) ⊎ (any_holds kind arguments ≡ true)
any_replaced_holds kind arguments [] held = inl held
any_replaced_holds kind arguments (type ∷ types) held = ⊎_elim
    (λ here. ⊎_elim (λ own. inl (or_left (holds kind type) (any_holds kind types) own)) (λ other. inr other)
    (replaced_holds kind arguments type here))
    (λ there. ⊎_elim (λ own. inl (or_right (holds kind type) (any_holds kind types) own)) (λ other. inr other)
    (any_replaced_holds kind arguments types there))
    (or_cases (holds kind (replaced arguments type)) (any_holds kind (map (replaced arguments) types)) held)

-- A reference is of a kind: objects hold it if it is one to an object, and futures if it is one to a future.
pub record IsOfKind (kind : Kind) (reference : Reference) : Type 0 where
  pub to_object : (object : ℕ) → reference ≡ ToObject object → kind.in_objects ≡ true
  pub to_future : (task : ℕ) → reference ≡ ToFuture task → kind.in_futures ≡ true

-- What a constructor takes is held by what it gives.
pub record ConstructorsHold (kind : Kind) (declarations : List DeclTree) : Type 0 where
  pub gives : (name : Name) (scheme : Scheme) → scheme_of_constructor declarations name ≡ Some scheme
      → any_holds kind scheme.takes ≡ true → holds kind scheme.gives ≡ true

-- what a constructor takes for arguments of its data, its data with these holds
built_holds : (kind : Kind) (declarations : List DeclTree) → ConstructorsHold kind declarations → (name : Name)
    (scheme : Scheme) (arguments : List PlainType) → scheme_of_constructor declarations name ≡ Some scheme
    → length arguments ≡ scheme.parameters → any_holds kind (map (replaced arguments) scheme.takes) ≡ true
    → holds kind (replaced arguments scheme.gives) ≡ true
built_holds kind declarations hold name scheme arguments named many held =
    let built = data_is_built declarations name scheme arguments named many in
    ⊎_elim
    (λ taken. still_holds kind arguments scheme.gives (hold.gives name scheme named taken))
    (λ given. ap (holds kind) built.1 ∙ (applied_holds kind (PlainData built.0) arguments
    ∙ or_right (holds kind (PlainData built.0)) (any_holds kind arguments) given))
    (any_replaced_holds kind arguments scheme.takes held)

mutual
  unfolding ValueHas PartsHave IsIn IsInAny

  -- a reference that is inside a value is held by each type of the value
  pub inside_is_held : (program : ProgramTree) (world : World) (kind : Kind) (reference : Reference)
      → ConstructorsHold kind program.source.declarations → IsOfKind kind reference → (value : ValueTree)
      (type : PlainType) → ValueHas program world value type → IsIn reference value → holds kind type ≡ true
  inside_is_held program world kind reference hold is (IntValue number) type has inside = absurd inside
  inside_is_held program world kind reference hold is (StringValue string) type has inside = absurd inside
  inside_is_held program world kind reference hold is NullValue type has inside = absurd inside
  inside_is_held program world kind reference hold is (ObjectValue object) type has inside =
      fits_holds kind program.source.declarations (PlainClass has.0) type has.2 (is.to_object object inside)
  inside_is_held program world kind reference hold is (FutureValue task) type has inside =
      fits_holds kind program.source.declarations (PlainFut has.0) type has.2 (is.to_future task inside)
  inside_is_held program world kind reference hold is (BuiltValue constructor parts) type has inside =
      fits_holds kind program.source.declarations (replaced has.2 has.1.gives) type has.6
      (built_holds kind program.source.declarations hold has.0 has.1 has.2 has.4 has.5
      (inside_part_is_held program world kind reference hold is parts (map (replaced has.2) has.1.takes) has.7 inside))

  inside_part_is_held : (program : ProgramTree) (world : World) (kind : Kind) (reference : Reference)
      → ConstructorsHold kind program.source.declarations → IsOfKind kind reference → (parts : ValueTrees)
      (types : List PlainType) → PartsHave program world parts types → IsInAny reference parts
      → any_holds kind types ≡ true
  inside_part_is_held program world kind reference hold is NoPart types have inside = absurd inside
  inside_part_is_held program world kind reference hold is (NextPart first others) [] have inside = absurd have
  inside_part_is_held program world kind reference hold is (NextPart first others) (type ∷ types) have inside = ⊎_elim
      (λ here. or_left (holds kind type) (any_holds kind types)
      (inside_is_held program world kind reference hold is first type have.0 here))
      (λ there. or_right (holds kind type) (any_holds kind types)
      (inside_part_is_held program world kind reference hold is others types have.1 there))
      inside
