-- Values and their types: a value has each type that one of its types fits, and keeps its types where there are more
-- objects and tasks. Of which form a value of a type is.
--
--   `value_up`, `all_up`, `parts_up`   values have each type that their types fit
--   `parts_of_values`                  parts that are made of values have their types
--   `number_found`, `string_found`     a value of type Int is a number, and one of type String a string
--   `none_has_bottom`                  no value has the type of no value
--   `Grows`, `value_grows`             a world that has more objects and tasks, where values keep their types
use Rattle.std.proofs.Common.{◌≡◌, ℕ, ℤ, true, false, List, [], ◌∷◌, Some, refl, sym, ap, ◌∙◌, map, true≢false}
use Rattle.std.specs.Prelude.{slice_get}
use Rattle.abs_tree.specs.Syntax.{Name, ProgramTree}
use Rattle.abs_types.proofs.ConstructorLemmas.{data_is_built}
use Rattle.abs_types.proofs.SpineLemmas.{is_data, data_apart}
use Rattle.abs_types.proofs.SubtypingLemmas.{fits_transitive}
use Rattle.abs_types.specs.Applications.{AllFit, replaced}
use Rattle.abs_types.specs.PlainTypes.{PlainType, PlainInt, PlainString, PlainBottom, PlainNull, PlainFut, PlainClass}
use Rattle.abs_types.specs.Subtyping.{fits}
use Rattle.abs_values.specs.ValueTrees.{ValueTree, IntValue, StringValue, BuiltValue, ObjectValue, FutureValue, NullValue, ValueTrees, NoPart, NextPart, parts_of_list}
use Rattle.type_sound.specs.Values.{World, ValueHas, PartsHave, AllHave}

-- a value has each type that one of its types fits
pub value_up : (program : ProgramTree) (world : World) (value : ValueTree) (one other : PlainType)
    → fits program.source.declarations one other ≡ true → ValueHas program world value one
    → ValueHas program world value other
unfolding ValueHas
value_up program world (IntValue number) one other reported has =
    fits_transitive program.source.declarations PlainInt one other has reported
value_up program world (StringValue string) one other reported has =
    fits_transitive program.source.declarations PlainString one other has reported
value_up program world NullValue one other reported has =
    fits_transitive program.source.declarations PlainNull one other has reported
value_up program world (ObjectValue object) one other reported has =
    (has.0, has.1, fits_transitive program.source.declarations (PlainClass has.0) one other has.2 reported)
value_up program world (FutureValue task) one other reported has =
    (has.0, has.1, fits_transitive program.source.declarations (PlainFut has.0) one other has.2 reported)
value_up program world (BuiltValue constructor parts) one other reported has = (
  has.0,
  has.1,
  has.2,
  has.3,
  has.4,
  has.5,
  fits_transitive program.source.declarations (replaced has.2 has.1.gives) one other has.6 reported,
  has.7,
)

-- so have values
pub all_up : (program : ProgramTree) (world : World) (values : List ValueTree) (ones others : List PlainType)
    → AllFit program.source.declarations ones others → AllHave program world values ones
    → AllHave program world values others
all_up program world [] [] [] fit have = tt
all_up program world [] [] (other ∷ others) fit have = absurd fit
all_up program world [] (one ∷ ones) others fit have = absurd have
all_up program world (value ∷ values) [] others fit have = absurd have
all_up program world (value ∷ values) (one ∷ ones) [] fit have = absurd fit
all_up program world (value ∷ values) (one ∷ ones) (other ∷ others) fit have =
    (value_up program world value one other fit.0 have.0, all_up program world values ones others fit.1 have.1)

-- so have parts
pub parts_up : (program : ProgramTree) (world : World) (parts : ValueTrees) (ones others : List PlainType)
    → AllFit program.source.declarations ones others → PartsHave program world parts ones
    → PartsHave program world parts others
unfolding PartsHave
parts_up program world NoPart [] [] fit have = tt
parts_up program world NoPart [] (other ∷ others) fit have = absurd fit
parts_up program world NoPart (one ∷ ones) others fit have = absurd have
parts_up program world (NextPart first more) [] others fit have = absurd have
parts_up program world (NextPart first more) (one ∷ ones) [] fit have = absurd fit
parts_up program world (NextPart first more) (one ∷ ones) (other ∷ others) fit have =
    (value_up program world first one other fit.0 have.0, parts_up program world more ones others fit.1 have.1)

-- parts that are made of values have their types
pub parts_of_values : (program : ProgramTree) (world : World) (values : List ValueTree) (types : List PlainType)
    → AllHave program world values types → PartsHave program world (parts_of_list values) types
unfolding ValueHas PartsHave
parts_of_values program world [] [] have = tt
parts_of_values program world [] (type ∷ types) have = absurd have
parts_of_values program world (value ∷ values) [] have = absurd have
parts_of_values program world (value ∷ values) (type ∷ types) have =
    (have.0, parts_of_values program world values types have.1)

-- a constructor with its parts has no type that is not data
pub built_apart : (program : ProgramTree) (world : World) (constructor : ℕ) (parts : ValueTrees) (type : PlainType)
    → is_data type ≡ false → ValueHas program world (BuiltValue constructor parts) type → ⊥
unfolding ValueHas
built_apart program world constructor parts type apart has =
    let declarations = program.source.declarations in
    let built = data_is_built declarations has.0 has.1 has.2 has.4 has.5 in
    true≢false (sym has.6 ∙ (ap (λ one. fits declarations one type) built.1
    ∙ sym (data_apart declarations built.0 has.2 type apart)))

-- a value of type Int is a number
pub number_found : (program : ProgramTree) (world : World) (value : ValueTree) → ValueHas program world value PlainInt
    → (number : ℤ) × (value ≡ IntValue number)
unfolding ValueHas fits
number_found program world (IntValue number) has = (number, refl)
number_found program world (StringValue string) has = absurd (true≢false (sym has))
number_found program world NullValue has = absurd (true≢false (sym has))
number_found program world (ObjectValue object) has = absurd (true≢false (sym has.2))
number_found program world (FutureValue task) has = absurd (true≢false (sym has.2))
number_found program world (BuiltValue constructor parts) has =
    absurd (built_apart program world constructor parts PlainInt refl has)

-- one of type String is a string
pub string_found : (program : ProgramTree) (world : World) (value : ValueTree)
    → ValueHas program world value PlainString → (string : List ℕ) × (value ≡ StringValue string)
unfolding ValueHas fits
string_found program world (IntValue number) has = absurd (true≢false (sym has))
string_found program world (StringValue string) has = (string, refl)
string_found program world NullValue has = absurd (true≢false (sym has))
string_found program world (ObjectValue object) has = absurd (true≢false (sym has.2))
string_found program world (FutureValue task) has = absurd (true≢false (sym has.2))
string_found program world (BuiltValue constructor parts) has =
    absurd (built_apart program world constructor parts PlainString refl has)

-- no value has the type of no value
pub none_has_bottom : (program : ProgramTree) (world : World) (value : ValueTree)
    → ValueHas program world value PlainBottom → ⊥
unfolding ValueHas fits
none_has_bottom program world (IntValue number) has = true≢false (sym has)
none_has_bottom program world (StringValue string) has = true≢false (sym has)
none_has_bottom program world NullValue has = true≢false (sym has)
none_has_bottom program world (ObjectValue object) has = true≢false (sym has.2)
none_has_bottom program world (FutureValue task) has = true≢false (sym has.2)
none_has_bottom program world (BuiltValue constructor parts) has =
    built_apart program world constructor parts PlainBottom refl has

-- A world that has more objects and tasks.
pub record Grows (one other : World) : Type 0 where
  pub classes : (object : ℕ) (class : Name) → slice_get one.classes object ≡ Some class
      → slice_get other.classes object ≡ Some class
  pub results : (task : ℕ) (type : PlainType) → slice_get one.results task ≡ Some type
      → slice_get other.results task ≡ Some type

mutual
  unfolding ValueHas PartsHave

  -- a value keeps its type where there are more
  pub value_grows : (program : ProgramTree) (one other : World) → Grows one other → (value : ValueTree)
      (type : PlainType) → ValueHas program one value type → ValueHas program other value type
  value_grows program one other grows (IntValue number) type has = has
  value_grows program one other grows (StringValue string) type has = has
  value_grows program one other grows NullValue type has = has
  value_grows program one other grows (ObjectValue object) type has =
      (has.0, grows.classes object has.0 has.1, has.2)
  value_grows program one other grows (FutureValue task) type has = (has.0, grows.results task has.0 has.1, has.2)
  value_grows program one other grows (BuiltValue constructor parts) type has = (
    has.0,
    has.1,
    has.2,
    has.3,
    has.4,
    has.5,
    has.6,
    parts_grow program one other grows parts (map (replaced has.2) has.1.takes) has.7,
  )

  -- so do the parts of a constructor
  parts_grow : (program : ProgramTree) (one other : World) → Grows one other → (parts : ValueTrees)
      (types : List PlainType) → PartsHave program one parts types → PartsHave program other parts types
  parts_grow program one other grows NoPart [] have = tt
  parts_grow program one other grows NoPart (type ∷ types) have = absurd have
  parts_grow program one other grows (NextPart first others) [] have = absurd have
  parts_grow program one other grows (NextPart first others) (type ∷ types) have =
      (value_grows program one other grows first type have.0, parts_grow program one other grows others types have.1)
