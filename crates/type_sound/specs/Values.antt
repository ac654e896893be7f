-- Values that have a type. The relation is upward closed: a value has each type that one of its types fits. No type
-- parameter occurs in the types of values.
--
--   `World`                    the class of each object, and the result type of each task
--   `ValueHas`, `PartsHave`    a value has a type, and the parts of a constructor have types
--   `AllHave`                  values have types, in their order
--   `ResultHas`, `ResultsHave`     a result has a type: its value has it, and its fault is not Mistyped; so of several
use Rattle.std.specs.Prelude.{◌≡◌, ◌≢◌, ⊤, true, List, [], ◌∷◌, length, map, slice_get, Some}
use Rattle.abs_tree.specs.Names.{number_of_name}
use Rattle.abs_tree.specs.Syntax.{Name, ProgramTree}
use Rattle.abs_types.specs.Applications.{replaced}
use Rattle.abs_types.specs.PlainTypes.{PlainType, PlainInt, PlainString, PlainNull, PlainFut, PlainClass}
use Rattle.abs_types.specs.Schemes.{Scheme, scheme_of_constructor}
use Rattle.abs_types.specs.Subtyping.{fits}
use Rattle.abs_values.specs.Results.{Result, Gives, Fails, Results, AllGive, OneFails}
use Rattle.abs_values.specs.ValueTrees.{ValueTree, IntValue, StringValue, BuiltValue, ObjectValue, FutureValue, NullValue, ValueTrees, NoPart, NextPart}
use Rattle.abs_values.specs.declared.evaluated.Fault.TheVariants as fault

-- what values refer to: the class of each object, and the result type of each task
pub record World : Type 0 where
  pub classes : List Name
  pub results : List PlainType

-- A number has each type that `Int` fits, a string each that `String` fits, and null each that the type of null fits. An
-- object has each type that its class fits, and a future each that `Fut` of the result type of its task fits. A
-- constructor with its parts has each type that the data which it gives fits, for arguments of that data for which the
-- parts have the types that the constructor takes.
unfoldable mutual
  pub ValueHas : ProgramTree → World → ValueTree → PlainType → Type 0
  ValueHas program world (IntValue number) type = fits program.source.declarations PlainInt type ≡ true
  ValueHas program world (StringValue string) type = fits program.source.declarations PlainString type ≡ true
  ValueHas program world NullValue type = fits program.source.declarations PlainNull type ≡ true
  ValueHas program world (ObjectValue object) type =
      (class : Name) × (slice_get world.classes object ≡ Some class)
      × (fits program.source.declarations (PlainClass class) type ≡ true)
  ValueHas program world (FutureValue task) type =
      (result : PlainType) × (slice_get world.results task ≡ Some result)
      × (fits program.source.declarations (PlainFut result) type ≡ true)
  ValueHas program world (BuiltValue constructor parts) type =
      (name : Name) × (scheme : Scheme) × (arguments : List PlainType)
      × (number_of_name program.names name ≡ constructor)
      × (scheme_of_constructor program.source.declarations name ≡ Some scheme)
      × (length arguments ≡ scheme.parameters)
      × (fits program.source.declarations (replaced arguments scheme.gives) type ≡ true)
      × PartsHave program world parts (map (replaced arguments) scheme.takes)

  pub PartsHave : ProgramTree → World → ValueTrees → List PlainType → Type 0
  PartsHave program world NoPart [] = ⊤
  PartsHave program world NoPart (type ∷ types) = ⊥
  PartsHave program world (NextPart first others) [] = ⊥
  PartsHave program world (NextPart first others) (type ∷ types) =
      ValueHas program world first type × PartsHave program world others types

-- there are as many values as types, and each value has the type at its place
abbrev pub AllHave : ProgramTree → World → List ValueTree → List PlainType → Type 0
AllHave program world [] [] = ⊤
AllHave program world [] (type ∷ types) = ⊥
AllHave program world (value ∷ values) [] = ⊥
AllHave program world (value ∷ values) (type ∷ types) =
    ValueHas program world value type × AllHave program world values types

-- a value has the type, and a fault is not Mistyped
abbrev pub ResultHas : ProgramTree → World → Result → PlainType → Type 0
ResultHas program world (Gives value) type = ValueHas program world value type
ResultHas program world (Fails cause) type = cause ≢ fault.Mistyped

abbrev pub ResultsHave : ProgramTree → World → Results → List PlainType → Type 0
ResultsHave program world (AllGive values) types = AllHave program world values types
ResultsHave program world (OneFails cause) types = cause ≢ fault.Mistyped
