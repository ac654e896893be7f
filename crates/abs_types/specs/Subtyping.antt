-- When a type fits another one.
--
--   `extends_name`, `implements_name`      an interface extends another one, or a class implements it, in any number of
--                                          steps
--   `Fits`                                 a type fits another one: a constructor for each sentence
--   `fits`                                 the same as a test
--   `NoneExtendsItself`                    no interface of a program extends itself
use Rattle.std.specs.Prelude.{◌≡◌, Bool, true, false, ◌&&◌, ◌||◌, List, All, Option, Some, nat_eq}
use Rattle.std.specs.Str.{bytes_eq}
use Rattle.abs_graph.specs.Graphs.{on_cycles}
use Rattle.abs_program.specs.NameSpaces.{spaces_of}
use Rattle.abs_program.specs.Supertypes.{supertypes, is_below}
use Rattle.abs_tree.specs.Syntax.{Name, DeclTree}
use Rattle.abs_program.specs.Tables.{meaning_of}
use Rattle.abs_program.specs.declared.name_spaces.Taking.{Taking}
use Rattle.abs_program.specs.declared.name_spaces.TypeMeaning.{TypeMeaning}
use Rattle.abs_program.specs.declared.name_spaces.TypeMeaning.TheVariants as type
use Rattle.abs_types.specs.PlainTypes.{PlainType, PlainInt, PlainString, PlainBottom, PlainNull, PlainFut, PlainData, PlainApplied, PlainInterface, PlainClass, PlainParameter}

-- whether one declaration is below another one, by what their names stand for
abbrev pub interface_below : List DeclTree → Option TypeMeaning → Option TypeMeaning → Bool
interface_below declarations (Some (type.Interface one)) (Some (type.Interface other)) = is_below declarations one other
interface_below declarations _ _ = false

abbrev pub class_below : List DeclTree → Option Taking → Option TypeMeaning → Bool
class_below declarations (Some class) (Some (type.Interface other)) = is_below declarations class.declaration other
class_below declarations _ _ = false

-- whether the interface with a name extends that with another name, in one step or in more
unfoldable pub extends_name : List DeclTree → Name → Name → Bool
extends_name declarations one other =
    interface_below declarations (meaning_of (spaces_of declarations).types one)
    (meaning_of (spaces_of declarations).types other)

-- whether the class with a name implements the interface with another name, directly or through `extends`
unfoldable pub implements_name : List DeclTree → Name → Name → Bool
implements_name declarations class interface =
    class_below declarations (meaning_of (spaces_of declarations).classes class)
    (meaning_of (spaces_of declarations).types interface)

-- A type fits another one: both are equal; no value has it; it is that of `null`, and the other is an interface or a
-- `Fut`; it is a class that implements the interface; it is an interface that extends the other; or both have the same
-- data type or `Fut`, with arguments that fit one by one.
pub data Fits (declarations : List DeclTree) : PlainType → PlainType → Type 0 where
  equal : (one : PlainType) → Fits declarations one one
  bottom : (other : PlainType) → Fits declarations PlainBottom other
  null_interface : (name : Name) → Fits declarations PlainNull (PlainInterface name)
  null_future : (value : PlainType) → Fits declarations PlainNull (PlainFut value)
  implements : (class interface : Name) → implements_name declarations class interface ≡ true
      → Fits declarations (PlainClass class) (PlainInterface interface)
  extends : (one other : Name) → extends_name declarations one other ≡ true
      → Fits declarations (PlainInterface one) (PlainInterface other)
  futures : (one other : PlainType) → Fits declarations one other
      → Fits declarations (PlainFut one) (PlainFut other)
  applied : (head other_head argument other_argument : PlainType) → Fits declarations head other_head
      → Fits declarations argument other_argument
      → Fits declarations (PlainApplied head argument) (PlainApplied other_head other_argument)

-- whether a type is an interface or a `Fut`, or the type of `null` itself
abbrev pub takes_null : PlainType → Bool
takes_null (PlainInterface name) = true
takes_null (PlainFut value) = true
takes_null PlainNull = true
takes_null _ = false

-- whether a type fits another one
unfoldable pub fits : List DeclTree → PlainType → PlainType → Bool
fits declarations PlainBottom other = true
fits declarations PlainNull other = takes_null other
fits declarations PlainInt PlainInt = true
fits declarations PlainString PlainString = true
fits declarations (PlainFut one) (PlainFut other) = fits declarations one other
fits declarations (PlainData one) (PlainData other) = bytes_eq one other
fits declarations (PlainApplied head argument) (PlainApplied other_head other_argument) =
    fits declarations head other_head && fits declarations argument other_argument
fits declarations (PlainInterface one) (PlainInterface other) =
    bytes_eq one other || extends_name declarations one other
fits declarations (PlainClass one) (PlainClass other) = bytes_eq one other
fits declarations (PlainClass class) (PlainInterface interface) = implements_name declarations class interface
fits declarations (PlainParameter one) (PlainParameter other) = nat_eq one other
fits declarations _ _ = false

-- no interface of a program extends itself
abbrev pub NoneExtendsItself : List DeclTree → Type 0
NoneExtendsItself declarations = All (λ (b : Bool). b ≡ false) (on_cycles (supertypes declarations))
