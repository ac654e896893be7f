-- Types without places. Data is applied to its arguments one by one, so no list stands inside a type.
--
--   `PlainType`                the types
--   `applied_to`               a type that is applied to arguments
--   `plain`, `plains`          the plain types of types of a tree
use Rattle.std.specs.Prelude.{ℕ, List, [], ◌∷◌}
use Rattle.abs_tree.specs.Syntax.{Name, TypeTree, UnresolvedType, IntType, StringType, FutType, DataType, InterfaceType, ParameterType, BottomType, NullType, ClassType, TypeTrees, NoType, NextType}

-- `Int`, `String`, the type of no value and that of `null`; `Fut` of a type; data, and a type that is applied to an
-- argument; an interface; an object of a class; a type parameter by its index
pub data PlainType : Type 0 where
  PlainInt : PlainType
  PlainString : PlainType
  PlainBottom : PlainType
  PlainNull : PlainType
  PlainFut : (value : PlainType) → PlainType
  PlainData : (name : Name) → PlainType
  PlainApplied : (head argument : PlainType) → PlainType
  PlainInterface : (name : Name) → PlainType
  PlainClass : (name : Name) → PlainType
  PlainParameter : (index : ℕ) → PlainType

-- a type that is applied to arguments, from the first one on
abbrev pub applied_to : PlainType → List PlainType → PlainType
applied_to head [] = head
applied_to head (argument ∷ others) = applied_to (PlainApplied head argument) others

abbrev mutual
  -- the plain type of a type; a name that is not resolved counts as that of data
  pub plain : TypeTree → PlainType
  plain (IntType place) = PlainInt
  plain (StringType place) = PlainString
  plain (FutType place value) = PlainFut (plain value)
  plain (DataType place name arguments) = applied_to (PlainData name) (plains arguments)
  plain (InterfaceType place name) = PlainInterface name
  plain (ParameterType place index) = PlainParameter index
  plain (UnresolvedType place name arguments) = applied_to (PlainData name) (plains arguments)
  plain BottomType = PlainBottom
  plain NullType = PlainNull
  plain (ClassType name) = PlainClass name

  pub plains : TypeTrees → List PlainType
  plains NoType = []
  plains (NextType first others) = plain first ∷ plains others
