-- Types in a table, where each type is known by its index. A shape has the indices of the parts of a type, and the
-- numbers of its names.
--
--   `type_at`, `types_at`      the type with an index, and those with several
--   `shape_type`               the type of a shape, whose parts are among these types
--   `types_after`, `types_of`  the types of shapes, each of which is made of types before it
--   `HasPartsBelow`            the parts of a shape are before an index
--   `HasOwnNames`              the number of each name in a shape is its own, and the prelude's data have their shapes
--   `AreFormed`                each shape is made of shapes before it, with names of their own
--   `AreFormed-prop`           there is one proof of that at most
--   `AreRemembered`            remembered joins are right
use denote.Struct.Props as logic
use Rattle.std.specs.Prelude.{◌≡◌, ◌≢◌, ⊤, ℕ, ◌<◌, List, [], ◌∷◌, ◌++◌, map, length, get_or, slice_get, All, Option, Some, option_map, IfSome, codes}
use Rattle.abs_tree.specs.Names.{name_of, number_of_name}
use Rattle.abs_tree.specs.Syntax.{Name, DeclTree}
use Rattle.abs_types.specs.Joins.{join_of}
use Rattle.abs_types.specs.OperatorTypes.{bool_type, unit_type}
use Rattle.abs_types.specs.PlainTypes.{PlainType, PlainInt, PlainString, PlainBottom, PlainNull, PlainFut, PlainData, PlainApplied, PlainInterface, PlainClass, PlainParameter}
use Rattle.abs_types.specs.declared.table.shape.Shape.{Shape}
use Rattle.abs_types.specs.declared.table.shape.Shape.TheVariants as shape
use Rattle.abs_types.specs.declared.table.shape.TypeIndex.{TypeIndex}
use Rattle.abs_types.specs.declared.table.shape.TypePair.{TypePair}

-- the type with an index
abbrev pub type_at : List PlainType → TypeIndex → PlainType
type_at types index = get_or types index.0 PlainBottom

abbrev pub types_at : List PlainType → List TypeIndex → List PlainType
types_at types indices = map (type_at types) indices

-- the name with a number
abbrev pub named_by : List Name → ℕ → Name
named_by names number = name_of names (record { 0 = number })

-- the type of a shape, whose parts are among these types
unfoldable pub shape_type : List Name → List PlainType → Shape → PlainType
shape_type names types shape.Int = PlainInt
shape_type names types shape.String = PlainString
shape_type names types shape.Bottom = PlainBottom
shape_type names types shape.Null = PlainNull
shape_type names types shape.Bool = bool_type
shape_type names types shape.Unit = unit_type
shape_type names types (shape.Fut value) = PlainFut (type_at types value)
shape_type names types (shape.Data name) = PlainData (named_by names name)
shape_type names types (shape.Applied head argument) = PlainApplied (type_at types head) (type_at types argument)
shape_type names types (shape.Interface name) = PlainInterface (named_by names name)
shape_type names types (shape.Class name) = PlainClass (named_by names name)
shape_type names types (shape.Parameter index) = PlainParameter index

-- these types, followed by those of shapes, each of which is made of types before it
abbrev pub types_after : List Name → List PlainType → List Shape → List PlainType
types_after names types [] = types
types_after names types (first ∷ others) = types_after names (types ++ shape_type names types first ∷ []) others

-- the types of shapes, in their order
unfoldable pub types_of : List Name → List Shape → List PlainType
types_of names shapes = types_after names [] shapes

-- the parts of a shape have indices below this one
abbrev pub HasPartsBelow : ℕ → Shape → Type 0
HasPartsBelow index (shape.Fut value) = value.0 < index
HasPartsBelow index (shape.Applied head argument) = (head.0 < index) × (argument.0 < index)
HasPartsBelow index _ = ⊤

-- the number of a name is that by which it is found
abbrev pub IsOwnNumber : List Name → ℕ → Type 0
IsOwnNumber names number = number_of_name names (named_by names number) ≡ number

-- Names in a shape have numbers of their own, and the shape of data is not that of `Bool` or `Unit`.
abbrev pub HasOwnNames : List Name → Shape → Type 0
HasOwnNames names (shape.Data name) =
    IsOwnNumber names name × (named_by names name ≢ codes "Bool") × (named_by names name ≢ codes "Unit")
HasOwnNames names (shape.Interface name) = IsOwnNumber names name
HasOwnNames names (shape.Class name) = IsOwnNumber names name
HasOwnNames names _ = ⊤

-- Each shape is made of shapes before it, with names of their own.
pub record AreFormed (names : List Name) (shapes : List Shape) : Type 0 where
  pub parts : (index : ℕ) (found : Shape) → slice_get shapes index ≡ Some found → HasPartsBelow index found
  pub names_are : (index : ℕ) (found : Shape) → slice_get shapes index ≡ Some found → HasOwnNames names found

-- there is one proof at most of each
HasPartsBelow-prop : (index : ℕ) (found : Shape) → IsProp (HasPartsBelow index found)
HasPartsBelow-prop index (shape.Fut value) = Prim.hlevel logic.props
HasPartsBelow-prop index (shape.Applied head argument) = Prim.hlevel logic.props
HasPartsBelow-prop index _ = Prim.hlevel logic.props

HasOwnNames-prop : (names : List Name) (found : Shape) → IsProp (HasOwnNames names found)
HasOwnNames-prop names (shape.Data name) = Prim.hlevel logic.props
HasOwnNames-prop names (shape.Interface name) = Prim.hlevel logic.props
HasOwnNames-prop names (shape.Class name) = Prim.hlevel logic.props
HasOwnNames-prop names _ = Prim.hlevel logic.props

pub AreFormed-prop : (names : List Name) (shapes : List Shape) → IsProp (AreFormed names shapes)
AreFormed-prop names shapes = Prim.hlevel (logic.props, HasPartsBelow-prop, HasOwnNames-prop)

-- An index is that of one of these types.
abbrev pub IsAmong : List PlainType → TypeIndex → Type 0
IsAmong types index = index.0 < length types

-- A remembered join is that of its types.
pub record IsRemembered (declarations : List DeclTree) (types : List PlainType) (entry : TypePair × Option TypeIndex)
    : Type 0 where
  pub one : IsAmong types entry.0.one
  pub other : IsAmong types entry.0.other
  pub joined : IfSome entry.1 (IsAmong types)
  pub is_join : option_map (type_at types) entry.1
      ≡ join_of declarations (type_at types entry.0.one) (type_at types entry.0.other)

abbrev pub AreRemembered : List DeclTree → List PlainType → List (TypePair × Option TypeIndex) → Type 0
AreRemembered declarations types entries = All (IsRemembered declarations types) entries
