-- Applied types that are walked down their heads, with the arguments from the last one on. They serve proofs only.
--
--   `is_walked`, `are_walked`      an applied type with a type parameter in it, and one beside another applied type
--   `applied_back`                 a type that is applied to arguments
--   `met_back`                     what type parameters have met, after arguments
--   `HasParts`, `ArePairParts`     the head and the argument of an applied type, and those of two
--   `IsSpine`                      a type is a head that is applied to arguments
--   `AreMetSpines`                    two types are met as two heads are, and then pairs of arguments
use Rattle.std.specs.Prelude.{◌≡◌, ◌<◌, ◌≤◌, Bool, true, false, List, [], ◌∷◌, All, Option, option_and_then}
use Rattle.abs_tree.specs.Syntax.{DeclTree}
use Rattle.abs_types.specs.Applications.{meet}
use Rattle.abs_types.specs.PlainTypes.{PlainType, PlainApplied}
use Rattle.abs_types.specs.Schemes.{has_parameter}
use Rattle.abs_types.specs.TypeParts.{ArePairAmong}
use Rattle.abs_types.specs.TypeShapes.{type_at, types_at}
use Rattle.abs_types.specs.declared.table.shape.TypeIndex.{TypeIndex}
use Rattle.abs_types.specs.declared.table.shape.TypePair.{TypePair}

-- whether a type is applied, and has a type parameter in it
abbrev pub is_walked : PlainType → Bool
is_walked (PlainApplied head argument) = has_parameter (PlainApplied head argument)
is_walked _ = false

-- whether the first of two types is such a type, and the other one is applied
abbrev pub are_walked : PlainType → PlainType → Bool
are_walked takes (PlainApplied given_head given_argument) = is_walked takes
are_walked takes _ = false

-- a type that is applied to arguments, of which the last one stands first
abbrev pub applied_back : PlainType → List PlainType → PlainType
applied_back head [] = head
applied_back head (last ∷ before) = PlainApplied (applied_back head before) last

-- What type parameters have met, after arguments of which the last ones stand first: what they had met before, if
-- anything, comes to the first arguments.
abbrev pub met_back : List DeclTree → List PlainType → Option (List PlainType) → List TypePair → Option (List PlainType)
met_back declarations types met [] = met
met_back declarations types met (last ∷ before) =
    option_and_then (meet declarations (type_at types last.one) (type_at types last.other))
    (met_back declarations types met before)

-- An applied type has this head and this argument.
pub record HasParts (types : List PlainType) (index head argument : TypeIndex) : Type 0 where
  pub head_below : head.0 < index.0
  pub argument_below : argument.0 < index.0
  pub is : type_at types index ≡ PlainApplied (type_at types head) (type_at types argument)

-- A type is a head that is applied to arguments, which are parts of it.
pub record IsSpine (types : List PlainType) (index head : TypeIndex) (arguments : List TypeIndex) : Type 0 where
  pub head_below : head.0 ≤ index.0
  pub arguments_below : All (λ (argument : TypeIndex). argument.0 < index.0) arguments
  pub is : type_at types index ≡ applied_back (type_at types head) (types_at types arguments)

-- Two applied types have these heads and these arguments. A type parameter is in the first of them.
pub record ArePairParts (types : List PlainType) (pair heads arguments : TypePair) : Type 0 where
  pub one : HasParts types pair.one heads.one arguments.one
  pub other : HasParts types pair.other heads.other arguments.other
  pub walked : has_parameter (type_at types pair.one) ≡ true

-- Two types are met as two heads are, and then pairs of arguments.
pub record AreMetSpines (declarations : List DeclTree) (types : List PlainType) (pair heads : TypePair)
    (arguments : List TypePair) : Type 0 where
  pub heads_among : ArePairAmong types heads
  pub heads_below : heads.one.0 ≤ pair.one.0
  pub arguments_among : All (ArePairAmong types) arguments
  pub arguments_below : All (λ (argument : TypePair). argument.one.0 < pair.one.0) arguments
  pub meets : (met : List PlainType) → meet declarations (type_at types pair.one) (type_at types pair.other) met
      ≡ met_back declarations types
      (meet declarations (type_at types heads.one) (type_at types heads.other) met) arguments
