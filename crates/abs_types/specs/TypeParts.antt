-- The parts of two types of a table that stand for each other, and their joins. They serve proofs only.
--
--   `have_parts_alike`         both are `Fut`, or both are applied
--   `AreFutures`, `AreApplied` the pairs of the parts of two types
--   `AreParts`                 the same by cases
--   `pair_join`                the join of a pair
--   `joined_along`             a join that is applied to the joins of pairs of arguments
--   `AreSpines`                two applied types taken apart into heads and arguments
--   `IsFound`                  an index that stands for a type, if there is one
use Rattle.std.specs.Prelude.{◌≡◌, ◌<◌, ◌≤◌, max, Bool, true, false, List, [], ◌∷◌, All, Option, option_map, IfSome}
use Rattle.abs_tree.specs.Syntax.{DeclTree}
use Rattle.abs_types.specs.Joins.{both_applied, join_of}
use Rattle.abs_types.specs.PlainTypes.{PlainType, PlainFut, PlainApplied}
use Rattle.abs_types.specs.TypeShapes.{type_at, IsAmong}
use Rattle.abs_types.specs.TypeTables.{types_in}
use Rattle.abs_types.specs.declared.table.TypeTable.{TypeTable}
use Rattle.abs_types.specs.declared.table.parts.Parts.{Parts}
use Rattle.abs_types.specs.declared.table.parts.Parts.TheVariants as parts
use Rattle.abs_types.specs.declared.table.shape.TypeIndex.{TypeIndex}
use Rattle.abs_types.specs.declared.table.shape.TypePair.{TypePair}

-- whether two types are both `Fut`, or both applied
abbrev pub have_parts_alike : PlainType → PlainType → Bool
have_parts_alike (PlainFut one) (PlainFut other) = true
have_parts_alike (PlainApplied head argument) (PlainApplied other_head other_argument) = true
have_parts_alike _ _ = false

-- Two types are `Fut` of the types of a pair, which have smaller indices.
pub record AreFutures (types : List PlainType) (one other : TypeIndex) (values : TypePair) : Type 0 where
  pub one_is : type_at types one ≡ PlainFut (type_at types values.one)
  pub other_is : type_at types other ≡ PlainFut (type_at types values.other)
  pub one_below : values.one.0 < one.0
  pub other_below : values.other.0 < other.0

-- Two types are those of a pair, applied to those of another pair; all of these have smaller indices.
pub record AreApplied (types : List PlainType) (one other : TypeIndex) (heads arguments : TypePair) : Type 0 where
  pub one_is : type_at types one ≡ PlainApplied (type_at types heads.one) (type_at types arguments.one)
  pub other_is : type_at types other ≡ PlainApplied (type_at types heads.other) (type_at types arguments.other)
  pub heads_one_below : heads.one.0 < one.0
  pub heads_other_below : heads.other.0 < other.0
  pub arguments_one_below : arguments.one.0 < one.0
  pub arguments_other_below : arguments.other.0 < other.0

-- two types have these parts: those of two `Fut` types, or of two types that are applied to one more argument
abbrev pub AreParts : List PlainType → TypeIndex → TypeIndex → Parts → Type 0
AreParts types one other (parts.Futures values) = AreFutures types one other values
AreParts types one other (parts.Applied heads arguments) = AreApplied types one other heads arguments

-- the types of a pair are among these
abbrev pub ArePairAmong : List PlainType → TypePair → Type 0
ArePairAmong types pair = IsAmong types pair.one × IsAmong types pair.other

-- the join of the types of a pair
abbrev pub pair_join : List DeclTree → List PlainType → TypePair → Option PlainType
pair_join declarations types pair = join_of declarations (type_at types pair.one) (type_at types pair.other)

-- a join that is applied to the joins of pairs, from the last pair on, if there are all
abbrev pub joined_along : List DeclTree → List PlainType → Option PlainType → List TypePair → Option PlainType
joined_along declarations types found [] = found
joined_along declarations types found (pair ∷ others) =
    both_applied (joined_along declarations types found others) (pair_join declarations types pair)

-- Heads that are applied to arguments are taken apart, into what is applied at the innermost place and all arguments,
-- from the last ones on.
pub record AreSpines (declarations : List DeclTree) (types : List PlainType) (heads arguments innermost : TypePair)
    (all : List TypePair) : Type 0 where
  pub innermost_among : ArePairAmong types innermost
  pub all_among : All (ArePairAmong types) all
  pub innermost_below : innermost.one.0 ≤ heads.one.0
  pub all_below : All (λ (pair : TypePair). pair.one.0 ≤ max heads.one.0 arguments.one.0) all
  pub join_is : both_applied (pair_join declarations types heads) (pair_join declarations types arguments)
      ≡ joined_along declarations types (pair_join declarations types innermost) all

-- What was found stands for a type, if there is one.
pub record IsFound (table : TypeTable) (found : Option TypeIndex) (type : Option PlainType) : Type 0 where
  pub among : IfSome found (IsAmong (types_in table))
  pub is : option_map (type_at (types_in table)) found ≡ type
