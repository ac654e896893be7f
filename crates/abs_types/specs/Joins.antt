-- The join of types: the least type that all of them fit, where there is one by these rules.
--
--   `join_of`                  that of two types
--   `join_all`                 that of several types, taken from the left, two at a time
--   `IsLeastAbove`             a type that two types fit, and that fits each other one that both fit
--   `IsLeastAboveAll`          the same of several types
use Rattle.std.specs.Prelude.{◌≡◌, true, List, [], ◌∷◌, Option, Some, None, option_map, option_and_then, if◌then◌else◌, All}
use Rattle.abs_tree.specs.Syntax.{DeclTree}
use Rattle.abs_types.specs.PlainTypes.{PlainType, PlainFut, PlainApplied}
use Rattle.abs_types.specs.Subtyping.{fits}

-- the greater of two types, if one fits the other, or else what their parts give
abbrev pub greater_or : List DeclTree → PlainType → PlainType → Option PlainType → Option PlainType
greater_or declarations one other of_parts =
    if fits declarations one other then Some other else (if fits declarations other one then Some one else of_parts)

-- data that is applied to an argument, if there are both
abbrev pub both_applied : Option PlainType → Option PlainType → Option PlainType
both_applied (Some head) (Some argument) = Some (PlainApplied head argument)
both_applied (Some head) None = None
both_applied None argument = None

-- the join of two types: the greater one, if one fits the other; for one data type or `Fut` that of the joins of the
-- arguments; otherwise there is none
unfoldable pub join_of : List DeclTree → PlainType → PlainType → Option PlainType
join_of declarations (PlainFut one) (PlainFut other) =
    greater_or declarations (PlainFut one) (PlainFut other) (option_map PlainFut (join_of declarations one other))
join_of declarations (PlainApplied head argument) (PlainApplied other_head other_argument) =
    greater_or declarations (PlainApplied head argument) (PlainApplied other_head other_argument)
    (both_applied (join_of declarations head other_head) (join_of declarations argument other_argument))
join_of declarations one other = greater_or declarations one other None

-- the join of a type and of several more: that of one type is this type
abbrev pub join_all : List DeclTree → PlainType → List PlainType → Option PlainType
join_all declarations one [] = Some one
join_all declarations one (other ∷ others) =
    option_and_then (λ joined. join_all declarations joined others) (join_of declarations one other)

-- Two types fit a type, and it fits each other one that both fit.
pub record IsLeastAbove (declarations : List DeclTree) (one other least : PlainType) : Type 0 where
  pub first : fits declarations one least ≡ true
  pub second : fits declarations other least ≡ true
  pub least_is : (above : PlainType) → fits declarations one above ≡ true → fits declarations other above ≡ true
      → fits declarations least above ≡ true

-- All types of a list fit a type, and it fits each other one that all of them fit.
pub record IsLeastAboveAll (declarations : List DeclTree) (types : List PlainType) (least : PlainType) : Type 0 where
  pub above_all : All (λ type. fits declarations type least ≡ true) types
  pub least_is : (above : PlainType) → All (λ type. fits declarations type above ≡ true) types
      → fits declarations least above ≡ true
