-- The arguments of two data types, one by one. They serve proofs only.
--
--   `data_type`                data that is applied to arguments, from memory
--   `all_fit`                  whether all of them fit
--   `fitting_count`            how many at the beginning fit
--   `joins_of`                 their joins
use Rattle.std.specs.Prelude.{ℕ, ◌+◌, Bool, true, false, ◌&&◌, List, [], ◌∷◌, Option, Some, None, if◌then◌else◌}
use Rattle.abs_tree.specs.Names.{name_of}
use Rattle.abs_tree.specs.Syntax.{Name, DeclTree}
use Rattle.abs_tree.specs.SyntaxViews.{type_trees}
use Rattle.abs_tree.specs.declared.symbol.Symbol.{Symbol}
use Rattle.abs_tree.specs.declared.syntax.types.TypeTerm.{TypeTerm}
use Rattle.abs_types.specs.Joins.{join_of}
use Rattle.abs_types.specs.PlainTypes.{PlainType, PlainData, applied_to, plains}
use Rattle.abs_types.specs.Subtyping.{fits}

-- the plain type of data with a name that is applied to types of a tree
abbrev pub data_type : List Name → Symbol → List TypeTerm → PlainType
data_type names name arguments = applied_to (PlainData (name_of names name)) (plains (type_trees names arguments))

-- whether two lists of types are as long, and the types of one fit those of the other one by one
abbrev pub all_fit : List DeclTree → List PlainType → List PlainType → Bool
all_fit declarations [] [] = true
all_fit declarations (one ∷ ones) (other ∷ others) = fits declarations one other && all_fit declarations ones others
all_fit declarations _ _ = false

-- how many types at the beginning of a list fit those of another list one by one
abbrev pub fitting_count : List DeclTree → List PlainType → List PlainType → ℕ
fitting_count declarations (one ∷ ones) (other ∷ others) =
    if fits declarations one other then 1 + fitting_count declarations ones others else 0
fitting_count declarations _ _ = 0

-- a list of a type and of others, if there are both
abbrev pub both_listed : Option PlainType → Option (List PlainType) → Option (List PlainType)
both_listed (Some first) (Some others) = Some (first ∷ others)
both_listed (Some first) None = None
both_listed None others = None

-- the joins of the types of two lists one by one, if there are all; there are none for lists of different lengths
abbrev pub joins_of : List DeclTree → List PlainType → List PlainType → Option (List PlainType)
joins_of declarations [] [] = Some []
joins_of declarations (one ∷ ones) (other ∷ others) =
    both_listed (join_of declarations one other) (joins_of declarations ones others)
joins_of declarations _ _ = None
