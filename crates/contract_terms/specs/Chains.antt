-- Circular chains of pairs, and which of them a report lists.
--
--   `steps_of`                 the steps of a closed list of pairs
--   `IsCircular`               a circular chain, of pairs in a list
--   `Closes`, `ClosesAt`       a chain that leads to a pair by a held link, and one that leads back to its first pair
--   `chain_order`, `IsLeast`   the shorter chain comes first; the first one that leads back to a pair
--   `Reports`, `IsReport`      what a report lists of the pairs that are left, and of all pairs
--   `IsListed`                 what holds of a chain that is listed after some others
use Rattle.std.specs.Cmp.Lexicographic.{slice_cmp}
use Rattle.std.specs.Ordering.{is_le, nat_cmp, ordering_then}
use Rattle.std.specs.Prelude.{◌≡◌, true, List, [], ◌∷◌, ◌++◌, length, Contains}
use Rattle.std.specs.declared.cmp.Ordering.{Ordering}
use Rattle.abs_tree.specs.Syntax.{ProgramTree}
use Rattle.contract_terms.specs.PairLinks.{IsHeld, IsLinked}
use Rattle.contract_terms.specs.Pairs.{pair_order}
use Rattle.contract_terms.specs.declared.pair.Mode.TheVariants.{Get}
use Rattle.contract_terms.specs.declared.pair.Pair.{Pair}

abbrev pub steps_from : Pair → Pair → List Pair → List (Pair × Pair)
steps_from first one [] = (one, first) ∷ []
steps_from first one (next ∷ others) = (one, next) ∷ steps_from first next others

-- the steps of a closed list of pairs: from each to the next, and from the last to the first
abbrev pub steps_of : List Pair → List (Pair × Pair)
steps_of [] = []
steps_of (first ∷ others) = steps_from first first others

-- each pair of a chain is in a list
abbrev pub AreAmong : List Pair → List Pair → Type 0
AreAmong pairs chain = (pair : Pair) → Contains chain pair → Contains pairs pair

-- A circular chain of pairs in a list: each step is a link, and one of them is held.
pub record IsCircular (program : ProgramTree) (pairs chain : List Pair) : Type 0 where
  pub among : AreAmong pairs chain
  pub linked : (one next : Pair) → Contains (steps_of chain) (one, next) → IsLinked program one next
  pub one : Pair
  pub next : Pair
  pub step : Contains (steps_of chain) (one, next)
  pub held : IsHeld one next

-- from a pair on each is linked to the next, and a held link leads from the last one to the goal
abbrev pub Closes : ProgramTree → Pair → Pair → List Pair → Type 0
Closes program goal one [] = IsHeld one goal
Closes program goal one (next ∷ others) = IsLinked program one next × Closes program goal next others

-- A closed chain of pairs in a list that begins with a pair, and whose last link, into it, is held.
pub record ClosesAt (program : ProgramTree) (pairs : List Pair) (first : Pair) (chain : List Pair) : Type 0 where
  pub others : List Pair
  pub starts : chain ≡ first ∷ others
  pub among : AreAmong pairs chain
  pub closes : Closes program first first others

-- The shorter chain comes first. Chains of one length are compared pair by pair.
abbrev pub chain_order : List Pair → List Pair → Ordering
chain_order one other = ordering_then (nat_cmp (length one) (length other)) (slice_cmp pair_order one other)

-- The first one of the closed chains that begin with a pair, and whose last link, into it, is held.
pub record IsLeast (program : ProgramTree) (pairs : List Pair) (first : Pair) (chain : List Pair) : Type 0 where
  pub closes : ClosesAt program pairs first chain
  pub least : (other : List Pair) → ClosesAt program pairs first other → is_le (chain_order chain other) ≡ true

-- The chains that a report lists for the pairs that are left, which it takes in their order, when those of earlier
-- chains
-- are listed. An `await` is free of chains: no link into it is held.
pub data Reports (program : ProgramTree) (pairs : List Pair) : List Pair → List Pair → List (List Pair) → Type 0 where
  -- no pair is left
  done : (earlier : List Pair) → Reports program pairs [] earlier []
  -- a pair that is listed is passed over
  passed : (pair : Pair) (left earlier : List Pair) (chains : List (List Pair)) → Contains earlier pair
      → Reports program pairs left earlier chains → Reports program pairs (pair ∷ left) earlier chains
  -- no chain leads back to the pair
  free : (pair : Pair) (left earlier : List Pair) (chains : List (List Pair))
      → ((chain : List Pair) → ClosesAt program pairs pair chain → ⊥)
      → Reports program pairs left earlier chains → Reports program pairs (pair ∷ left) earlier chains
  -- the first chain that leads back to the pair is listed
  listed : (pair : Pair) (left earlier chain : List Pair) (chains : List (List Pair)) → (Contains earlier pair → ⊥)
      → IsLeast program pairs pair chain → Reports program pairs left (earlier ++ chain) chains
      → Reports program pairs (pair ∷ left) earlier (chain ∷ chains)

-- the chains that the report of some pairs lists
abbrev pub IsReport : ProgramTree → List Pair → List (List Pair) → Type 0
IsReport program pairs chains = Reports program pairs pairs [] chains

-- A circular chain of pairs in a list that begins with a `get`, which no earlier chain lists.
pub record IsListed (program : ProgramTree) (pairs : List Pair) (earlier : List (List Pair)) (chain : List Pair) : Type
    0 where
  pub circular : IsCircular program pairs chain
  pub first : Pair
  pub others : List Pair
  pub starts : chain ≡ first ∷ others
  pub gets : first.mode ≡ Get
  pub new : (one : List Pair) → Contains earlier one → Contains one first → ⊥
