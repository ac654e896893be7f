-- Which pairs are listed already, and what is listed for the pairs before an index. It serves proofs only.
--
--   `AreAwaits`                no pair is a `get`
--   `AreMarked`, `mark_all`    just the pairs that are listed have a mark; marks are set at some indices
--   `ComesNext`                which chain is listed for a pair, by its mark
--   `IsReported`               the chains for the pairs before an index are listed
use Rattle.std.specs.Prelude.{◌≡◌, ◌↔◌, ◌⊎◌, ℕ, Bool, true, false, List, ◌++◌, length, drop, fold, set, Contains, Option, Some, None, slice_get}
use Rattle.std.specs.declared.alloc.Global.{Global}
use Rattle.std.specs.declared.vec.Vec.{Vec}
use Rattle.abs_graph.specs.Graphs.{is_marked}
use Rattle.abs_tree.specs.Syntax.{ProgramTree}
use Rattle.circularity_test.specs.Routes.{IsWayBack}
use Rattle.contract_terms.specs.Chains.{ClosesAt, Reports, IsReport}
use Rattle.contract_terms.specs.declared.pair.Mode.TheVariants.{Await}
use Rattle.contract_terms.specs.declared.pair.Pair.{Pair}

-- each pair is an `await`
abbrev pub AreAwaits : List Pair → Type 0
AreAwaits pairs = (index : ℕ) (pair : Pair) → slice_get pairs index ≡ Some pair → pair.mode ≡ Await

-- just the pairs that are listed have a mark
abbrev pub AreMarked : List Pair → List Bool → List Pair → Type 0
AreMarked pairs marked listed = (index : ℕ) (pair : Pair) → slice_get pairs index ≡ Some pair
    → (is_marked marked index ≡ true) ↔ Contains listed pair

-- marks are set at some indices
abbrev pub mark_all : List Bool → List ℕ → List Bool
mark_all marked indices = fold (λ marks index. set marks index true) marked indices

-- Of a pair that is listed, or to which no chain leads back, no chain is listed. Of any other one its way back is.
abbrev pub ComesNext : ProgramTree → List Pair → Pair → Bool → Option (Vec ℕ Global) → Type 0
ComesNext program pairs pair is_listed None =
    (is_listed ≡ true) ⊎ ((chain : List Pair) → ClosesAt program pairs pair chain → ⊥)
ComesNext program pairs pair is_listed (Some indices) =
    (is_listed ≡ false) × IsWayBack program pairs pair (Some indices)

-- The chains for the pairs before an index are listed: what is listed for the others makes the report complete.
pub record IsReported (program : ProgramTree) (pairs : List Pair) (index : ℕ) (marked : List Bool)
    (report : List (List Pair)) : Type 0 where
  pub listed : List Pair
  pub marks : AreMarked pairs marked listed
  pub count : length marked ≡ length pairs
  pub so_far : (chains : List (List Pair)) → Reports program pairs (drop index pairs) listed chains
      → IsReport program pairs (report ++ chains)
