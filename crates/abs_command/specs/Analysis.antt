-- What the analysis finds of a program: how many facts are derived, how many pairs these give, and the report of the
-- pairs. The depth is how many places the name of a cog keeps.
--
--   `HasTooMany`                   more facts are derived than a limit
--   `AreFindings`                  the numbers and the report of a program
--   `TellsChains`                  a report lists circular chains, and none exactly where there is none
--   `SameFindings`                 two findings are the same
use Rattle.std.specs.Prelude.{◌≡◌, ◌↔◌, ℕ, List, [], length, Contains}
use Rattle.abs_tree.specs.Syntax.{ProgramTree}
use Rattle.contract_terms.specs.Asks.{Rests, IsDerivedIn}
use Rattle.contract_terms.specs.Chains.{IsCircular, IsReport}
use Rattle.contract_terms.specs.Derived.{AreDistinct, MoreThan}
use Rattle.contract_terms.specs.Pairs.{ArePairs}
use Rattle.contract_terms.specs.declared.fact.Fact.{Fact}
use Rattle.contract_terms.specs.declared.pair.Pair.{Pair}

-- More facts are derived at this depth than the limit.
abbrev pub HasTooMany : ProgramTree → (depth limit : ℕ) → Type 0
HasTooMany program depth limit = MoreThan (Rests program depth) limit

-- What the analysis finds of a program at this depth. There is a list of just the derived facts, each once, and this is
-- its length. There is a list of the pairs by these facts, and this is its length. The report is that of these pairs.
pub record AreFindings (program : ProgramTree) (depth facts pairs : ℕ) (report : List (List Pair)) : Type 0 where
  pub known : List Fact
  pub derived : (fact : Fact) → Contains known fact ↔ IsDerivedIn program depth fact
  pub distinct : AreDistinct known
  pub facts_are : facts ≡ length known
  pub found : List Pair
  pub are_pairs : ArePairs program known found
  pub pairs_are : pairs ≡ length found
  pub report_is : IsReport program found report

-- The report of some pairs is empty exactly where they have no circular chain. Each chain that it lists is a circular
-- chain of these pairs.
pub record TellsChains (program : ProgramTree) (pairs : List Pair) (report : List (List Pair)) : Type 0 where
  pub empty : (report ≡ []) ↔ ((chain : List Pair) → IsCircular program pairs chain → ⊥)
  pub each : (chain : List Pair) → Contains report chain → IsCircular program pairs chain

-- Two findings are the same.
pub record SameFindings (facts pairs : ℕ) (report : List (List Pair)) (facts' pairs' : ℕ) (report' : List (List Pair))
    : Type 0 where
  pub facts_same : facts ≡ facts'
  pub pairs_same : pairs ≡ pairs'
  pub report_same : report ≡ report'
