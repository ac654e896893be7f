-- Derivations that have come to their end. It serves proofs only.
--
--   `IsFinished`               all facts are derived, and if the work goes on they are closed
use Rattle.std.specs.Prelude.{ℕ, List, Contains}
use Rattle.abs_tree.specs.Syntax.{ProgramTree}
use Rattle.contract_terms.specs.Asks.{IsClosedFor}
use Rattle.contract_terms.specs.declared.fact.Fact.{Fact}
use Rattle.saturation.specs.Steps.{GoesOn, AreAmong}
use Rattle.saturation.specs.declared.derivation.Derivation.{Derivation}

-- Each fact is in each closed list. If the work goes on, the facts have all that rests on them.
pub record IsFinished (program : ProgramTree) (depth : ℕ) (derivation : Derivation) : Type 0 where
  pub derived : (list : List Fact) → IsClosedFor program depth (Contains list) → AreAmong derivation.facts list
  pub closed : GoesOn derivation → IsClosedFor program depth (Contains derivation.facts)
