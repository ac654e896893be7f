-- Derivations that have come to their end have just the derived facts, or more than the limit.
--
--   `contains_merely`          a fact that is merely there is there
--   `finished_merely`          a derivation is at its end, if it is so for contracts that are merely there
--   `finished_exact`           a derivation at its end has just the derived facts, if the work goes on
--   `finished_more`            more than so many facts are derived, if there are more
--   `finished_few`             else they are not
use mathlib.Core.Logic.{∥∥₁_elim}
use Rattle.std.proofs.Common.{◌≡◌, ◌↔◌, ℕ, ◌<◌, ◌≤◌, List, length, Contains, subst}
use Rattle.std.proofs.Math.Bool.{Bool-set}
use Rattle.std.proofs.Math.Logic.{∥∥₁_map}
use Rattle.std.proofs.lemmas.List.Elements.{Contains-get_or}
use Rattle.std.proofs.lemmas.Map.Views.{Contains-from_any, list_any-from_Contains}
use Rattle.std.specs.Prelude.{get_or}
use Rattle.abs_program.specs.NamedViews.{program_tree}
use Rattle.abs_program.specs.declared.named.Named.{Named}
use Rattle.abs_tree.specs.Syntax.{ProgramTree}
use Rattle.contract_terms.proofs.DerivedLemmas.{none_closed}
use Rattle.contract_terms.specs.Asks.{IsDerivedIn, Rests}
use Rattle.contract_terms.specs.Derived.{AreDistinct, MoreThan}
use Rattle.contract_terms.specs.ProgramTerms.{AreTermsOf}
use Rattle.contract_terms.specs.declared.fact.Fact.{Fact}
use Rattle.contract_terms.specs.declared.terms.Terms.{Terms}
use Rattle.saturation.proofs.KeyLemmas.{fact_eq, fact_eq_laws, fact_eq_same}
use Rattle.saturation.specs.Finished.{IsFinished}
use Rattle.saturation.specs.Steps.{GoesOn}
use Rattle.saturation.specs.declared.derivation.Derivation.{Derivation}

-- a fact that is merely there is there, since a test finds it
pub contains_merely : (facts : List Fact) (fact : Fact) → ∥ Contains facts fact ∥₁ → Contains facts fact
contains_merely facts fact there =
    Contains-from_any {eq = fact_eq} fact_eq_same fact facts
    (∥∥₁_elim there (Bool-set _ _) (λ inside. list_any-from_Contains {eq = fact_eq} fact_eq_laws fact facts inside))

-- a derivation that has merely come to its end has come there
finished_if : (program : ProgramTree) (depth : ℕ) (derivation : Derivation) → ∥ IsFinished program depth derivation ∥₁
    → IsFinished program depth derivation
finished_if program depth derivation finished = record {
  derived = λ list closed fact there. contains_merely list fact
      (∥∥₁_map finished (λ it. it.derived list closed fact there));
  closed = λ going premises fact asks hold. contains_merely derivation.facts fact
      (∥∥₁_map finished (λ it. it.closed going premises fact asks hold));
}

-- a derivation has come to its end, if it is so for contracts of the program that are merely there
pub finished_merely : (named other : Named) (terms : Terms) (depth : ℕ) (derivation : Derivation) → named ≡ other
    → ∥ AreTermsOf (program_tree other) terms ∥₁
    → (AreTermsOf (program_tree named) terms → IsFinished (program_tree named) depth derivation)
    → IsFinished (program_tree other) depth derivation
finished_merely named other terms depth derivation same are finished =
    finished_if (program_tree other) depth derivation
    (∥∥₁_map are (subst (λ (it : Named). AreTermsOf (program_tree it) terms
    → IsFinished (program_tree it) depth derivation) same finished))

module _ (program : ProgramTree) (depth : ℕ) (derivation : Derivation) (finished : IsFinished program depth derivation)
  where
    -- a derivation at its end has just the derived facts
    pub finished_exact : GoesOn derivation → (fact : Fact)
        → Contains derivation.facts fact ↔ IsDerivedIn program depth fact
    finished_exact going fact =
        (λ there list closed. finished.derived list closed fact there, λ is. is derivation.facts (finished.closed going))

    -- more than so many facts are derived, if there are more
    pub finished_more : (limit : ℕ) → AreDistinct derivation.facts → limit < length derivation.facts
        → MoreThan (Rests program depth) limit
    finished_more limit distinct more = record {
      facts = derivation.facts;
      distinct = distinct;
      derived = λ index default within list closed.
          finished.derived list closed (get_or derivation.facts index default)
          (Contains-get_or derivation.facts index default within);
      more = more;
    }

    -- they are not, if there are no more and the work goes on
    pub finished_few : (limit : ℕ) → GoesOn derivation → derivation.limit ≡ limit → MoreThan (Rests program depth) limit
        → ⊥
    finished_few limit going is more =
        none_closed (Rests program depth) limit more derivation.facts (finished.closed going)
        (subst (λ it. length derivation.facts ≤ it) is going.1)
