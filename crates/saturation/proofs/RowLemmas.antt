-- What is asked for rests on each fact of a rule.
--
--   `Handled`                  what is asked for rests on a fact, by the contract
--   `Row`                      it rests on it that a kind is live, and on other facts
--   `rows_together`            facts of two rules that ask for one fact
--   `asks_has_term`            a statement that asks for something has a term
use Rattle.std.proofs.Common.{◌≡◌, ◌⊎◌, ⊎_elim, ℕ, true, List, ◌++◌, Contains, Some, None, refl, sym, subst}
use Rattle.std.proofs.lemmas.List.Elements.{Contains-append_cases}
use Rattle.std.proofs.lemmas.Option.{none-some}
use Rattle.abs_program.specs.Instructions.{EffectTree}
use Rattle.abs_tree.specs.Syntax.{ExprTrees, ProgramTree}
use Rattle.contract_terms.specs.Asks.{AsksFor}
use Rattle.contract_terms.specs.Asks.AsksFor.{assigned, makes, fills, begins, starts, calls, passes, answers, calls_own, passes_own, answers_own, gets, returns}
use Rattle.contract_terms.specs.Atoms.{held_by}
use Rattle.contract_terms.specs.BodyContexts.{BodyContext}
use Rattle.contract_terms.specs.Terms.{target_of, has_term}
use Rattle.contract_terms.specs.declared.fact.Fact.{Fact}
use Rattle.contract_terms.specs.declared.fact.Fact.TheVariants.{Live}
use Rattle.contract_terms.specs.declared.terms.Terms.{Terms}
use Rattle.name_bounding.specs.declared.kind.Kind.{Kind}
use Rattle.name_bounding.specs.declared.kind.Sign.{Sign}
use Rattle.saturation.specs.Rows.{Handles, BeginsHere}

module _ (program : ProgramTree) (terms : Terms) (depth : ℕ) (made : List (Sign × ℕ)) (known : List Fact) where
  -- What is asked for rests on a fact, by the contract.
  abbrev pub Handled : Fact → Fact → Type 0
  Handled fact asked =
      Handles program terms depth made known fact asked ⊎ BeginsHere program terms depth known fact asked

  -- What is asked for rests on it that a kind is live, and on other facts.
  pub record Row (kind : Kind) (premises : List Fact) (asked : Fact) : Type 0 where
    pub starts : Handled (Live kind) asked
    pub passes : (fact : Fact) → Contains premises fact → Handled fact asked

  -- Facts of two rules that ask for one fact.
  pub rows_together : (kind : Kind) (premises others : List Fact) (asked : Fact) → Row kind premises asked
      → Row kind others asked → Row kind (premises ++ others) asked
  rows_together kind premises others asked row other = record {
    starts = row.starts;
    passes = λ fact among. ⊎_elim (λ first. row.passes fact first) (λ second. other.passes fact second)
        (Contains-append_cases premises others fact among);
  }

-- an effect has a term, if one that it is has
has_by : (effect one : EffectTree) → effect ≡ one → has_term one ≡ true → has_term effect ≡ true
has_by effect one is has_it = subst (λ other. has_term other ≡ true) (sym is) has_it

module _ (program : ProgramTree) (depth : ℕ) (kind : Kind) (context : BodyContext) (place : ℕ) (effect : EffectTree)
    (expr_trees : ExprTrees) where
  -- A statement that asks for something has a term.
  pub asks_has_term : (premises : List Fact) (asked : Fact)
      → AsksFor program depth kind context place effect expr_trees premises asked → has_term effect ≡ true
  asks_has_term _ _ (assigned None is expr premises atom at let_in asked held) =
      absurd (none-some asked (subst (λ one. held_by kind (target_of one) atom ≡ Some asked) is held))
  asks_has_term _ _ (assigned (Some target) is expr premises atom at let_in asked held) = has_by effect _ is refl
  asks_has_term _ _ (makes mode name target is asked held) = has_by effect _ is refl
  asks_has_term _ _ (fills mode name target is argument premises atom at let_in) = has_by effect _ is refl
  asks_has_term _ _ (begins mode name target is field slot initial atom let_in) = has_by effect _ is refl
  asks_has_term _ _ (starts mode name target is active) = has_by effect _ is refl
  asks_has_term _ _ (calls method target is premises sign receives) = has_by effect _ is refl
  asks_has_term _ _ (passes method target is before sign receives argument premises atom at param) =
      has_by effect _ is refl
  asks_has_term _ _ (answers method target is premises sign receives asked held) = has_by effect _ is refl
  asks_has_term _ _ (calls_own method target is sign own kind_is) = has_by effect _ is refl
  asks_has_term _ _ (passes_own method target is sign own kind_is argument premises atom at param) =
      has_by effect _ is refl
  asks_has_term _ _ (answers_own method target is sign own kind_is atom let_in asked held) = has_by effect _ is refl
  asks_has_term _ _ (gets slot target is call task atom let_in asked held) = has_by effect _ is refl
  asks_has_term _ _ (returns is expr premises atom at let_in) = has_by effect _ is refl
