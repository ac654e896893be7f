-- All that the definition asks for is there by the contract.
--
--   `complete`             what rests on a fact and on others by the definition does so by the contract
use Rattle.std.proofs.Common.{◌⊎◌, ⊎_elim, ℕ, List, ◌∷◌, ◌++◌, Contains, subst}
use Rattle.abs_program.specs.Instructions.{effect_of, expr_trees_of}
use Rattle.abs_tree.specs.Syntax.{ProgramTree}
use Rattle.abs_tree.specs.SyntaxPlaces.{statement_place}
use Rattle.contract_terms.specs.Asks.{Asks, Rests}
use Rattle.contract_terms.specs.Asks.Rests.{main_lives, asked_by}
use Rattle.contract_terms.specs.Derived.{AllHold}
use Rattle.contract_terms.specs.ProgramTerms.{AreTermsOf}
use Rattle.contract_terms.specs.declared.fact.Fact.{Fact}
use Rattle.contract_terms.specs.declared.fact.Fact.TheVariants.{Live}
use Rattle.contract_terms.specs.declared.terms.Terms.{Terms}
use Rattle.list_facts.proofs.AllLemmas.{Contains-head_or_tail}
use Rattle.name_bounding.specs.declared.kind.Kind.{Kind}
use Rattle.name_bounding.specs.declared.kind.Sign.{Sign}
use Rattle.saturation.proofs.AskedLemmas.{row_of}
use Rattle.saturation.proofs.PlaceLemmas.{placed_by_statement}
use Rattle.saturation.proofs.RowLemmas.{Handled, Row, asks_has_term}
use Rattle.saturation.proofs.SelectLemmas.{among_split, among_none}
use Rattle.saturation.specs.Rows.{Handles, BeginsHere}

module _ (program : ProgramTree) (depth : ℕ) (terms : Terms) (are : AreTermsOf program terms)
    (made : List (Sign × ℕ)) (known : List Fact) where
  -- what a statement of a live kind asks for
  row_there : (kind : Kind) (index : ℕ) (premises : List Fact) (asked : Fact)
      → Asks program depth kind index premises asked → Contains known (Live kind)
      → AllHold (Contains known) premises → Row program terms depth made known kind premises asked
  row_there kind index premises asked asks live hold =
      let point = asks.here.point in
      let has_it = asks_has_term program depth kind asks.here.context (statement_place point.statement).offset
      (effect_of point.statement) (expr_trees_of point.statement) premises asked asks.asked in
      let there = placed_by_statement program terms are kind index asks.here has_it in
      row_of program terms depth are made known kind live there.own asks.here.context there.place point there.term
      there.placed premises asked asks.asked hold

  -- what rests on one of some facts
  rests_among : (list : List Fact) (asked : Fact) → Rests program depth list asked → AllHold (Contains known) list
      → (fact : Fact) → Contains list fact → Handled program terms depth made known fact asked
  rests_among _ _ main_lives hold fact among = absurd (among_none fact among)
  rests_among _ _ (asked_by kind index premises asked asks) hold fact among =
      let row = row_there kind index premises asked asks hold.0 hold.1 in
      ⊎_elim (λ same. subst (λ one. Handled program terms depth made known one asked) same row.starts)
      (λ later. row.passes fact later) (Contains-head_or_tail (Live kind) premises fact among)

  -- What rests on a fact and on others by the definition does so by the contract.
  pub complete : (before after : List Fact) (fact asked : Fact) → Rests program depth (before ++ fact ∷ after) asked
      → AllHold (Contains known) (before ++ fact ∷ after)
      → Handles program terms depth made known fact asked ⊎ BeginsHere program terms depth known fact asked
  complete before after fact asked rests hold =
      rests_among (before ++ fact ∷ after) asked rests hold fact (among_split before after fact)
