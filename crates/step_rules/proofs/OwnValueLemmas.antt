-- What is inside a value of a statement's own expressions comes from what its expression reads.
--
--   `given-read`               what is inside a value that an expression gives comes from it
--   `own_values-read`          so do the own values, which are the first ones of all values
use Rattle.std.proofs.Common.{◌≡◌, ℕ, ◌<◌, zero, suc, List, length, slice_get, Some, sym, ap, ◌∙◌, subst, arith}
use Rattle.std.proofs.lemmas.Option.{none-some, same_Some}
use Rattle.abs_values.proofs.ListOutcomeLemmas.{AreGiven, Keeps, outcomes_of-each, outcomes_of-count, initial_outcomes-keep, results_of-gives}
use Rattle.abs_values.proofs.ReferenceLemmas.{AllComeFrom, evaluate-reads}
use Rattle.abs_values.proofs.ResultLemmas.{IfGives-at, IfAllGive-at}
use Rattle.abs_values.specs.Evaluation.{Outcomes, evaluate, outcomes_of, initial_outcomes, results_of}
use Rattle.abs_tree.specs.Limits.{level_limit}
use Rattle.abs_values.specs.References.{IsGiven, expr_tree_at}
use Rattle.abs_values.specs.Results.{AllGive}
use Rattle.abs_values.specs.Scopes.{Library, Scope}
use Rattle.abs_tree.specs.Syntax.{ExprTree, ExprTrees, NoExpr, NextExpr}
use Rattle.abs_tree.specs.SyntaxCounts.{count_exprs}
use Rattle.abs_values.specs.ValueTrees.{ValueTree}
use Rattle.list_facts.proofs.EntryLemmas.{slice_get-there}

-- where there is an expression at an index, there are more expressions than this
expr_tree_at-within : (expr_trees : ExprTrees) (index : ℕ) (expr_tree : ExprTree)
    → expr_tree_at expr_trees index ≡ Some expr_tree → index < count_exprs expr_trees
expr_tree_at-within NoExpr index expr_tree is = absurd (none-some expr_tree is)
expr_tree_at-within (NextExpr first others) zero expr_tree is = omega arith
expr_tree_at-within (NextExpr first others) (suc index) expr_tree is =
    omega (arith, expr_tree_at-within others index expr_tree is)

module _ (library : Library) (scope : Scope) (expr_trees : ExprTrees) where
  abbrev own_outcomes : Outcomes
  own_outcomes = outcomes_of (evaluate library scope level_limit) expr_trees 0

  -- a value that the expression at an index gives
  given-read : (index : ℕ) (expr_tree : ExprTree) → expr_tree_at expr_trees index ≡ Some expr_tree → (value : ValueTree)
      → IsGiven (evaluate library scope level_limit) expr_trees index value → AllComeFrom scope expr_tree value
  given-read index expr_tree is value given =
      subst (λ (one : ExprTree). AllComeFrom scope one value)
      (same_Some given.expr_tree expr_tree (sym given.there ∙ is))
      (IfGives-at (evaluate library scope level_limit given.expr_tree given.applications).result
      (AllComeFrom scope given.expr_tree) value given.gives
      (evaluate-reads library level_limit scope given.expr_tree given.applications))

  -- what is inside a value of the own expressions comes from what its expression reads
  own-read : (own values : List ValueTree) → own_outcomes.results ≡ AllGive own → Keeps own values → (index : ℕ)
      (expr_tree : ExprTree) → expr_tree_at expr_trees index ≡ Some expr_tree → (value : ValueTree)
      → slice_get values index ≡ Some value → AllComeFrom scope expr_tree value
  own-read own values gives keeps index expr_tree is value there =
      let give = evaluate library scope level_limit in
      let count = IfAllGive-at own_outcomes.results (λ found. length found ≡ count_exprs expr_trees) own gives
      (outcomes_of-count give expr_trees 0) in
      let within = expr_tree_at-within expr_trees index expr_tree is in
      let found = slice_get-there own index (omega (arith, count, within)) in
      let each = IfAllGive-at own_outcomes.results (AreGiven give expr_trees) own gives
      (outcomes_of-each give expr_trees 0) in
      given-read index expr_tree is value
      (subst (IsGiven give expr_trees index) (same_Some found.0 value (sym (keeps index found.0 found.1) ∙ there))
      (each index found.0 found.1))

  -- so does what is inside one of all values at the index of an own expression
  pub own_values-read : (initials : ExprTrees) (values : List ValueTree)
      → results_of library scope expr_trees initials ≡ AllGive values → (index : ℕ) (expr_tree : ExprTree)
      → expr_tree_at expr_trees index ≡ Some expr_tree → (value : ValueTree) → slice_get values index ≡ Some value
      → AllComeFrom scope expr_tree value
  own_values-read initials values gives =
      let given = (results_of-gives library scope expr_trees initials values).0 gives in
      own-read given.own values (ap (λ (all : Outcomes). all.results) given.own_given)
      (IfAllGive-at (initial_outcomes library initials given.own given.made).results (Keeps given.own) values
      given.all_given (initial_outcomes-keep library initials given.own given.made))
