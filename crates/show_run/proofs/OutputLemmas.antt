-- The output for an input of one expression.
--
--   `only`                     the results of a list of one expression, by the result of that
--   `output_of_rows`           what its expressions and initial values give is the output for an input
--   `output_of_one`            so is what a single expression gives, where no initial value follows it
use Rattle.std.proofs.Common.{◌≡◌, ◌<◌, ◌≤◌, ◌∙◌, refl, sym, ap, true, nat_eq, eqb-true, List, [], ◌∷◌, get_or, length}
use Rattle.std.proofs.lemmas.List.{nil_from_length}
use Rattle.std.specs.declared.alloc.Global.{Global}
use Rattle.std.specs.declared.sync.Arc.{Arc}
use Rattle.abs_values.specs.Evaluation.{initial_outcomes, result_of, results_of}
use Rattle.abs_program.specs.InstructionViews.{shared_expr_trees}
use Rattle.abs_values.specs.Results.{result_tree, Result, Gives, Fails, Results, AllGive, OneFails}
use Rattle.abs_values.specs.Scopes.{Library, Scope, library_of}
use Rattle.abs_tree.specs.Syntax.{Name, ExprTree, ExprTrees, NoExpr, NextExpr, ProgramTree}
use Rattle.abs_tree.specs.SyntaxViews.{expr_tree, expr_trees}
use Rattle.abs_values.specs.declared.evaluated.Evaluated.{Evaluated}
use Rattle.abs_tree.specs.declared.syntax.expression.Expr.{Expr}
use Rattle.step_rules.specs.Inputs.{Input, output_of}
use Rattle.list_facts.proofs.EntryLemmas.{list-one_item}

-- the results of a list of one expression
abbrev pub only : Result → Results
only (Gives value) = AllGive (value ∷ [])
only (Fails cause) = OneFails cause

-- the result of one expression alone is that of a list of it
only_results : (library : Library) (scope : Scope) (expr_tree : ExprTree)
    → results_of library scope (NextExpr expr_tree NoExpr) NoExpr ≡ only (result_of library scope expr_tree)
unfolding initial_outcomes
only_results library scope expr_tree = by (result_of library scope expr_tree) refl
  where
    by : (found : Result) → result_of library scope expr_tree ≡ found
        → results_of library scope (NextExpr expr_tree NoExpr) NoExpr ≡ only found
    by (Gives value) is = rw (is, results_of) refl
    by (Fails cause) is = rw (is, results_of) refl

module _ (program : ProgramTree) (input : Input) where
  -- what its expressions and its initial values give is the output for an input
  pub output_of_rows : (own initials : ExprTrees) → own ≡ input.expr_trees → initials ≡ input.initials
      → results_of (library_of program) input.scope own initials ≡ output_of program input
  unfolding output_of
  output_of_rows own initials own_is initials_is = rw own_is (rw initials_is refl)

  -- so is what a single expression gives, where no initial value follows it
  pub output_of_one : (names : List Name) (exprs : List Expr) (inits : List (Arc Expr Global)) (expr : Expr)
      → 1 ≤ length exprs → length exprs < 2 → expr ≡ get_or exprs 0 expr → true ≡ nat_eq (length inits) 0
      → expr_trees names exprs ≡ input.expr_trees → shared_expr_trees names inits ≡ input.initials → (found : Evaluated)
      → result_tree found ≡ result_of (library_of program) input.scope (expr_tree names expr)
      → only (result_tree found) ≡ output_of program input
  output_of_one names exprs inits expr some few expr_is none own_is initials_is found found_is =
      let one = list-one_item exprs expr some few expr_is in
      let empty = nil_from_length inits (eqb-true (length inits) 0 (sym none)) in
      ap only found_is ∙ sym (only_results (library_of program) input.scope (expr_tree names expr))
      ∙ output_of_rows (NextExpr (expr_tree names expr) NoExpr) NoExpr (sym (ap (expr_trees names) one) ∙ own_is)
      (sym (ap (shared_expr_trees names) empty) ∙ initials_is)
