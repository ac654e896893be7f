use Rattle.std.proofs.Common.{drop}
use Rattle.fun_eval.proofs.InitialLemmas.{InitialsSoFar}
use Rattle.abs_values.specs.Evaluation.{results_of}
use Rattle.abs_program.specs.InstructionViews.{shared_expr_trees}
use Rattle.abs_tree.specs.SyntaxViews.{expr_trees}
use Rattle.fun_eval.specs.Evaluating.{library_in, names_in}
use Rattle.fun_eval.specs.Reading.{scope_tree}
use Rattle.fun_eval.proofs.evaluator.Evaluator.all_values.Given as goal

abbrev pub invariant-loop-initial : goal.invariant-loop-initial
invariant-loop-initial l =
    InitialsSoFar (results_of (library_in l.fn.self) (scope_tree l.scope) (expr_trees (names_in l.fn.self) l.exprs)
    (shared_expr_trees (names_in l.fn.self) l.inits)) l.values.items (drop l.initial-index l.inits) l.fn.self l.self
