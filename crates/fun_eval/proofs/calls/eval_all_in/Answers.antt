use Rattle.std.proofs.Common.{subst, sym}
use Rattle.abs_values.specs.Evaluation.{results_of}
use Rattle.abs_values.specs.Scopes.{library_of}
use Rattle.abs_program.specs.NamedViews.{program_tree}
use Rattle.abs_program.specs.InstructionViews.{shared_expr_trees}
use Rattle.abs_tree.specs.SyntaxViews.{expr_trees}
use Rattle.abs_program.specs.declared.named.Named.{Named}
use Rattle.fun_eval.specs.Evaluating.{AreStopped}
use Rattle.fun_eval.specs.Reading.{scope_tree}
use Rattle.fun_eval.specs.declared.stop.Stop.TheVariants as stop
use Rattle.fun_eval.proofs.calls.eval_all_in.Goals as goal

pub returns-in-Err-Fault : goal.returns-in-Err-Fault
returns-in-Err-Fault c =
    sym (subst (λ (known : Named). AreStopped (results_of (library_of (program_tree known)) (scope_tree c.args.scope)
    (expr_trees known.symbols c.args.exprs.now) (shared_expr_trees known.symbols c.args.inits.now)) (stop.Fault c.in-Err-Fault.fault))
    c.new-evaluator.ensures.program
    (subst (AreStopped _) c.in-Err-Fault.field-0-is c.in-Err-Fault.ensures))
