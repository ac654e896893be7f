use Rattle.std.proofs.Common.{ap, map, subst, sym}
use Rattle.abs_values.specs.Evaluation.{Outcome}
use Rattle.abs_values.specs.ValueViews.{value_tree}
use Rattle.fun_eval.specs.Evaluating.{IsStopped}
use Rattle.fun_eval.specs.declared.stop.Stop.TheVariants as stop
use Rattle.fun_eval.proofs.InitialLemmas.{first_outcome}
use Rattle.fun_eval.proofs.calls.eval_in.Goals as goal

pub returns-in-Err-Fault : goal.returns-in-Err-Fault
returns-in-Err-Fault c =
    let new = c.new-evaluator.ensures in
    let first = first_outcome c.args.scope c.new-evaluator.result c.args.program.now c.args.expr.now new.program
    (ap (map value_tree) new.bound) new.applications in
    sym (subst (λ (o : Outcome). IsStopped o.result (stop.Fault c.in-Err-Fault.fault)) first
    (subst (IsStopped _) c.in-Err-Fault.field-0-is c.in-Err-Fault.ensures.outcome))
