use Rattle.std.proofs.Common.{ap, ◌∙◌, map, subst, sym}
use Rattle.std.proofs.lemmas.Result.{err_from_is_err_and}
use Rattle.abs_values.specs.Evaluation.{Outcome, Outcomes}
use Rattle.abs_program.specs.InstructionViews.{shared_expr_trees}
use Rattle.abs_tree.specs.SyntaxViews.{expr_trees}
use Rattle.abs_values.specs.ValueViews.{value_tree}
use Rattle.fun_eval.proofs.InitialLemmas.{initial_outcome, initials_end, initials_step, initials_stopped, own_outcomes, own_stopped, own_values}
use Rattle.fun_eval.specs.Evaluating.{library_in, names_in, AreStopped, IsStopped}
use Rattle.fun_eval.specs.Reading.{scope_tree}
use Rattle.fun_eval.proofs.evaluator.Evaluator.all_values.Goals as goal

pub returns-in_err-values : goal.returns-in_err-values
returns-in_err-values c =
    let error = err_from_is_err_and c.from_residual.result c.from_residual.ensures.1 in
    let exprs = expr_trees (names_in c.args.self.now) c.args.exprs.now in
    let inits = shared_expr_trees (names_in c.args.self.now) c.args.inits.now in
    let own = own_outcomes c.args.scope c.args.self.now exprs (ap (map value_tree) c.requires.bound) c.requires.applications in
    rw error.1
    (subst (AreStopped _) (sym error.2)
    (own_stopped (library_in c.args.self.now) (scope_tree c.args.scope) exprs inits c.in_err-values.field-0.0
    (subst (λ (outcomes : Outcomes). AreStopped outcomes.results c.in_err-values.field-0.0) own
    c.in_err-values.ensures.values)))

pub loop-initial-init : goal.loop-initial-init
loop-initial-init c =
    let exprs = expr_trees (names_in c.args.self.now) c.args.exprs.now in
    let inits = shared_expr_trees (names_in c.args.self.now) c.args.inits.now in
    let own = own_outcomes c.args.scope c.args.self.now exprs (ap (map value_tree) c.requires.bound) c.requires.applications in record {
      stays = c.in_ok-values.ensures.stays;
      is =
          own_values (library_in c.args.self.now) (scope_tree c.args.scope) exprs inits (map value_tree c.in_ok-values.values.items)
          c.values.new.self.applications (sym own ∙ c.in_ok-values.ensures.values);
    }

pub returns-in_err-value : goal.returns-in_err-value
returns-in_err-value c =
    let error = err_from_is_err_and c.from_residual-in_err-value.result c.from_residual-in_err-value.ensures.1 in
    let none = c.loop-initial.invariant.stays.bound_are ∙ ap (map value_tree) c.requires.bound in
    rw error.1
    (subst (AreStopped _) (sym error.2)
    (initials_stopped c.args.inits.now c.loop-initial.initial-index c.initial-item.result c.in_err-value.field-0.0
    c.loop-initial-test.true c.initial-item.is c.loop-initial.invariant
    (subst (λ (outcome : Outcome). IsStopped outcome.result c.in_err-value.field-0.0)
    (sym (initial_outcome c.of_values-scope.result c.loop-initial.self c.loop-initial.values.items c.as_slice.result.now
    c.initial-item.result.value c.deref.result.now c.of_values-scope.ensures c.as_slice.ensures.value c.deref.ensures none)) c.in_err-value.ensures.outcome)))

pub loop-initial-preserved : goal.loop-initial-preserved
loop-initial-preserved c =
    let none = c.loop-initial.invariant.stays.bound_are ∙ ap (map value_tree) c.requires.bound in
    initials_step c.args.inits.now c.loop-initial.initial-index c.initial-item.result c.in_ok-value.value
    c.push.new.self.items c.evaluate.new.self c.loop-initial-test.true c.initial-item.is c.loop-initial.invariant
    c.in_ok-value.ensures.stays
    (initial_outcome c.of_values-scope.result c.loop-initial.self c.loop-initial.values.items c.as_slice.result.now
    c.initial-item.result.value c.deref.result.now c.of_values-scope.ensures c.as_slice.ensures.value c.deref.ensures none ∙ c.in_ok-value.ensures.outcome) c.in_ok-push.ensures.items

pub returns : goal.returns
returns c = initials_end c.args.inits.now c.loop-initial.initial-index c.loop-initial-test.false c.loop-initial.invariant
