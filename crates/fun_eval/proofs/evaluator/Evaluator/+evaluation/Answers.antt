use mir.Syntax.{w128}
use Rattle.std.proofs.Common.{◌≡◌, ℕ, ◌+◌, ◌-◌, ◌++◌, FitsSigned, Some, List, [], ◌∷◌, length, map, true, false, drop, ap, ◌∙◌, refl, sym, subst, rules, arith, ⊎_elim}
use Rattle.std.proofs.lemmas.Int.{to_z-of_z}
use Rattle.std.proofs.lemmas.Option.{none-some}
use Rattle.std.proofs.lemmas.Result.{err_from_is_err_and}
use Rattle.std.specs.Option.{option_map}
use Rattle.std.specs.Prelude.{slice_get}
use Rattle.abs_values.specs.Evaluation.{Outcome, ends_with, evaluate}
use Rattle.abs_tree.specs.Names.{name_of}
use Rattle.abs_values.specs.Operations.{operation_result}
use Rattle.abs_values.specs.Scopes.{Scope, own_scope}
use Rattle.abs_tree.specs.Syntax.{Name, ExprTree}
use Rattle.abs_tree.specs.SyntaxViews.{decl_tree, operand_trees, expr_tree}
use Rattle.abs_values.specs.ValueTrees.{ValueTree}
use Rattle.abs_values.specs.ValueViews.{value_tree}
use Rattle.fun_eval.proofs.ApplicationLemmas.{applied, body_entered, body_other, built_given, built_large, counted, defined_named, left_counted, to_string_named}
use Rattle.fun_eval.proofs.BranchLemmas.{case_taken, if_taken, let_taken}
use Rattle.fun_eval.proofs.FormLemmas.{apply_form, build_form, case_form, destiny_form, field_form, if_form, let_form, no_level, null_form, number_form, operators_form, own_call_form, prefixed_form, string_form, this_form, variable_form}
use Rattle.fun_eval.proofs.FrameLemmas.{arguments_counted, bound_counted, scope_call}
use Rattle.fun_eval.proofs.FunctionLemmas.{defined_is_first, to_string_is_named, unknown_has_none}
use Rattle.fun_eval.proofs.OutcomeLemmas.{after_value, after_values, operators_stop, other_operand, result_outcome, same_outcome, stopped_outcome}
use Rattle.fun_eval.proofs.SoFarLemmas.{names_stay, operators_step, operators_stopped}
use Rattle.fun_eval.proofs.StackLemmas.{begins_more, restored}
use Rattle.fun_eval.proofs.ValueLemmas.{arguments_step, arguments_stopped, values_step, values_stopped}
use Rattle.fun_eval.specs.Evaluating.{arguments_in, bound_in, declarations_in, gives_in, library_in, names_in, scope_in, evaluator_scope, AreStopped, IsStopped}
use Rattle.fun_eval.specs.Matching.{Begins}
use Rattle.fun_eval.specs.Reading.{value_of_function}
use Rattle.fun_eval.specs.declared.scope.Frame.TheVariants as frame
use Rattle.fun_eval.proofs.evaluator.Evaluator.+evaluation.Goals as goal
use Rattle.list_facts.proofs.ResultLemmas.{OnOk-always}

pub add_arguments-returns-in_err-value-clause-stopped : goal.add_arguments-returns-in_err-value-clause-stopped
add_arguments-returns-in_err-value-clause-stopped t c =
    let stopped = arguments_stopped c.args.arguments.now c.loop-argument.argument-index c.argument-item.result
    c.in_err-value.field-0.0 c.loop-argument-test.true c.argument-item.is c.requires c.loop-argument.invariant
    c.in_err-value.ensures.outcome in
    let error = err_from_is_err_and c.from_residual.result c.from_residual.ensures.1 in
    rw error.1 (subst (AreStopped _) (sym error.2) stopped)

pub add_arguments-loop-argument-preserved : goal.add_arguments-loop-argument-preserved
add_arguments-loop-argument-preserved t c =
    arguments_step c.args.arguments.now c.loop-argument.argument-index c.argument-item.result c.in_ok-value.value
    c.part.new.self _ c.loop-argument-test.true c.argument-item.is c.requires c.loop-argument.invariant
    c.in_ok-value.ensures.stays c.in_ok-value.ensures.outcome refl refl refl c.in_ok-push.ensures.items

pub evaluate-returns-then-left-eq0-clause-outcome : goal.evaluate-returns-then-left-eq0-clause-outcome
evaluate-returns-then-left-eq0-clause-outcome t c =
    rw (no_level (library_in c.args.self.now) (evaluator_scope c.args.frame.now c.args.self.now) c.args.left _ c.args.self.now.applications c.if-left-eq0.true) refl

pub evaluate-returns-in-Number-clause-outcome : goal.evaluate-returns-in-Number-clause-outcome
evaluate-returns-in-Number-clause-outcome t c =
    let n = c.in-Number in
    let fits : FitsSigned w128 n.number = search rules in
    rw (to_z-of_z w128 n.number fits)
    (number_form (library_in c.args.self.now) (evaluator_scope c.args.frame.now c.args.self.now) (names_in c.args.self.now) c.args.left
    c.args.expr.now n.field-0 n.number c.args.self.now.applications c.if-left-eq0.false n.is)

pub evaluate-returns-in-Variable-clause-outcome : goal.evaluate-returns-in-Variable-clause-outcome
evaluate-returns-in-Variable-clause-outcome t c =
    same_outcome _ _ c.variable.result c.args.self.now
    (variable_form (library_in c.args.self.now) (evaluator_scope c.args.frame.now c.args.self.now) (names_in c.args.self.now) c.args.left
    c.args.expr.now c.in-Variable.field-0 c.in-Variable.variable c.args.self.now.applications c.if-left-eq0.false c.in-Variable.is)
    (result_outcome _ c.variable.result c.args.self.now.applications c.args.self.now refl c.variable.ensures)

pub evaluate-returns-in-Text-clause-outcome : goal.evaluate-returns-in-Text-clause-outcome
evaluate-returns-in-Text-clause-outcome t c =
    same_outcome _ _ c.string.result c.args.self.now
    (string_form (library_in c.args.self.now) (evaluator_scope c.args.frame.now c.args.self.now) (names_in c.args.self.now) c.args.left
    c.args.expr.now c.in-Text.field-0 c.in-Text.text c.args.self.now.applications c.if-left-eq0.false c.in-Text.is)
    (result_outcome _ c.string.result c.args.self.now.applications c.args.self.now refl c.string.ensures)

pub evaluate-returns-in-This-clause-outcome : goal.evaluate-returns-in-This-clause-outcome
evaluate-returns-in-This-clause-outcome t c =
    same_outcome _ _ c.this.result c.args.self.now
    (this_form (library_in c.args.self.now) (evaluator_scope c.args.frame.now c.args.self.now) (names_in c.args.self.now) c.args.left
    c.args.expr.now c.in-This.field-0 c.args.self.now.applications c.if-left-eq0.false c.in-This.is)
    (result_outcome _ c.this.result c.args.self.now.applications c.args.self.now refl (c.this.ensures _ _))

pub evaluate-returns-in-Null-clause-outcome : goal.evaluate-returns-in-Null-clause-outcome
evaluate-returns-in-Null-clause-outcome t c =
    null_form (library_in c.args.self.now) (evaluator_scope c.args.frame.now c.args.self.now) (names_in c.args.self.now) c.args.left c.args.expr.now
    c.in-Null.field-0 c.args.self.now.applications c.if-left-eq0.false c.in-Null.is

pub part-returns-in-Number-clause-outcome : goal.part-returns-in-Number-clause-outcome
part-returns-in-Number-clause-outcome t c =
    let n = c.in-Number in
    let fits : FitsSigned w128 n.number = search rules in
    rw (to_z-of_z w128 n.number fits)
    (number_form (library_in c.args.self.now) (evaluator_scope c.args.frame.now c.args.self.now) (names_in c.args.self.now) c.args.left
    c.args.expr.now n.field-0 n.number c.args.self.now.applications (λ none. omega (arith, none, c.if-left-gt0.true)) n.is)

pub part-returns-in-Variable-clause-outcome : goal.part-returns-in-Variable-clause-outcome
part-returns-in-Variable-clause-outcome t c =
    same_outcome _ _ c.variable.result c.args.self.now
    (variable_form (library_in c.args.self.now) (evaluator_scope c.args.frame.now c.args.self.now) (names_in c.args.self.now) c.args.left
    c.args.expr.now c.in-Variable.field-0 c.in-Variable.variable c.args.self.now.applications (λ none. omega (arith, none, c.if-left-gt0-2.true)) c.in-Variable.is)
    (result_outcome _ c.variable.result c.args.self.now.applications c.args.self.now refl c.variable.ensures)

pub evaluate-returns-in-Operators-clause-outcome : goal.evaluate-returns-in-Operators-clause-outcome
evaluate-returns-in-Operators-clause-outcome t c =
    let o = c.in-Operators in
    same_outcome _ _ c.operators.result c.operators.new.self
    (operators_form (library_in c.args.self.now) (evaluator_scope c.args.frame.now c.args.self.now) (names_in c.args.self.now) c.args.left
    c.args.expr.now o.place o.first o.operands c.args.self.now.applications
    c.deref.result.now c.deref-in-Operators.result.now c.if-left-eq0.false o.is
    c.deref.ensures c.deref-in-Operators.ensures.value) c.operators.ensures.outcome

pub evaluate-returns-in-If-clause-outcome : goal.evaluate-returns-in-If-clause-outcome
evaluate-returns-in-If-clause-outcome t c =
    let o = c.in-If in
    same_outcome _ _ c.if_else.result c.if_else.new.self
    (if_form (library_in c.args.self.now) (evaluator_scope c.args.frame.now c.args.self.now) (names_in c.args.self.now) c.args.left
    c.args.expr.now o.place o.condition o.first o.second c.args.self.now.applications
    c.deref-in-If.result.now c.deref-in-If-2.result.now c.deref-in-If-3.result.now c.if-left-eq0.false o.is
    c.deref-in-If.ensures c.deref-in-If-2.ensures c.deref-in-If-3.ensures) c.if_else.ensures.outcome

pub evaluate-returns-in-Case-clause-outcome : goal.evaluate-returns-in-Case-clause-outcome
evaluate-returns-in-Case-clause-outcome t c =
    let o = c.in-Case in
    same_outcome _ _ c.case.result c.case.new.self
    (case_form (library_in c.args.self.now) (evaluator_scope c.args.frame.now c.args.self.now) (names_in c.args.self.now) c.args.left
    c.args.expr.now o.place o.subject o.branches c.args.self.now.applications
    c.deref-in-Case.result.now c.deref-in-Case-2.result.now c.if-left-eq0.false o.is
    c.deref-in-Case.ensures c.deref-in-Case-2.ensures.value) c.case.ensures.outcome

pub evaluate-returns-in-Apply-clause-outcome : goal.evaluate-returns-in-Apply-clause-outcome
evaluate-returns-in-Apply-clause-outcome t c =
    let o = c.in-Apply in
    same_outcome _ _ c.apply.result c.apply.new.self
    (apply_form (library_in c.args.self.now) (evaluator_scope c.args.frame.now c.args.self.now) (names_in c.args.self.now) c.args.left
    c.args.expr.now o.place o.function o.arguments c.args.self.now.applications
    c.deref-in-Apply.result.now c.if-left-eq0.false o.is
    c.deref-in-Apply.ensures.value) c.apply.ensures.outcome

pub evaluate-returns-in-Build-clause-outcome : goal.evaluate-returns-in-Build-clause-outcome
evaluate-returns-in-Build-clause-outcome t c =
    let o = c.in-Build in
    same_outcome _ _ c.build.result c.build.new.self
    (build_form (library_in c.args.self.now) (evaluator_scope c.args.frame.now c.args.self.now) (names_in c.args.self.now) c.args.left
    c.args.expr.now o.place o.constructor o.arguments c.args.self.now.applications
    c.deref-in-Build.result.now c.if-left-eq0.false o.is
    c.deref-in-Build.ensures.value) c.build.ensures.outcome

pub evaluate-returns-in-Let-clause-outcome : goal.evaluate-returns-in-Let-clause-outcome
evaluate-returns-in-Let-clause-outcome t c =
    let o = c.in-Let in
    same_outcome _ _ c.let_in.result c.let_in.new.self
    (let_form (library_in c.args.self.now) (evaluator_scope c.args.frame.now c.args.self.now) (names_in c.args.self.now) c.args.left
    c.args.expr.now o.place o.variable_place o.type_of o.variable o.value o.body c.args.self.now.applications
    c.deref-in-Let.result.now c.deref-in-Let-2.result.now c.if-left-eq0.false o.is
    c.deref-in-Let.ensures c.deref-in-Let-2.ensures) c.let_in.ensures.outcome

pub evaluate-returns-in-Prefixed-clause-outcome : goal.evaluate-returns-in-Prefixed-clause-outcome
evaluate-returns-in-Prefixed-clause-outcome t c =
    let o = c.in-Prefixed in
    same_outcome _ _ c.prefixed.result c.prefixed.new.self
    (prefixed_form (library_in c.args.self.now) (evaluator_scope c.args.frame.now c.args.self.now) (names_in c.args.self.now) c.args.left
    c.args.expr.now o.place o.prefix o.operand c.args.self.now.applications
    c.deref-in-Prefixed.result.now c.if-left-eq0.false o.is
    c.deref-in-Prefixed.ensures) c.prefixed.ensures.outcome

pub evaluate-returns-in-Destiny-clause-outcome : goal.evaluate-returns-in-Destiny-clause-outcome
evaluate-returns-in-Destiny-clause-outcome t c =
    ⊎_elim
    (λ here. ap (λ (o : Outcome). o.result) (destiny_form (library_in c.args.self.now) (evaluator_scope c.args.frame.now c.args.self.now) (names_in c.args.self.now)
    c.args.left c.args.expr.now here.0 c.args.self.now.applications c.if-left-eq0.false here.1))
    (λ others. ⊎_elim
    (λ here. ap (λ (o : Outcome). o.result) (field_form (library_in c.args.self.now) (evaluator_scope c.args.frame.now c.args.self.now) (names_in c.args.self.now)
    c.args.left c.args.expr.now here.0 here.1 here.2 c.args.self.now.applications c.if-left-eq0.false here.3))
    (λ here. ap (λ (o : Outcome). o.result) (own_call_form (library_in c.args.self.now) (evaluator_scope c.args.frame.now c.args.self.now)
    (names_in c.args.self.now) c.args.left c.args.expr.now here.0 here.1 here.2 c.args.self.now.applications c.if-left-eq0.false here.3)) others)
    c.in-Destiny.is

pub application-returns-in-Some-ToString-clause-outcome : goal.application-returns-in-Some-ToString-clause-outcome
application-returns-in-Some-ToString-clause-outcome t c =
    same_outcome _ _ c.string_of_argument.result _
    (counted (library_in c.args.self.now) (λ values. evaluate (library_in c.args.self.now) (own_scope values) c.args.left) (name_of (names_in c.args.self.now) c.args.function) (drop c.args.first (arguments_in c.args.self.now)) c.args.self.now.applications c.if-self-ge-APPLICATION_LIMIT.false
    ∙ to_string_named (library_in c.args.self.now) (λ values. evaluate (library_in c.args.self.now) (own_scope values) c.args.left) (name_of (names_in c.args.self.now) c.args.function) (drop c.args.first (arguments_in c.args.self.now)) (c.args.self.now.applications + 1)
    (to_string_is_named (declarations_in c.args.self.now) (name_of (names_in c.args.self.now) c.args.function)
    (sym c.function.ensures ∙ (c.in-Some-ToString.is ∙ ap Some c.in-Some-ToString.field-0-is))))
    (result_outcome _ c.string_of_argument.result (c.args.self.now.applications + 1) _ refl c.string_of_argument.ensures)

pub application-returns-in-Some-Defined-clause-outcome : goal.application-returns-in-Some-Defined-clause-outcome
application-returns-in-Some-Defined-clause-outcome t c =
    let means = sym c.function.ensures ∙ (c.in-Some-Defined.is ∙ ap Some c.in-Some-Defined.field-0-is) in
    let defined = defined_is_first (declarations_in c.args.self.now) (name_of (names_in c.args.self.now) c.args.function) c.in-Some-Defined.taking means in
    same_outcome _ _ c.body.result c.body.new.self
    (counted (library_in c.args.self.now) (λ values. evaluate (library_in c.args.self.now) (own_scope values) c.args.left) (name_of (names_in c.args.self.now) c.args.function) (drop c.args.first (arguments_in c.args.self.now)) c.args.self.now.applications c.if-self-ge-APPLICATION_LIMIT.false
    ∙ defined_named (library_in c.args.self.now) (λ values. evaluate (library_in c.args.self.now) (own_scope values) c.args.left) (name_of (names_in c.args.self.now) c.args.function) (drop c.args.first (arguments_in c.args.self.now)) (c.args.self.now.applications + 1) defined.other)
    (c.body.ensures.outcome (name_of (names_in c.args.self.now) c.args.function) means)

pub application-returns-in-None-clause-outcome : goal.application-returns-in-None-clause-outcome
application-returns-in-None-clause-outcome t c =
    let unknown = unknown_has_none (declarations_in c.args.self.now) (name_of (names_in c.args.self.now) c.args.function) (sym c.function.ensures ∙ c.in-None.is) in
    rw (
      counted (library_in c.args.self.now) (λ values. evaluate (library_in c.args.self.now) (own_scope values) c.args.left) (name_of (names_in c.args.self.now) c.args.function) (drop c.args.first (arguments_in c.args.self.now)) c.args.self.now.applications c.if-self-ge-APPLICATION_LIMIT.false,
      defined_named (library_in c.args.self.now) (λ values. evaluate (library_in c.args.self.now) (own_scope values) c.args.left) (name_of (names_in c.args.self.now) c.args.function) (drop c.args.first (arguments_in c.args.self.now)) (c.args.self.now.applications + 1) unknown.other,
      unknown.none,
    ) refl

pub apply-returns-in_err-found-clause-outcome : goal.apply-returns-in_err-found-clause-outcome
apply-returns-in_err-found-clause-outcome t c =
    let added = c.in_ok-add_arguments.ensures.added in
    let first = c.len-first.ensures ∙ c.args.self.now.arguments.ok.0 in
    stopped_outcome _ _ c.application.new.self c.in_err-found.field-0.0
    (subst (λ (o : Outcome). IsStopped o.result c.in_err-found.field-0.0)
    (sym (applied c.args.self.now c.add_arguments.new.self c.args.left c.len-first.result c.args.function _ added first))
    c.in_err-found.ensures.outcome) c.from_residual-in_err-found.ensures.1

pub apply-returns-clause-outcome : goal.apply-returns-clause-outcome
apply-returns-clause-outcome t c =
    let first = c.len-first.ensures ∙ c.args.self.now.arguments.ok.0 in
    applied c.args.self.now c.add_arguments.new.self c.args.left c.len-first.result c.args.function _
    c.in_ok-add_arguments.ensures.added first ∙ c.in_ok-found.ensures.outcome

pub apply-returns-clause-stays : goal.apply-returns-clause-stays
apply-returns-clause-stays t c =
    let first = c.len-first.ensures ∙ c.args.self.now.arguments.ok.0 in
    let added = c.in_ok-add_arguments.ensures.added in
    let stays = c.in_ok-found.ensures.stays in record {
      library_is = stays.library_is ∙ added.library_is;
      arguments_are =
          restored c.args.self.now.arguments.items c.application.new.self.arguments.items c.truncate.new.self.items
          c.len-first.result first c.truncate.ensures.items
          (subst (Begins (arguments_in c.args.self.now)) (sym stays.arguments_are) added.begins);
      bound_are = stays.bound_are ∙ added.bound_are;
    }

pub body-returns-then-count-taking-clause-outcome : goal.body-returns-then-count-taking-clause-outcome
body-returns-then-count-taking-clause-outcome t c name means =
    let first = (defined_is_first (declarations_in c.args.self.now) name c.args.taking means).first in
    let function = first.function in
    ap (λ (o : Outcome). o.result)
    (body_other (λ values. evaluate (library_in c.args.self.now) (own_scope values) c.args.left)
    (drop c.args.first (arguments_in c.args.self.now)) _
    (record { name = function.declared.name; arity = length function.params; value = function.value }) c.args.self.now.applications
    first.first (λ same. c.if-count-taking.true (omega (
      arith,
      same,
      function.arity_is,
      c.len.ensures,
      c.args.self.now.arguments.ok.0,
      left_counted c.args.self.now.arguments.items c.args.first,
    ))))

pub body-returns-in-Some-clause-outcome : goal.body-returns-in-Some-clause-outcome
body-returns-in-Some-clause-outcome t c name means =
    let first = (defined_is_first (declarations_in c.args.self.now) name c.args.taking means).first in
    let function = first.function in
    let library = library_in c.args.self.now in
    let arguments = arguments_in c.args.self.now in
    let made = c.args.self.now.applications in
    let shown : value_of_function (slice_get (map (decl_tree (names_in c.args.self.now)) c.deref.result.now)
    c.args.taking.declaration) ≡ Some function.value =
    rw c.deref.ensures.value (ap value_of_function function.there) in
    let same : Some (expr_tree (names_in c.args.self.now) c.in-Some.value.now) ≡ Some function.value =
    ap (option_map (λ found. expr_tree (names_in c.args.self.now) found.now)) (sym c.in-Some.is)
    ∙ (c.function_value.ensures (names_in c.args.self.now) ∙ shown) in
    let value : expr_tree (names_in c.args.self.now) c.in-Some.value.now ≡ function.value = cc in
    let counted_first : length (drop c.args.first arguments) ≡ length function.params =
    omega (
      arith,
      c.if-count-taking.false,
      function.arity_is,
      c.len.ensures,
      c.args.self.now.arguments.ok.0,
      left_counted c.args.self.now.arguments.items c.args.first,
    ) in
    same_outcome _ _ c.evaluate.result c.evaluate.new.self
    (body_entered (λ values. evaluate library (own_scope values) c.args.left) (drop c.args.first arguments) _
    (record { name = function.declared.name; arity = length function.params; value = function.value }) made first.first counted_first
    ∙ (ap (λ (scope : Scope). evaluate library scope c.args.left function.value made)
    (sym (scope_call c.args.first (c.len.result - c.args.first) c.len-in-Some.result arguments (bound_in c.args.self.now)
    (ap (λ (n : ℕ). n - c.args.first) (c.len.ensures ∙ (c.args.self.now.arguments.ok.0 ∙ sym (arguments_counted c.args.self.now))))
    (c.len-in-Some.ensures ∙ (c.args.self.now.bound.ok.0 ∙ sym (bound_counted c.args.self.now)))))
    ∙ ap (λ (tree : ExprTree). evaluate library
    (scope_in (frame.Function c.args.first (c.len.result - c.args.first) c.len-in-Some.result) arguments (bound_in c.args.self.now))
    c.args.left tree made) (sym value))) c.evaluate.ensures.outcome

pub body-returns-in-None-clause-outcome : goal.body-returns-in-None-clause-outcome
body-returns-in-None-clause-outcome t c name means =
    let function = (defined_is_first (declarations_in c.args.self.now) name c.args.taking means).first.function in
    let shown : value_of_function (slice_get (map (decl_tree (names_in c.args.self.now)) c.deref.result.now)
    c.args.taking.declaration) ≡ Some function.value =
    rw c.deref.ensures.value (ap value_of_function function.there) in
    absurd (none-some function.value (ap (option_map (λ found. expr_tree (names_in c.args.self.now) found.now)) (sym c.in-None.is)
    ∙ (c.function_value.ensures (names_in c.args.self.now) ∙ shown)))

pub build-returns-in-Some-clause-outcome : goal.build-returns-in-Some-clause-outcome
build-returns-in-Some-clause-outcome t c =
    let made = c.values.new.self.applications in
    let known = names_stay c.args.self.now c.values.new.self c.in_ok-parts.ensures.stays.library_is in
    after_values _ _ made _ c.in_ok-parts.ensures.values
    ∙ rw (
      ← known,
      ← c.number.ensures.number,
      built_given c.number.result c.in_ok-parts.parts.items c.in-Some.value
          (ap (option_map value_tree) (sym c.in-Some.is) ∙ c.in_ok-value.ensures),
    ) refl

pub build-returns-in-None-clause-outcome : goal.build-returns-in-None-clause-outcome
build-returns-in-None-clause-outcome t c =
    let made = c.values.new.self.applications in
    let known = names_stay c.args.self.now c.values.new.self c.in_ok-parts.ensures.stays.library_is in
    ap (λ (o : Outcome). o.result) (after_values _ _ made _ c.in_ok-parts.ensures.values)
    ∙ rw (← known, ← c.number.ensures.number)
    (built_large c.number.result c.in_ok-parts.parts.items
    (ap (option_map value_tree) (sym c.in-None.is) ∙ c.in_ok-value.ensures))

pub case-returns-in_err-branch-clause-outcome : goal.case-returns-in_err-branch-clause-outcome
case-returns-in_err-branch-clause-outcome t c =
    stopped_outcome _ _ c.chosen.new.self c.in_err-branch.field-0.0 (c.in_err-branch.ensures.stopped _)
    c.from_residual.ensures.1

pub case-returns-in_err-found-clause-outcome : goal.case-returns-in_err-found-clause-outcome
case-returns-in_err-found-clause-outcome t c =
    stopped_outcome _ _ c.evaluate.new.self c.in_err-found.field-0.0
    (subst (λ (o : Outcome). IsStopped o.result c.in_err-found.field-0.0)
    (sym (case_taken c.args.frame.now c.args.left c.args.self.now c.chosen.new.self _ c.args.branches.now c.in_ok-branch.branch.now
    c.requires c.in_ok-branch.ensures.chosen)) c.in_err-found.ensures.outcome) c.from_residual-in_err-found.ensures.1

pub case-returns-clause-outcome : goal.case-returns-clause-outcome
case-returns-clause-outcome t c =
    case_taken c.args.frame.now c.args.left c.args.self.now c.chosen.new.self _ c.args.branches.now c.in_ok-branch.branch.now
    c.requires c.in_ok-branch.ensures.chosen
    ∙ c.in_ok-found.ensures.outcome

pub case-returns-clause-stays : goal.case-returns-clause-stays
case-returns-clause-stays t c =
    let chosen = c.in_ok-branch.ensures.chosen in
    let stays = c.in_ok-found.ensures.stays in record {
      library_is = stays.library_is ∙ chosen.library_is;
      arguments_are = stays.arguments_are ∙ chosen.arguments_are;
      bound_are =
          restored c.args.self.now.bound.items c.evaluate.new.self.bound.items c.truncate.new.self.items c.len-outside.result
          (c.len-outside.ensures ∙ c.args.self.now.bound.ok.0) c.truncate.ensures.items
          (subst (Begins (bound_in c.args.self.now)) (sym stays.bound_are) chosen.begins);
    }

pub if_else-returns-in-Some-true-clause-outcome : goal.if_else-returns-in-Some-true-clause-outcome
if_else-returns-in-Some-true-clause-outcome t c =
    let condition = c.in_ok-condition.ensures in
    same_outcome _ _ c.evaluate-in-Some-true.result c.evaluate-in-Some-true.new.self
    (if_taken c.args.frame.now c.args.left c.args.self.now c.evaluate.new.self _ (value_tree c.in_ok-condition.condition) true
    c.args.first.now c.args.second.now c.args.first.now condition.stays condition.outcome
    (sym c.truth_of.ensures ∙ (c.in-Some-true.is ∙ ap Some c.in-Some-true.field-0-test)) refl)
    c.evaluate-in-Some-true.ensures.outcome

pub if_else-returns-in-Some-false-clause-outcome : goal.if_else-returns-in-Some-false-clause-outcome
if_else-returns-in-Some-false-clause-outcome t c =
    let condition = c.in_ok-condition.ensures in
    same_outcome _ _ c.evaluate-in-Some-false.result c.evaluate-in-Some-false.new.self
    (if_taken c.args.frame.now c.args.left c.args.self.now c.evaluate.new.self _ (value_tree c.in_ok-condition.condition) false
    c.args.first.now c.args.second.now c.args.second.now condition.stays condition.outcome
    (sym c.truth_of.ensures ∙ (c.in-Some-false.is ∙ ap Some c.in-Some-false.field-0-test)) refl)
    c.evaluate-in-Some-false.ensures.outcome

pub let_in-returns-in_err-found-clause-outcome : goal.let_in-returns-in_err-found-clause-outcome
let_in-returns-in_err-found-clause-outcome t c =
    stopped_outcome _ _ c.evaluate-2.new.self c.in_err-found.field-0.0
    (subst (λ (o : Outcome). IsStopped o.result c.in_err-found.field-0.0)
    (sym (let_taken c.args.frame.now c.args.left c.args.self.now c.evaluate.new.self c.bind.new.self _ c.in_ok-value.value c.args.body.now
    c.requires c.in_ok-value.ensures.stays c.in_ok-value.ensures.outcome c.in_ok-bind.ensures)) c.in_err-found.ensures.outcome) c.from_residual-in_err-found.ensures.1

pub let_in-returns-clause-outcome : goal.let_in-returns-clause-outcome
let_in-returns-clause-outcome t c =
    let_taken c.args.frame.now c.args.left c.args.self.now c.evaluate.new.self c.bind.new.self _ c.in_ok-value.value c.args.body.now
    c.requires c.in_ok-value.ensures.stays c.in_ok-value.ensures.outcome c.in_ok-bind.ensures
    ∙ c.in_ok-found.ensures.outcome

pub let_in-returns-clause-stays : goal.let_in-returns-clause-stays
let_in-returns-clause-stays t c =
    let one = c.in_ok-value.ensures.stays in
    let stays = c.in_ok-found.ensures.stays in
    let binds = c.in_ok-bind.ensures in
    record {
      library_is = stays.library_is ∙ (binds.library_is ∙ one.library_is);
      arguments_are = stays.arguments_are ∙ (binds.arguments_are ∙ one.arguments_are);
      bound_are =
          restored c.args.self.now.bound.items c.evaluate-2.new.self.bound.items c.truncate.new.self.items c.len-outside.result
          (c.len-outside.ensures ∙ c.args.self.now.bound.ok.0) c.truncate.ensures.items
          (subst (Begins (bound_in c.args.self.now)) (sym (stays.bound_are ∙ (binds.bound_are
          ∙ ap (λ (items : List ValueTree). items ++ value_tree c.in_ok-value.value ∷ []) one.bound_are)))
          (begins_more (bound_in c.args.self.now) (value_tree c.in_ok-value.value ∷ [])));
    }

pub operand-returns-in_ok-right-in_default : goal.operand-returns-in_ok-right-in_default
operand-returns-in_ok-right-in_default t c =
    let names = names_in c.args.self.now in
    let operation = c.args.operand.now.operator in
    let right = c.in_ok-right-in_default.ensures in
    let made = c.part.new.self.applications in
    let left = value_tree c.args.so_far in
    let other = value_tree c.in_ok-right-in_default.right in
    record {
      outcome =
          same_outcome _ _ c.operate.result c.part.new.self
          (other_operand names (gives_in c.args.self.now c.args.frame.now c.args.left) operation
          (expr_tree names c.args.operand.now.right) left c.args.self.now.applications c.in_default.not-And
          c.in_default.not-Or
          ∙ (after_value _ other made _ right.outcome
          ∙ ap (λ (known : List Name). ends_with (operation_result known operation left other) made)
          (sym (names_stay c.args.self.now c.part.new.self right.stays.library_is))))
          (result_outcome _ c.operate.result made c.part.new.self refl c.operate.ensures);
      stays = OnOk-always c.operate.result right.stays;
    }

pub operators-returns-in_err-so_far-clause-outcome : goal.operators-returns-in_err-so_far-clause-outcome
operators-returns-in_err-so_far-clause-outcome t c =
    stopped_outcome _ _ c.part.new.self c.in_err-so_far.field-0.0
    (operators_stop (names_in c.args.self.now) (gives_in c.args.self.now c.args.frame.now c.args.left) _
    (operand_trees (names_in c.args.self.now) c.args.operands.now) c.in_err-so_far.field-0.0 c.in_err-so_far.ensures.outcome)
    c.from_residual.ensures.1

pub operators-returns-in_err-so_far-2-clause-outcome : goal.operators-returns-in_err-so_far-2-clause-outcome
operators-returns-in_err-so_far-2-clause-outcome t c =
    stopped_outcome _ _ c.operand.new.self c.in_err-so_far-2.field-0.0
    (operators_stopped c.args.operands.now c.loop-operand.operand-index c.operand-item.result c.in_err-so_far-2.field-0.0
    c.loop-operand-test.true c.operand-item.is c.loop-operand.invariant c.in_err-so_far-2.ensures.outcome)
    c.from_residual-in_err-so_far-2.ensures.1

pub operators-loop-operand-preserved : goal.operators-loop-operand-preserved
operators-loop-operand-preserved t c =
    operators_step c.args.operands.now c.loop-operand.operand-index c.operand-item.result c.in_ok-so_far-2.so_far
    c.operand.new.self c.loop-operand-test.true c.operand-item.is c.loop-operand.invariant
    c.in_ok-so_far-2.ensures.stays c.in_ok-so_far-2.ensures.outcome

pub values-returns-in_err-part-clause-values : goal.values-returns-in_err-part-clause-values
values-returns-in_err-part-clause-values t c =
    let stopped = values_stopped c.args.exprs.now c.loop-expr.expr-index c.expr-item.result c.in_err-part.field-0.0
    c.loop-expr-test.true c.expr-item.is c.loop-expr.invariant c.in_err-part.ensures.outcome in
    let error = err_from_is_err_and c.from_residual-in_err-part.result c.from_residual-in_err-part.ensures.1 in
    rw error.1 (subst (AreStopped _) (sym error.2) stopped)

pub values-loop-expr-preserved : goal.values-loop-expr-preserved
values-loop-expr-preserved t c =
    values_step c.args.exprs.now c.loop-expr.expr-index c.expr-item.result c.in_ok-part.field-0
    c.push.new.self.items c.part.new.self c.loop-expr-test.true c.expr-item.is c.loop-expr.invariant
    c.in_ok-part.ensures.stays c.in_ok-part.ensures.outcome c.in_ok-push.ensures.items
