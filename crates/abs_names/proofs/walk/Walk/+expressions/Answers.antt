use Rattle.std.proofs.Common.{◌∙◌, refl, sym, ap, subst}
use Rattle.std.specs.declared.alloc.Global.{Global}
use Rattle.std.specs.declared.vec.Vec.{Vec}
use Rattle.abs_tree.specs.declared.syntax.expression.Expr.{Expr}
use Rattle.abs_tree.specs.Names.{name_of}
use Rattle.abs_tree.specs.SyntaxViews.{pattern_tree, variable_tree}
use Rattle.abs_names.specs.TypeNames.{function_taking, constructor_taking}
use Rattle.abs_names.specs.Visible.{Visible}
use Rattle.abs_names.proofs.FormLemmas.{operators_found, case_found, own_call_found, apply_found, build_found, exprs_noted, in_scope, kept_in}
use Rattle.abs_names.specs.Scopes.{next_bound}
use Rattle.abs_names.proofs.LeaveLemmas.{Within, within_variable, within_pattern, left_is}
use Rattle.abs_names.proofs.LoopLemmas.{all_done}
use Rattle.abs_names.proofs.RowLemmas.{exprs_step, operands_step, branches_step}
use Rattle.abs_names.proofs.walk.Walk.+expressions.Goals as goal
use Rattle.abs_tree.proofs.FormLemmas.{operators_tree, case_tree, own_call_tree, apply_tree, build_tree}
use Rattle.abs_tree.proofs.TreeLemmas.{exprs_all, operands_all, branches_all}

pub expressions-loop-expr-preserved : goal.expressions-loop-expr-preserved
expressions-loop-expr-preserved t c =
    exprs_step c.expr-item.result c.in_ok-expression.field-0 c.loop-expr.invariant c.loop-expr-test.true c.expr-item.is
    c.in_ok-expression.ensures.found c.in_ok-expression.ensures.noted c.in_ok-expression.ensures.scope
    c.in_ok-push.ensures.items

pub expressions-returns-clause-found : goal.expressions-returns-clause-found
expressions-returns-clause-found t c =
    (all_done c.loop-expr.invariant.so_far c.loop-expr-test.false (sym (exprs_all _ c.loop-expr.found.items)) refl
    refl).resolved

pub expressions-returns-clause-noted : goal.expressions-returns-clause-noted
expressions-returns-clause-noted t c =
    (all_done c.loop-expr.invariant.so_far c.loop-expr-test.false (sym (exprs_all _ c.loop-expr.found.items)) refl
    refl).offences

pub expressions-returns-clause-scope : goal.expressions-returns-clause-scope
expressions-returns-clause-scope t c = c.loop-expr.invariant.same

pub operands-loop-operand-preserved : goal.operands-loop-operand-preserved
operands-loop-operand-preserved t c =
    let item = c.operand-item.result in
    operands_step item (record { operator = item.operator; right = c.in_ok-right.right }) c.loop-operand.invariant
    c.loop-operand-test.true c.operand-item.is refl c.in_ok-right.ensures.found c.in_ok-right.ensures.noted
    c.in_ok-right.ensures.scope c.in_ok-push.ensures.items

pub operands-returns-clause-found : goal.operands-returns-clause-found
operands-returns-clause-found t c =
    (all_done c.loop-operand.invariant.so_far c.loop-operand-test.false (sym
    (operands_all _ c.loop-operand.found.items))
    refl refl).resolved

pub operands-returns-clause-noted : goal.operands-returns-clause-noted
operands-returns-clause-noted t c =
    (all_done c.loop-operand.invariant.so_far c.loop-operand-test.false (sym
    (operands_all _ c.loop-operand.found.items))
    refl refl).offences

pub operands-returns-clause-scope : goal.operands-returns-clause-scope
operands-returns-clause-scope t c = c.loop-operand.invariant.same

pub branches-loop-branch-preserved : goal.branches-loop-branch-preserved
branches-loop-branch-preserved t c =
    branches_step c.branch-item.result c.in_ok-branch.field-0 c.loop-branch.invariant c.loop-branch-test.true
    c.branch-item.is c.in_ok-branch.ensures.pattern c.in_ok-branch.ensures.value c.in_ok-branch.ensures.noted
    c.in_ok-branch.ensures.scope c.in_ok-push.ensures.items

pub branches-returns-clause-found : goal.branches-returns-clause-found
branches-returns-clause-found t c =
    (all_done c.loop-branch.invariant.so_far c.loop-branch-test.false (sym (branches_all _ c.loop-branch.found.items))
    refl refl).resolved

pub branches-returns-clause-noted : goal.branches-returns-clause-noted
branches-returns-clause-noted t c =
    (all_done c.loop-branch.invariant.so_far c.loop-branch-test.false (sym (branches_all _ c.loop-branch.found.items))
    refl refl).offences

pub branches-returns-clause-scope : goal.branches-returns-clause-scope
branches-returns-clause-scope t c = c.loop-branch.invariant.same

pub branch-returns-clause-scope : goal.branch-returns-clause-scope
branch-returns-clause-scope t c =
    let before = c.args.self.now.scope in
    left_is before c.pattern.new.self.scope c.expression.new.self.scope c.leave.new.self c.len-outside.result
    (subst (Within before.scope) (sym c.in_ok-pattern.ensures.bound)
    (within_pattern before.scope (pattern_tree before.names.before c.args.branch.now.pattern)))
    c.in_ok-pattern.ensures.names c.in_ok-value.ensures.scope c.len-outside.ensures c.leave.ensures.names
    c.leave.ensures.scope

pub let_in-returns-clause-scope : goal.let_in-returns-clause-scope
let_in-returns-clause-scope t c =
    let before = c.boxed.new.self.scope in
    left_is before c.bind.new.self.scope c.boxed-2.new.self.scope c.leave.new.self c.len-outside.result
    (subst (Within before.scope) (sym c.in_ok-variable.ensures.bound)
    (within_variable before.scope (variable_tree before.names.before c.args.variable) (next_bound before.scope)))
    c.in_ok-variable.ensures.names c.in_ok-body.ensures.scope c.len-outside.ensures c.leave.ensures.names
    c.leave.ensures.scope
    ∙ (c.in_ok-value.ensures.scope ∙ c.in_ok-type_of.ensures.scope)

pub operators-returns-clause-found : goal.operators-returns-clause-found
operators-returns-clause-found t c =
    operators_found c.args.self.now.scope c.boxed.new.self.scope c.args.place c.in_ok-boxed.field-0
    c.in_ok-operands.field-0 _ c.args.operands.now c.in_ok-boxed.ensures.scope c.in_ok-boxed.ensures.found
    c.in_ok-operands.ensures.found

pub case-returns-clause-found : goal.case-returns-clause-found
case-returns-clause-found t c =
    case_found c.args.self.now.scope c.boxed.new.self.scope c.args.place c.in_ok-boxed.field-0
    c.in_ok-branches.field-0 _ c.args.branches.now c.in_ok-boxed.ensures.scope c.in_ok-boxed.ensures.found
    c.in_ok-branches.ensures.found

pub own_call-returns-clause-found : goal.own_call-returns-clause-found
own_call-returns-clause-found t c =
    let start = c.args.self.now.scope in
    own_call_found start c.note_unless.new.self.scope c.args.place (name_of start.names.before c.args.method)
    c.kept.result c.in_ok-new.field-0 c.in_ok-arguments.arguments c.args.arguments.now c.note_unless.ensures.scope
    (kept_in c.around.result.now start.names c.kept.result c.args.method c.kept.ensures
    (c.around.ensures.names
    ∙ ap (λ (v : Visible). v.names) (c.in_ok-arguments.ensures.scope ∙ c.note_unless.ensures.scope)))
    c.in_ok-new.ensures.ok c.in_ok-arguments.ensures.found

pub apply-returns-clause-found : goal.apply-returns-clause-found
apply-returns-clause-found t c =
    let start = c.args.self.now.scope in
    apply_found start c.note_applied.new.self.scope c.args.place (name_of start.names.before c.args.function)
    c.kept.result c.in_ok-arguments.arguments c.args.arguments.now c.note_applied.ensures.scope
    (kept_in c.around-2.result.now start.names c.kept.result c.args.function c.kept.ensures
    (c.around-2.ensures.names
    ∙ ap (λ (v : Visible). v.names) (c.in_ok-arguments.ensures.scope ∙ c.note_applied.ensures.scope)))
    c.in_ok-arguments.ensures.found

pub apply-returns-clause-noted : goal.apply-returns-clause-noted
apply-returns-clause-noted t c =
    let start = c.args.self.now.scope in
    exprs_noted start c.note_applied.new.self.scope c.args.place c.args.arguments.now c.function_taking-taken.result
    (function_taking start.scope.around (name_of start.names.before c.args.function)) c.args.self.now.first
    c.note_applied.new.self.first c.expressions.new.self.first c.note_applied.ensures.scope
    (c.function_taking-taken.ensures
    ∙ in_scope (λ a ns. function_taking a (name_of ns c.args.function)) c.around.result.now start c.around.ensures.names
    c.around.ensures.around)
    c.note_applied.ensures.noted c.in_ok-arguments.ensures.noted

pub build-returns-clause-found : goal.build-returns-clause-found
build-returns-clause-found t c =
    let start = c.args.self.now.scope in
    build_found start c.note_applied.new.self.scope c.args.place (name_of start.names.before c.args.constructor)
    c.kept.result c.in_ok-arguments.arguments c.args.arguments.now c.note_applied.ensures.scope
    (kept_in c.around-2.result.now start.names c.kept.result c.args.constructor c.kept.ensures
    (c.around-2.ensures.names
    ∙ ap (λ (v : Visible). v.names) (c.in_ok-arguments.ensures.scope ∙ c.note_applied.ensures.scope)))
    c.in_ok-arguments.ensures.found

pub build-returns-clause-noted : goal.build-returns-clause-noted
build-returns-clause-noted t c =
    let start = c.args.self.now.scope in
    exprs_noted start c.note_applied.new.self.scope c.args.place c.args.arguments.now
    c.constructor_taking-taken.result
    (constructor_taking start.scope.around (name_of start.names.before c.args.constructor)) c.args.self.now.first
    c.note_applied.new.self.first c.expressions.new.self.first c.note_applied.ensures.scope
    (c.constructor_taking-taken.ensures
    ∙ in_scope (λ a ns. constructor_taking a (name_of ns c.args.constructor)) c.around.result.now start
    c.around.ensures.names c.around.ensures.around)
    c.note_applied.ensures.noted c.in_ok-arguments.ensures.noted

pub expression-returns-in-Operators-clause-found : goal.expression-returns-in-Operators-clause-found
expression-returns-in-Operators-clause-found t c =
    let form = c.in-Operators in
    rw (operators_tree c.args.self.now.scope.names.before c.args.expr.now form.place form.first form.operands
    c.deref-in-Operators.result.now
    c.deref-in-Operators-2.result.now form.is c.deref-in-Operators.ensures c.deref-in-Operators-2.ensures.value)
    c.operators.ensures.found

pub expression-returns-in-Operators-clause-noted : goal.expression-returns-in-Operators-clause-noted
expression-returns-in-Operators-clause-noted t c =
    let form = c.in-Operators in
    rw (operators_tree c.args.self.now.scope.names.before c.args.expr.now form.place form.first form.operands
    c.deref-in-Operators.result.now
    c.deref-in-Operators-2.result.now form.is c.deref-in-Operators.ensures c.deref-in-Operators-2.ensures.value)
    c.operators.ensures.noted

pub expression-returns-in-Case-clause-found : goal.expression-returns-in-Case-clause-found
expression-returns-in-Case-clause-found t c =
    let form = c.in-Case in
    rw (case_tree c.args.self.now.scope.names.before c.args.expr.now form.place form.subject form.branches
    c.deref-in-Case.result.now c.deref-in-Case-2.result.now form.is c.deref-in-Case.ensures
    c.deref-in-Case-2.ensures.value) c.case.ensures.found

pub expression-returns-in-Case-clause-noted : goal.expression-returns-in-Case-clause-noted
expression-returns-in-Case-clause-noted t c =
    let form = c.in-Case in
    rw (case_tree c.args.self.now.scope.names.before c.args.expr.now form.place form.subject form.branches
    c.deref-in-Case.result.now c.deref-in-Case-2.result.now form.is c.deref-in-Case.ensures
    c.deref-in-Case-2.ensures.value) c.case.ensures.noted

pub primary-returns-in-OwnCall-clause-found : goal.primary-returns-in-OwnCall-clause-found
primary-returns-in-OwnCall-clause-found t c =
    let form = c.in-OwnCall in
    rw (own_call_tree c.args.self.now.scope.names.before c.args.expr.now form.place form.method form.arguments
    c.deref-in-OwnCall.result.now form.is
    (c.deref-in-OwnCall.ensures.value ∙ ap (λ (v : Vec Expr Global). v.items) c.deref.ensures))
    c.own_call.ensures.found

pub primary-returns-in-OwnCall-clause-noted : goal.primary-returns-in-OwnCall-clause-noted
primary-returns-in-OwnCall-clause-noted t c =
    let form = c.in-OwnCall in
    rw (own_call_tree c.args.self.now.scope.names.before c.args.expr.now form.place form.method form.arguments
    c.deref-in-OwnCall.result.now form.is
    (c.deref-in-OwnCall.ensures.value ∙ ap (λ (v : Vec Expr Global). v.items) c.deref.ensures))
    c.own_call.ensures.noted

pub primary-returns-in-Apply-clause-found : goal.primary-returns-in-Apply-clause-found
primary-returns-in-Apply-clause-found t c =
    let form = c.in-Apply in
    rw (apply_tree c.args.self.now.scope.names.before c.args.expr.now form.place form.function form.arguments
    c.deref-in-Apply.result.now form.is c.deref-in-Apply.ensures.value)
    c.apply.ensures.found

pub primary-returns-in-Apply-clause-noted : goal.primary-returns-in-Apply-clause-noted
primary-returns-in-Apply-clause-noted t c =
    let form = c.in-Apply in
    rw (apply_tree c.args.self.now.scope.names.before c.args.expr.now form.place form.function form.arguments
    c.deref-in-Apply.result.now form.is c.deref-in-Apply.ensures.value)
    c.apply.ensures.noted

pub primary-returns-in-Build-clause-found : goal.primary-returns-in-Build-clause-found
primary-returns-in-Build-clause-found t c =
    let form = c.in-Build in
    rw (build_tree c.args.self.now.scope.names.before c.args.expr.now form.place form.constructor form.arguments
    c.deref-in-Build.result.now form.is c.deref-in-Build.ensures.value)
    c.build.ensures.found

pub primary-returns-in-Build-clause-noted : goal.primary-returns-in-Build-clause-noted
primary-returns-in-Build-clause-noted t c =
    let form = c.in-Build in
    rw (build_tree c.args.self.now.scope.names.before c.args.expr.now form.place form.constructor form.arguments
    c.deref-in-Build.result.now form.is c.deref-in-Build.ensures.value)
    c.build.ensures.noted
