use denote.Param.Weighed.{at_most}
use Rattle.std.proofs.Common.{◌∙◌, ap, Bool, None, arith, if◌then◌else◌, refl, subst}
use Rattle.std.proofs.lemmas.Result.{on_ok_weaker}
use Rattle.std.specs.declared.alloc.Global.{Global}
use Rattle.std.specs.declared.vec.Vec.{Vec}
use Rattle.abs_tree.specs.declared.syntax.expression.Branch.{size-Branch}
use Rattle.abs_tree.specs.declared.syntax.expression.Expr.{Expr}
use Rattle.check_fun.proofs.ContextLemmas.{finds_stays, finds_all_stays, finds_kept, found_stays, found_all_stays, knows_stays, noted_after, noted_same, stays_transitive}
use Rattle.check_fun.proofs.FoundLemmas.{finds_none, finds_own, keeps_same, bound_stays}
use Rattle.check_fun.proofs.OperandLemmas.{operands_are, rights_count, rights_untyped}
use Rattle.check_fun.proofs.ExprLemmas.{let_tree, if_tree, prefixed_tree}
use Rattle.check_fun.proofs.SoFarLemmas.{exprs_row, operands_row, branches_row, row_begins, row_step, row_found, row_noted}
use Rattle.check_fun.proofs.StepLemmas.{noted_since, noted_between, scheme_there}
use Rattle.abs_tree.specs.SyntaxViews.{variable_tree}
use Rattle.check_fun.specs.Contexts.{typed, Finds}
use Rattle.check_fun.specs.Parts.{in_branch}
use Rattle.check_fun.proofs.checker.Checker.+expressions.Goals as goal
use Rattle.abs_tree.proofs.FormLemmas.{operators_tree, case_tree, own_call_tree, apply_tree, build_tree, exprs_counted}

pub arguments-loop-expr-init : goal.arguments-loop-expr-init
arguments-loop-expr-init t c =
    row_begins exprs_row c.in_ok-with_capacity.ensures.items

pub arguments-loop-expr-preserved : goal.arguments-loop-expr-preserved
arguments-loop-expr-preserved t c =
    let so_far = c.loop-expr.invariant in
    row_step c.expr-item.result exprs_row so_far c.loop-expr-test.true c.expr-item.is
    c.in_ok-argument.ensures.stays
    (λ context knows. c.in_ok-argument.ensures.found context (knows_stays so_far.stays knows))
    (λ context knows. c.in_ok-argument.ensures.noted context (knows_stays so_far.stays knows))
    c.in_ok-found.ensures

pub arguments-returns-clause-found : goal.arguments-returns-clause-found
arguments-returns-clause-found t c context knows =
    row_found context c.loop-expr.invariant c.loop-expr-test.false knows

pub arguments-returns-clause-noted : goal.arguments-returns-clause-noted
arguments-returns-clause-noted t c context knows =
    row_noted context c.loop-expr.invariant c.loop-expr-test.false knows

pub arguments-returns-clause-stays : goal.arguments-returns-clause-stays
arguments-returns-clause-stays t c = c.loop-expr.invariant.stays

pub operands-loop-operand-init : goal.operands-loop-operand-init
operands-loop-operand-init t c =
    row_begins operands_row c.in_ok-with_capacity.ensures.items

pub operands-loop-operand-preserved : goal.operands-loop-operand-preserved
operands-loop-operand-preserved t c =
    let so_far = c.loop-operand.invariant in
    row_step c.operand-item.result operands_row so_far c.loop-operand-test.true c.operand-item.is
    c.in_ok-right.ensures.stays
    (λ context knows. c.in_ok-right.ensures.found context (knows_stays so_far.stays knows))
    (λ context knows. c.in_ok-right.ensures.noted context (knows_stays so_far.stays knows))
    c.in_ok-found.ensures

pub operands-returns-clause-found : goal.operands-returns-clause-found
operands-returns-clause-found t c context knows =
    row_found context c.loop-operand.invariant c.loop-operand-test.false knows

pub operands-returns-clause-noted : goal.operands-returns-clause-noted
operands-returns-clause-noted t c context knows =
    row_noted context c.loop-operand.invariant c.loop-operand-test.false knows

pub operands-returns-clause-stays : goal.operands-returns-clause-stays
operands-returns-clause-stays t c = c.loop-operand.invariant.stays

pub branches-loop-branch-init : goal.branches-loop-branch-init
branches-loop-branch-init t c =
    row_begins branches_row c.in_ok-with_capacity.ensures.items

pub branches-branch-self-requires : goal.branches-branch-self-requires
branches-branch-self-requires t c =
    let size = at_most size-Branch c.args.branches.now c.loop-branch.branch-index c.branch-item.result
    c.loop-branch-test.true in (
      rw c.branch-item.is (omega (arith, size)),
      found_stays c.loop-branch.invariant.stays c.requires,
    )

pub branches-loop-branch-preserved : goal.branches-loop-branch-preserved
branches-loop-branch-preserved t c =
    let so_far = c.loop-branch.invariant in
    row_step c.branch-item.result branches_row so_far c.loop-branch-test.true c.branch-item.is
    c.in_ok-value.ensures.stays
    (λ known knows. c.in_ok-value.ensures.found known.0 known.1 (knows_stays so_far.stays knows.0)
    (finds_stays so_far.stays knows.1))
    (λ known knows. c.in_ok-value.ensures.noted known.0 known.1 (knows_stays so_far.stays knows.0)
    (finds_stays so_far.stays knows.1))
    c.in_ok-found.ensures

pub branches-returns-clause-found : goal.branches-returns-clause-found
branches-returns-clause-found t c context type knows finds =
    row_found (context, type) c.loop-branch.invariant c.loop-branch-test.false (knows, finds)

pub branches-returns-clause-noted : goal.branches-returns-clause-noted
branches-returns-clause-noted t c context type knows finds =
    row_noted (context, type) c.loop-branch.invariant c.loop-branch-test.false (knows, finds)

pub branches-returns-clause-stays : goal.branches-returns-clause-stays
branches-returns-clause-stays t c = c.loop-branch.invariant.stays

pub branch-returns-clause-found : goal.branch-returns-clause-found
branch-returns-clause-found t c context type knows finds =
    subst (λ (fits : Bool). Finds c.leave.new.self c.value_if.result
    (if fits then typed (in_branch context type c.args.branch.now) c.args.branch.now.value else None))
    (c.in_ok-fits.ensures.fits context type knows finds)
    (c.value_if.ensures c.leave.new.self _ (finds_kept (keeps_same c.leave.ensures.table)
    (c.in_ok-value.ensures.found _ (c.in_ok-fits.ensures.bound context type knows finds))))

pub branch-returns-clause-noted : goal.branch-returns-clause-noted
branch-returns-clause-noted t c context type knows finds =
    noted_since (noted_after _ _ (c.in_ok-fits.ensures.noted context type knows finds)
    (c.in_ok-value.ensures.noted _ (c.in_ok-fits.ensures.bound context type knows finds))) c.leave.ensures.first

pub branch-returns-clause-stays : goal.branch-returns-clause-stays
branch-returns-clause-stays t c =
    bound_stays (c.len-outside.ensures ∙ c.args.self.now.bound.ok.0)
    (λ context knows. c.in_ok-fits.ensures.bound context _ knows (finds_own c.requires))
    c.in_ok-fits.ensures.keeps c.in_ok-value.ensures.stays c.leave.ensures.knows c.leave.ensures.table

pub case-branches-requires : goal.case-branches-requires
case-branches-requires t c = (omega arith, (c.in_ok-given.ensures.found _ (record { is = refl })).found_is)

pub case-checked_case-requires : goal.case-checked_case-requires
case-checked_case-requires t c =
    (c.in_ok-types.ensures.found _ _ (record { is = refl }) (finds_own (c.in_ok-given.ensures.found _ (record { is = refl })).found_is)).found_are

pub case-returns-clause-found : goal.case-returns-clause-found
case-returns-clause-found t c context knows =
    let given = c.in_ok-given.ensures in
    let types = c.in_ok-types.ensures in
    let subject = given.found context knows in
    let known = knows_stays given.stays knows in
    c.checked_case.ensures.found context _ _ (knows_stays types.stays known)
    (finds_stays types.stays subject) (types.found context _ known subject)

pub case-returns-clause-noted : goal.case-returns-clause-noted
case-returns-clause-noted t c context knows =
    let given = c.in_ok-given.ensures in
    let types = c.in_ok-types.ensures in
    let subject = given.found context knows in
    let known = knows_stays given.stays knows in
    on_ok_weaker c.checked_case.result
    (noted_after _ _ (noted_after _ _ (given.noted context knows) (types.noted context _ known subject)))
    (c.checked_case.ensures.noted context _ _ (knows_stays types.stays known)
    (finds_stays types.stays subject) (types.found context _ known subject))

pub case-returns-clause-stays : goal.case-returns-clause-stays
case-returns-clause-stays t c =
    on_ok_weaker c.checked_case.result
    (λ stays. stays_transitive c.in_ok-given.ensures.stays (stays_transitive c.in_ok-types.ensures.stays stays))
    c.checked_case.ensures.stays

pub apply-checked_application-requires-clause-scheme : goal.apply-checked_application-requires-clause-scheme
apply-checked_application-requires-clause-scheme t c =
    scheme_there c.in_ok-scheme.ensures.found

pub apply-checked_application-requires-clause-arguments : goal.apply-checked_application-requires-clause-arguments
apply-checked_application-requires-clause-arguments t c =
    found_all_stays c.in_ok-scheme.ensures.stays (c.in_ok-given.ensures.found _ (record { is = refl })).found_are

pub apply-returns-clause-found : goal.apply-returns-clause-found
apply-returns-clause-found t c context knows =
    let given = c.in_ok-given.ensures in
    let scheme = c.in_ok-scheme.ensures in
    let known = knows_stays given.stays knows in
    c.checked_application.ensures.found context _ _ (knows_stays scheme.stays known)
    (scheme.found context known) (finds_all_stays scheme.stays (given.found context knows))

pub apply-returns-clause-noted : goal.apply-returns-clause-noted
apply-returns-clause-noted t c context knows =
    let given = c.in_ok-given.ensures in
    let scheme = c.in_ok-scheme.ensures in
    let known = knows_stays given.stays knows in
    on_ok_weaker c.checked_application.result
    (λ noted. noted_after _ _ (noted_since (given.noted context knows) scheme.first) noted)
    (c.checked_application.ensures.noted context _ _ (knows_stays scheme.stays known)
    (scheme.found context known) (finds_all_stays scheme.stays (given.found context knows)))

pub apply-returns-clause-stays : goal.apply-returns-clause-stays
apply-returns-clause-stays t c =
    on_ok_weaker c.checked_application.result
    (λ stays. stays_transitive c.in_ok-given.ensures.stays (stays_transitive c.in_ok-scheme.ensures.stays stays))
    c.checked_application.ensures.stays

pub build-checked_application-requires-clause-scheme : goal.build-checked_application-requires-clause-scheme
build-checked_application-requires-clause-scheme t c =
    scheme_there c.in_ok-scheme.ensures.found

pub build-checked_application-requires-clause-arguments : goal.build-checked_application-requires-clause-arguments
build-checked_application-requires-clause-arguments t c =
    found_all_stays c.in_ok-scheme.ensures.stays (c.in_ok-given.ensures.found _ (record { is = refl })).found_are

pub build-returns-clause-found : goal.build-returns-clause-found
build-returns-clause-found t c context knows =
    let given = c.in_ok-given.ensures in
    let scheme = c.in_ok-scheme.ensures in
    let known = knows_stays given.stays knows in
    c.checked_application.ensures.found context _ _ (knows_stays scheme.stays known)
    (scheme.found context known) (finds_all_stays scheme.stays (given.found context knows))

pub build-returns-clause-noted : goal.build-returns-clause-noted
build-returns-clause-noted t c context knows =
    let given = c.in_ok-given.ensures in
    let scheme = c.in_ok-scheme.ensures in
    let known = knows_stays given.stays knows in
    on_ok_weaker c.checked_application.result
    (λ noted. noted_after _ _ (noted_since (given.noted context knows) scheme.first) noted)
    (c.checked_application.ensures.noted context _ _ (knows_stays scheme.stays known)
    (scheme.found context known) (finds_all_stays scheme.stays (given.found context knows)))

pub build-returns-clause-stays : goal.build-returns-clause-stays
build-returns-clause-stays t c =
    on_ok_weaker c.checked_application.result
    (λ stays. stays_transitive c.in_ok-given.ensures.stays (stays_transitive c.in_ok-scheme.ensures.stays stays))
    c.checked_application.ensures.stays

pub own_call-returns-clause-found : goal.own_call-returns-clause-found
own_call-returns-clause-found t c context knows = finds_none

pub own_call-returns-clause-noted : goal.own_call-returns-clause-noted
own_call-returns-clause-noted t c context knows =
    let given = c.in_ok-given.ensures in
    noted_after _ _ (given.noted context knows)
    (rw (exprs_counted context.names c.args.arguments.now)
    (c.note_own_call.ensures.noted context _ (knows_stays given.stays knows) (given.found context knows)))

pub own_call-returns-clause-stays : goal.own_call-returns-clause-stays
own_call-returns-clause-stays t c =
    stays_transitive c.in_ok-given.ensures.stays c.note_own_call.ensures.stays

pub operators-checked_operators-requires-clause-first : goal.operators-checked_operators-requires-clause-first
operators-checked_operators-requires-clause-first t c =
    found_stays c.in_ok-rights.ensures.stays (c.in_ok-left.ensures.found _ (record { is = refl })).found_is

pub operators-checked_operators-requires-clause-rights : goal.operators-checked_operators-requires-clause-rights
operators-checked_operators-requires-clause-rights t c =
    (c.in_ok-rights.ensures.found _ (record { is = refl })).found_are

pub operators-checked_operators-requires-clause-count : goal.operators-checked_operators-requires-clause-count
operators-checked_operators-requires-clause-count t c =
    rights_count _ c.args.operands.now c.in_ok-rights.rights (c.in_ok-rights.ensures.found _ (record { is = refl }))

pub operators-returns-clause-found : goal.operators-returns-clause-found
operators-returns-clause-found t c context knows =
    let left = c.in_ok-left.ensures in
    let rights = c.in_ok-rights.ensures in
    let known = knows_stays left.stays knows in
    rw (← operands_are context c.args.operands.now) (c.checked_operators.ensures.found context _ _ (knows_stays rights.stays known)
    (finds_stays rights.stays (left.found context knows)) (rights.found context known))

pub operators-returns-clause-noted : goal.operators-returns-clause-noted
operators-returns-clause-noted t c context knows =
    let left = c.in_ok-left.ensures in
    let rights = c.in_ok-rights.ensures in
    let known = knows_stays left.stays knows in
    on_ok_weaker c.checked_operators.result
    (λ noted. noted_after _ _ (noted_after _ _ (left.noted context knows) (rights.noted context known))
    (rw (rights_untyped context c.args.operands.now _ c.args.place) at noted))
    (c.checked_operators.ensures.noted context _ _ (knows_stays rights.stays known)
    (finds_stays rights.stays (left.found context knows)) (rights.found context known))

pub operators-returns-clause-stays : goal.operators-returns-clause-stays
operators-returns-clause-stays t c =
    on_ok_weaker c.checked_operators.result
    (λ stays. stays_transitive c.in_ok-left.ensures.stays (stays_transitive c.in_ok-rights.ensures.stays stays))
    c.checked_operators.ensures.stays

pub prefixed-checked_prefix-requires : goal.prefixed-checked_prefix-requires
prefixed-checked_prefix-requires t c =
    (c.in_ok-given.ensures.found _ (record { is = refl })).found_is

pub prefixed-returns-clause-found : goal.prefixed-returns-clause-found
prefixed-returns-clause-found t c context knows =
    let given = c.in_ok-given.ensures in
    c.checked_prefix.ensures.found context _ (knows_stays given.stays knows) (given.found context knows)

pub prefixed-returns-clause-noted : goal.prefixed-returns-clause-noted
prefixed-returns-clause-noted t c context knows =
    let given = c.in_ok-given.ensures in
    on_ok_weaker c.checked_prefix.result (noted_after _ _ (given.noted context knows))
    (c.checked_prefix.ensures.noted context _ (knows_stays given.stays knows) (given.found context knows))

pub prefixed-returns-clause-stays : goal.prefixed-returns-clause-stays
prefixed-returns-clause-stays t c =
    on_ok_weaker c.checked_prefix.result (stays_transitive c.in_ok-given.ensures.stays)
    c.checked_prefix.ensures.stays

pub if_else-checked_if-requires-clause-condition : goal.if_else-checked_if-requires-clause-condition
if_else-checked_if-requires-clause-condition t c =
    found_stays c.in_ok-other.ensures.stays (found_stays c.in_ok-one.ensures.stays
    (c.in_ok-given.ensures.found _ (record { is = refl })).found_is)

pub if_else-checked_if-requires-clause-first : goal.if_else-checked_if-requires-clause-first
if_else-checked_if-requires-clause-first t c =
    found_stays c.in_ok-other.ensures.stays (c.in_ok-one.ensures.found _ (record { is = refl })).found_is

pub if_else-checked_if-requires-clause-second : goal.if_else-checked_if-requires-clause-second
if_else-checked_if-requires-clause-second t c =
    (c.in_ok-other.ensures.found _ (record { is = refl })).found_is

pub if_else-returns-clause-found : goal.if_else-returns-clause-found
if_else-returns-clause-found t c context knows =
    let given = c.in_ok-given.ensures in
    let one = c.in_ok-one.ensures in
    let other = c.in_ok-other.ensures in
    let known = knows_stays given.stays knows in
    let after = knows_stays one.stays known in
    c.checked_if.ensures.found context _ _ _ (knows_stays other.stays after)
    (finds_stays other.stays (finds_stays one.stays (given.found context knows)))
    (finds_stays other.stays (one.found context known)) (other.found context after)

pub if_else-returns-clause-noted : goal.if_else-returns-clause-noted
if_else-returns-clause-noted t c context knows =
    let given = c.in_ok-given.ensures in
    let one = c.in_ok-one.ensures in
    let other = c.in_ok-other.ensures in
    let known = knows_stays given.stays knows in
    let after = knows_stays one.stays known in
    on_ok_weaker c.checked_if.result
    (noted_after _ _ (noted_after _ _ (noted_after _ _ (given.noted context knows) (one.noted context known))
    (other.noted context after)))
    (c.checked_if.ensures.noted context _ _ _ (knows_stays other.stays after)
    (finds_stays other.stays (finds_stays one.stays (given.found context knows)))
    (finds_stays other.stays (one.found context known)) (other.found context after))

pub if_else-returns-clause-stays : goal.if_else-returns-clause-stays
if_else-returns-clause-stays t c =
    on_ok_weaker c.checked_if.result
    (λ stays. stays_transitive c.in_ok-given.ensures.stays (stays_transitive c.in_ok-one.ensures.stays
    (stays_transitive c.in_ok-other.ensures.stays stays))) c.checked_if.ensures.stays

pub let_body-returns-clause-found : goal.let_body-returns-clause-found
let_body-returns-clause-found t c context type knows finds =
    finds_kept (keeps_same c.leave.ensures.table)
    (c.in_ok-found.ensures.found _ (c.in_ok-bind.ensures.knows context _ knows finds))

pub let_body-returns-clause-noted : goal.let_body-returns-clause-noted
let_body-returns-clause-noted t c context type knows finds =
    noted_between c.in_ok-bind.ensures.first
    (c.in_ok-found.ensures.noted _ (c.in_ok-bind.ensures.knows context _ knows finds)) c.leave.ensures.first

pub let_body-returns-clause-stays : goal.let_body-returns-clause-stays
let_body-returns-clause-stays t c =
    bound_stays (c.len-outside.ensures ∙ c.args.self.now.bound.ok.0)
    (λ context knows. c.in_ok-bind.ensures.knows context _ knows (finds_own c.requires))
    (keeps_same c.in_ok-bind.ensures.table) c.in_ok-found.ensures.stays
    c.leave.ensures.knows c.leave.ensures.table

pub let_in-let_body-requires : goal.let_in-let_body-requires
let_in-let_body-requires t c = (omega arith, (c.in_ok-declared.ensures.found _ (record { is = refl })).found_is)

pub let_in-checked_let-requires-clause-value : goal.let_in-checked_let-requires-clause-value
let_in-checked_let-requires-clause-value t c =
    found_stays c.in_ok-gives.ensures.stays (found_stays c.in_ok-declared.ensures.stays
    (c.in_ok-given.ensures.found _ (record { is = refl })).found_is)

pub let_in-checked_let-requires-clause-declared : goal.let_in-checked_let-requires-clause-declared
let_in-checked_let-requires-clause-declared t c =
    found_stays c.in_ok-gives.ensures.stays (c.in_ok-declared.ensures.found _ (record { is = refl })).found_is

pub let_in-returns-clause-found : goal.let_in-returns-clause-found
let_in-returns-clause-found t c context variable_place variable knows =
    let given = c.in_ok-given.ensures in
    let written = c.in_ok-declared.ensures in
    let gives = c.in_ok-gives.ensures in
    let known = knows_stays given.stays knows in
    let after = knows_stays written.stays known in
    let declared = written.found context known in
    c.checked_let.ensures.found context _ _ _ (knows_stays gives.stays after)
    (finds_stays gives.stays (finds_stays written.stays (given.found context knows)))
    (finds_stays gives.stays declared) (gives.found context _ after declared)

pub let_in-returns-clause-noted : goal.let_in-returns-clause-noted
let_in-returns-clause-noted t c context variable_place variable knows =
    let given = c.in_ok-given.ensures in
    let written = c.in_ok-declared.ensures in
    let gives = c.in_ok-gives.ensures in
    let known = knows_stays given.stays knows in
    let after = knows_stays written.stays known in
    let declared = written.found context known in
    noted_after _ _
    (noted_after _ _ (given.noted context knows) (noted_between written.first (gives.noted context _ after declared) refl))
    (c.checked_let.ensures.noted context _ _ _ (knows_stays gives.stays after)
    (finds_stays gives.stays (finds_stays written.stays (given.found context knows)))
    (finds_stays gives.stays declared) (gives.found context _ after declared))

pub let_in-returns-clause-stays : goal.let_in-returns-clause-stays
let_in-returns-clause-stays t c =
    stays_transitive c.in_ok-given.ensures.stays (stays_transitive c.in_ok-declared.ensures.stays
    (stays_transitive c.in_ok-gives.ensures.stays c.checked_let.ensures.stays))

pub expression-returns-in-Let-clause-found : goal.expression-returns-in-Let-clause-found
expression-returns-in-Let-clause-found t c context knows =
    let form = c.in-Let in
    rw (let_tree context.names c.args.expr.now form.place form.type_of form.variable_place form.variable form.value
    form.body c.deref.result.now c.deref-in-Let.result.now c.deref-in-Let-2.result.now form.is c.deref.ensures
    c.deref-in-Let.ensures c.deref-in-Let-2.ensures)
    (c.let_in.ensures.found context form.variable_place (variable_tree context.names form.variable) knows)

pub expression-returns-in-Let-clause-noted : goal.expression-returns-in-Let-clause-noted
expression-returns-in-Let-clause-noted t c context knows =
    let form = c.in-Let in
    rw (let_tree context.names c.args.expr.now form.place form.type_of form.variable_place form.variable form.value
    form.body c.deref.result.now c.deref-in-Let.result.now c.deref-in-Let-2.result.now form.is c.deref.ensures
    c.deref-in-Let.ensures c.deref-in-Let-2.ensures)
    (c.let_in.ensures.noted context form.variable_place (variable_tree context.names form.variable) knows)

pub expression-returns-in-If-clause-found : goal.expression-returns-in-If-clause-found
expression-returns-in-If-clause-found t c context knows =
    let form = c.in-If in
    rw (if_tree context.names c.args.expr.now form.place form.condition form.first form.second
    c.deref-in-If.result.now c.deref-in-If-2.result.now c.deref-in-If-3.result.now form.is c.deref-in-If.ensures
    c.deref-in-If-2.ensures c.deref-in-If-3.ensures)
    (c.if_else.ensures.found context knows)

pub expression-returns-in-If-clause-noted : goal.expression-returns-in-If-clause-noted
expression-returns-in-If-clause-noted t c context knows =
    let form = c.in-If in
    rw (if_tree context.names c.args.expr.now form.place form.condition form.first form.second
    c.deref-in-If.result.now c.deref-in-If-2.result.now c.deref-in-If-3.result.now form.is c.deref-in-If.ensures
    c.deref-in-If-2.ensures c.deref-in-If-3.ensures)
    (c.if_else.ensures.noted context knows)

pub expression-returns-in-Operators-clause-found : goal.expression-returns-in-Operators-clause-found
expression-returns-in-Operators-clause-found t c context knows =
    let form = c.in-Operators in
    rw (operators_tree context.names c.args.expr.now form.place form.first form.operands
    c.deref-in-Operators.result.now c.deref-in-Operators-2.result.now form.is c.deref-in-Operators.ensures
    c.deref-in-Operators-2.ensures.value)
    (c.operators.ensures.found context knows)

pub expression-returns-in-Operators-clause-noted : goal.expression-returns-in-Operators-clause-noted
expression-returns-in-Operators-clause-noted t c context knows =
    let form = c.in-Operators in
    rw (operators_tree context.names c.args.expr.now form.place form.first form.operands
    c.deref-in-Operators.result.now c.deref-in-Operators-2.result.now form.is c.deref-in-Operators.ensures
    c.deref-in-Operators-2.ensures.value)
    (c.operators.ensures.noted context knows)

pub expression-returns-in-Prefixed-clause-found : goal.expression-returns-in-Prefixed-clause-found
expression-returns-in-Prefixed-clause-found t c context knows =
    let form = c.in-Prefixed in
    rw (prefixed_tree context.names c.args.expr.now form.place form.prefix form.operand
    c.deref-in-Prefixed.result.now form.is c.deref-in-Prefixed.ensures)
    (c.prefixed.ensures.found context knows)

pub expression-returns-in-Prefixed-clause-noted : goal.expression-returns-in-Prefixed-clause-noted
expression-returns-in-Prefixed-clause-noted t c context knows =
    let form = c.in-Prefixed in
    rw (prefixed_tree context.names c.args.expr.now form.place form.prefix form.operand
    c.deref-in-Prefixed.result.now form.is c.deref-in-Prefixed.ensures)
    (c.prefixed.ensures.noted context knows)

pub expression-returns-in-Case-clause-found : goal.expression-returns-in-Case-clause-found
expression-returns-in-Case-clause-found t c context knows =
    let form = c.in-Case in
    rw (case_tree context.names c.args.expr.now form.place form.subject form.branches c.deref-in-Case.result.now
    c.deref-in-Case-2.result.now form.is c.deref-in-Case.ensures c.deref-in-Case-2.ensures.value)
    (c.case.ensures.found context knows)

pub expression-returns-in-Case-clause-noted : goal.expression-returns-in-Case-clause-noted
expression-returns-in-Case-clause-noted t c context knows =
    let form = c.in-Case in
    rw (case_tree context.names c.args.expr.now form.place form.subject form.branches c.deref-in-Case.result.now
    c.deref-in-Case-2.result.now form.is c.deref-in-Case.ensures c.deref-in-Case-2.ensures.value)
    (c.case.ensures.noted context knows)

pub expression-returns-in_default : goal.expression-returns-in_default
expression-returns-in_default t c =
    record {
      found = c.primary.ensures.found;
      noted = c.primary.ensures.noted;
      stays = c.primary.ensures.stays;
    }

pub primary-returns-in-Apply-clause-found : goal.primary-returns-in-Apply-clause-found
primary-returns-in-Apply-clause-found t c context knows =
    let form = c.in-Apply in
    rw (apply_tree context.names c.args.expr.now form.place form.function form.arguments c.deref.result.now form.is
    c.deref.ensures.value)
    (c.apply.ensures.found context knows)

pub primary-returns-in-Apply-clause-noted : goal.primary-returns-in-Apply-clause-noted
primary-returns-in-Apply-clause-noted t c context knows =
    let form = c.in-Apply in
    rw (apply_tree context.names c.args.expr.now form.place form.function form.arguments c.deref.result.now form.is
    c.deref.ensures.value)
    (c.apply.ensures.noted context knows)

pub primary-returns-in-Build-clause-found : goal.primary-returns-in-Build-clause-found
primary-returns-in-Build-clause-found t c context knows =
    let form = c.in-Build in
    rw (build_tree context.names c.args.expr.now form.place form.constructor form.arguments
    c.deref-in-Build.result.now form.is c.deref-in-Build.ensures.value)
    (c.build.ensures.found context knows)

pub primary-returns-in-Build-clause-noted : goal.primary-returns-in-Build-clause-noted
primary-returns-in-Build-clause-noted t c context knows =
    let form = c.in-Build in
    rw (build_tree context.names c.args.expr.now form.place form.constructor form.arguments
    c.deref-in-Build.result.now form.is c.deref-in-Build.ensures.value)
    (c.build.ensures.noted context knows)

pub primary-returns-in-OwnCall-clause-found : goal.primary-returns-in-OwnCall-clause-found
primary-returns-in-OwnCall-clause-found t c context knows =
    let form = c.in-OwnCall in
    rw (own_call_tree context.names c.args.expr.now form.place form.method form.arguments
    c.deref-in-OwnCall-2.result.now form.is (c.deref-in-OwnCall-2.ensures.value
    ∙ ap (λ (held : Vec Expr Global). held.items) c.deref-in-OwnCall.ensures))
    (c.own_call.ensures.found context knows)

pub primary-returns-in-OwnCall-clause-noted : goal.primary-returns-in-OwnCall-clause-noted
primary-returns-in-OwnCall-clause-noted t c context knows =
    let form = c.in-OwnCall in
    rw (own_call_tree context.names c.args.expr.now form.place form.method form.arguments
    c.deref-in-OwnCall-2.result.now form.is (c.deref-in-OwnCall-2.ensures.value
    ∙ ap (λ (held : Vec Expr Global). held.items) c.deref-in-OwnCall.ensures))
    (c.own_call.ensures.noted context knows)

pub primary-returns-in_ok-int-in-Number-clause-found : goal.primary-returns-in_ok-int-in-Number-clause-found
primary-returns-in_ok-int-in-Number-clause-found t c context knows =
    rw c.in-Number.is c.in_ok-int-in-Number.ensures.found

pub primary-returns-in_ok-int-in-Number-clause-noted : goal.primary-returns-in_ok-int-in-Number-clause-noted
primary-returns-in_ok-int-in-Number-clause-noted t c context knows =
    rw c.in-Number.is (noted_same c.in_ok-int-in-Number.ensures.first)

pub primary-returns-in_ok-string-in-Text-clause-found : goal.primary-returns-in_ok-string-in-Text-clause-found
primary-returns-in_ok-string-in-Text-clause-found t c context knows =
    rw c.in-Text.is c.in_ok-string-in-Text.ensures.found

pub primary-returns-in_ok-string-in-Text-clause-noted : goal.primary-returns-in_ok-string-in-Text-clause-noted
primary-returns-in_ok-string-in-Text-clause-noted t c context knows =
    rw c.in-Text.is (noted_same c.in_ok-string-in-Text.ensures.first)

pub primary-returns-in_ok-null-in-Null-clause-found : goal.primary-returns-in_ok-null-in-Null-clause-found
primary-returns-in_ok-null-in-Null-clause-found t c context knows =
    rw c.in-Null.is c.in_ok-null-in-Null.ensures.found

pub primary-returns-in_ok-null-in-Null-clause-noted : goal.primary-returns-in_ok-null-in-Null-clause-noted
primary-returns-in_ok-null-in-Null-clause-noted t c context knows =
    rw c.in-Null.is (noted_same c.in_ok-null-in-Null.ensures.first)

pub primary-returns-in-Destiny-clause-found : goal.primary-returns-in-Destiny-clause-found
primary-returns-in-Destiny-clause-found t c context knows =
    rw c.in-Destiny.is (c.destiny.ensures.found context knows)

pub primary-returns-in-Destiny-clause-noted : goal.primary-returns-in-Destiny-clause-noted
primary-returns-in-Destiny-clause-noted t c context knows =
    rw c.in-Destiny.is (c.destiny.ensures.noted context knows)

pub primary-returns-in-This-clause-found : goal.primary-returns-in-This-clause-found
primary-returns-in-This-clause-found t c context knows =
    rw c.in-This.is (c.this.ensures.found context knows)

pub primary-returns-in-This-clause-noted : goal.primary-returns-in-This-clause-noted
primary-returns-in-This-clause-noted t c context knows =
    rw c.in-This.is (c.this.ensures.noted context knows)

pub primary-returns-in-Variable-clause-found : goal.primary-returns-in-Variable-clause-found
primary-returns-in-Variable-clause-found t c context knows =
    rw c.in-Variable.is (c.variable.ensures.found context knows)

pub primary-returns-in-Variable-clause-noted : goal.primary-returns-in-Variable-clause-noted
primary-returns-in-Variable-clause-noted t c context knows =
    rw c.in-Variable.is (c.variable.ensures.noted context knows)

pub primary-returns-in-Field-clause-found : goal.primary-returns-in-Field-clause-found
primary-returns-in-Field-clause-found t c context knows =
    rw (c.in-Field.is, c.field.ensures.found) finds_none

pub primary-returns-in-Field-clause-noted : goal.primary-returns-in-Field-clause-noted
primary-returns-in-Field-clause-noted t c context knows =
    rw c.in-Field.is c.field.ensures.noted
