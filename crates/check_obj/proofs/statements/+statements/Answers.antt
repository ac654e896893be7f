use Rattle.std.proofs.Common.{◌≡◌, ◌&&◌, ◌+◌, ◌++◌, ◌∙◌, true, false, nat_le, sym, subst, true≢false}
use Rattle.std.proofs.lemmas.Result.{on_ok_weaker}
use Rattle.abs_tree.specs.SyntaxPlaces.{expr_place}
use Rattle.abs_tree.specs.SyntaxViews.{expr_tree}
use Rattle.abs_types.proofs.KeepLemmas.{keeps_transitive}
use Rattle.abs_types.specs.OperatorTypes.{bool_type}
use Rattle.abs_types.specs.StatementOffences.{asked_offences}
use Rattle.check_fun.proofs.ContextLemmas.{found_stays, knows_stays, noted_after, stays_transitive}
use Rattle.check_fun.proofs.FoundLemmas.{keeps_same, knows_own}
use Rattle.check_fun.proofs.StepLemmas.{noted_between}
use Rattle.check_fun.specs.Contexts.{Knows, Stays}
use Rattle.check_obj.proofs.BlockLemmas.{after_other, block_noted, block_stays, block_step, is_end, undoes_stays}
use Rattle.check_obj.proofs.ResultLemmas.{passed_noted, passed_stays}
use Rattle.check_obj.specs.Bodies.{statements_offend, unbound}
use Rattle.check_obj.specs.Endings.{IsFilled}
use Rattle.check_obj.proofs.statements.+statements.Goals as goal
use Rattle.check_obj.proofs.statements.+statements.Goals.{statements-then-is_last, statements-else-is_last, statements-then-is_last-2, statements-else-is_last-2}
use Rattle.list_facts.proofs.ResultLemmas.{OnOk-always}
use Rattle.abs_tree.proofs.StatementLemmas.{block_tree, if_tree-value, while_tree-value}

pub if_else-returns-in-Some-clause-noted : goal.if_else-returns-in-Some-clause-noted
if_else-returns-in-Some-clause-noted t c context knows =
    let condition = expr_tree context.names c.args.condition.now in
    let final = c.statements-in-Some.new.checker.first in
    let asked = asked_offences context.declarations context.frame condition bool_type (expr_place condition) in
    let first = statements_offend context false c.args.first.now in
    let second = statements_offend context false c.deref.result.now in
    let between = knows_stays c.in_ok-check_condition.ensures.stays knows in
    let later = knows_stays c.in_ok-statements.ensures.stays between in
    rw (c.in-Some.is, ← c.deref.ensures.value) (passed_noted c.statements-in-Some.result final (asked ++ first) second
    (noted_after asked first (c.in_ok-check_condition.ensures.noted context knows)
    (c.in_ok-statements.ensures.noted context between)) (c.statements-in-Some.ensures.noted context later))

pub if_else-returns-in-Some-clause-stays : goal.if_else-returns-in-Some-clause-stays
if_else-returns-in-Some-clause-stays t c =
    passed_stays c.statements-in-Some.result c.statements-in-Some.new.checker
    (stays_transitive c.in_ok-check_condition.ensures.stays c.in_ok-statements.ensures.stays)
    c.statements-in-Some.ensures.stays

pub if_else-returns-in-None-clause-stays : goal.if_else-returns-in-None-clause-stays
if_else-returns-in-None-clause-stays t c =
    stays_transitive c.in_ok-check_condition.ensures.stays c.in_ok-statements.ensures.stays

pub while_do-returns-clause-noted : goal.while_do-returns-clause-noted
while_do-returns-clause-noted t c context knows =
    let condition = expr_tree context.names c.args.condition.now in
    passed_noted c.statements.result c.statements.new.checker.first
    (asked_offences context.declarations context.frame condition bool_type (expr_place condition))
    (statements_offend context false c.args.body.now) (c.in_ok-check_condition.ensures.noted context knows)
    (c.statements.ensures.noted context (knows_stays c.in_ok-check_condition.ensures.stays knows))

pub while_do-returns-clause-stays : goal.while_do-returns-clause-stays
while_do-returns-clause-stays t c =
    passed_stays c.statements.result c.statements.new.checker c.in_ok-check_condition.ensures.stays
    c.statements.ensures.stays

pub other_statement-returns-in-Block-clause-noted : goal.other_statement-returns-in-Block-clause-noted
other_statement-returns-in-Block-clause-noted t c context knows =
    let form = c.in-Block in
    rw (block_tree context.names c.args.stmt.now form.field-0 form.block c.deref.result.now form.is
    c.deref.ensures.value) (c.statements.ensures.noted context knows)

pub other_statement-returns-in-If-clause-noted : goal.other_statement-returns-in-If-clause-noted
other_statement-returns-in-If-clause-noted t c context knows =
    let form = c.in-If in
    rw (if_tree-value context.names c.args.stmt.now form.index form.place form.condition form.first form.second
    c.deref-in-If.result.now c.deref-in-If-2.result.now form.is c.deref-in-If.ensures c.deref-in-If-2.ensures.value)
    (c.if_else.ensures.noted context knows)

pub other_statement-returns-in-While-clause-noted : goal.other_statement-returns-in-While-clause-noted
other_statement-returns-in-While-clause-noted t c context knows =
    let form = c.in-While in
    rw (while_tree-value context.names c.args.stmt.now form.index form.place form.condition form.body
    c.deref-in-While.result.now c.deref-in-While-2.result.now form.is c.deref-in-While.ensures
    c.deref-in-While-2.ensures.value) (c.while_do.ensures.noted context knows)

pub statement-initial_value-requires : goal.statement-initial_value-requires
statement-initial_value-requires t c = (c.in_ok-declared-in-Declare.ensures.found _ knows_own).found_is

pub statement-show-requires : goal.statement-show-requires
statement-show-requires t c =
    found_stays c.in_ok-initial_value-in-Declare.ensures.stays
    (c.in_ok-declared-in-Declare.ensures.found _ knows_own).found_is

pub statement-returns-in_ok-initial_value-in-Declare-clause-noted
    : goal.statement-returns-in_ok-initial_value-in-Declare-clause-noted
statement-returns-in_ok-initial_value-in-Declare-clause-noted t c context knows =
    let noted = c.in_ok-initial_value-in-Declare.ensures.noted context _ (knows_stays c.written.ensures.stays knows)
    (c.in_ok-declared-in-Declare.ensures.found (unbound context) knows) in
    rw c.in-Declare.is
    (OnOk-always c.show.result (noted_between c.written.ensures.first noted c.show.ensures.first))

pub statement-returns-in_ok-initial_value-in-Declare-clause-undoes
    : goal.statement-returns-in_ok-initial_value-in-Declare-clause-undoes
statement-returns-in_ok-initial_value-in-Declare-clause-undoes t c slots undoes =
    c.show.ensures.undoes slots
    (undoes_stays c.in_ok-initial_value-in-Declare.ensures.stays (undoes_stays c.written.ensures.stays undoes))

pub statement-returns-in_ok-initial_value-in-Declare-clause-keeps
    : goal.statement-returns-in_ok-initial_value-in-Declare-clause-keeps
statement-returns-in_ok-initial_value-in-Declare-clause-keeps t c =
    OnOk-always c.show.result (keeps_transitive c.written.ensures.stays.keeps
    (keeps_transitive c.in_ok-initial_value-in-Declare.ensures.stays.keeps (keeps_same c.show.ensures.table)))

pub statement-returns-in_default : goal.statement-returns-in_default
statement-returns-in_default t c =
    let StaysHere = Stays c.args.checker.now c.other_statement.new.checker in
    record {
      noted = c.other_statement.ensures.noted;
      knows = λ context knows. on_ok_weaker c.other_statement.result
          (λ (stays : StaysHere). subst (Knows c.other_statement.new.checker)
          (sym (after_other context c.args.stmt.now c.in_default.not-Declare)) (knows_stays stays knows))
          c.other_statement.ensures.stays;
      undoes = λ slots undoes. on_ok_weaker c.other_statement.result
          (λ (stays : StaysHere). undoes_stays stays undoes) c.other_statement.ensures.stays;
      keeps = on_ok_weaker c.other_statement.result (λ (stays : StaysHere). stays.keeps)
          c.other_statement.ensures.stays;
    }

pub statements-loop-index-preserved : goal.statements-loop-index-preserved
statements-loop-index-preserved t c =
    let filled : c.args.is_last ≡ true → IsFilled c.args.stmts.now c.if-is_last.filled = elim c.if-is_last.branch [
      | statements-then-is_last w ↦ λ is. rw w.filled-is w.filled-filled.ensures
      | statements-else-is_last w ↦ λ is. absurd (true≢false (sym is ∙ w.if-is_last.false))
    ] in
    let reported : c.if-is_last-2.statement ≡ (c.args.is_last && nat_le c.if-is_last.filled (c.loop-index.index + 1)) =
    elim c.if-is_last-2.branch [
      | statements-then-is_last-2 w ↦ rw w.if-is_last-2.true w.statement-is
      | statements-else-is_last-2 w ↦ rw w.if-is_last-2.false (w.statement-is ∙ w.if-is_last-2.false)
    ] in
    block_step c.index-stmts-index.result c.loop-index.invariant c.loop-index-test.true c.index-stmts-index.is
    (λ names. reported ∙ is_end names c.args.stmts.now c.args.is_last c.if-is_last.filled c.loop-index.index filled)
    c.in_ok-statement.ensures.noted c.in_ok-statement.ensures.knows c.in_ok-statement.ensures.undoes
    c.in_ok-statement.ensures.keeps

pub statements-returns-clause-noted : goal.statements-returns-clause-noted
statements-returns-clause-noted t c =
    block_noted c.hide.new.checker.first c.loop-index.invariant c.loop-index-test.false c.hide.ensures.first

pub statements-returns-clause-stays : goal.statements-returns-clause-stays
statements-returns-clause-stays t c =
    block_stays c.loop-index.invariant c.hide.ensures.knows c.hide.ensures.table
