use Rattle.std.proofs.Common.{◌<◌, length, refl, arith}
use Rattle.check_fun.proofs.ContextLemmas.{knows_stays}
use Rattle.check_fun.proofs.OperatedSoFarLemmas.{OperatedSoFar-next, next_right_found, operated_found, operated_failed}
use Rattle.check_fun.proofs.FoundLemmas.{finds_own}
use Rattle.check_fun.specs.Contexts.{context_in}
use Rattle.check_fun.proofs.checker.Checker.operators_rule.Goals as goal

pub operator_rule-requires-clause-right : goal.operator_rule-requires-clause-right
operator_rule-requires-clause-right c =
    next_right_found (record { 0 = 0 }) c.loop-index.invariant (omega arith)

pub returns-in-None-clause-found : goal.returns-in-None-clause-found
returns-in-None-clause-found c context left types knows finds all =
    let so = c.loop-index.invariant in
    let there : c.loop-index.index < length c.args.rights.now = omega arith in
    operated_failed c.index-operands-index.result (record { 0 = 0 }) so c.loop-index-test.true there knows finds all
    (rw (c.in-None.is, c.index-operands-index.is) at (c.in_ok-found.ensures.found context _ _
    (knows_stays so.stays knows) (finds_own so.left_is) (finds_own (next_right_found (record { 0 = 0 }) so there))))

pub loop-index-preserved : goal.loop-index-preserved
loop-index-preserved c =
    let so = c.loop-index.invariant in
    let there : c.loop-index.index < length c.args.rights.now = omega arith in
    OperatedSoFar-next c.index-operands-index.result (record { 0 = 0 }) so c.loop-index-test.true there
    c.operator_rule.ensures.first c.operator_rule.ensures.stays
    (rw (c.in-Some.is, c.index-operands-index.is) at (c.in_ok-found.ensures.found (context_in c.loop-index.self) _ _
    (record { is = refl }) (finds_own so.left_is) (finds_own (next_right_found (record { 0 = 0 }) so there))))

pub returns-clause-found : goal.returns-clause-found
returns-clause-found c context left types knows finds all =
    operated_found c.loop-index.invariant c.loop-index-test.false knows finds all
