use Rattle.abs_types.specs.OperatorTypes.{operator_type}
use Rattle.check_fun.proofs.ContextLemmas.{finds_stays, found_stays, knows_stays, stays_transitive}
use Rattle.check_fun.proofs.OperatorLemmas.{arithmetic_type, comparison_type, equal_type, logical_type}
use Rattle.check_fun.proofs.checker.Checker.operator_rule.Goals as goal

pub returns-in-Plus-clause-found : goal.returns-in-Plus-clause-found
unfolding operator_type
returns-in-Plus-clause-found c context one other knows left right =
    rw c.in-Plus.is (c.sum_rule.ensures one other left right)

pub returns-in_ok-int-in-Minus-clause-found : goal.returns-in_ok-int-in-Minus-clause-found
returns-in_ok-int-in-Minus-clause-found c context one other knows left right =
    let int = c.in_ok-int-in-Minus.ensures.found in
    let stays = c.int.ensures.stays in
    rw (arithmetic_type context.declarations one other c.args.operator c.in-Minus.is)
    (c.both_rule.ensures context _ _ one other (knows_stays stays knows) int int (finds_stays stays left)
    (finds_stays stays right))

pub returns-in_ok-bool-in-Less-clause-found : goal.returns-in_ok-bool-in-Less-clause-found
returns-in_ok-bool-in-Less-clause-found c context one other knows left right =
    let stays = stays_transitive c.int-in-Less.ensures.stays c.bool.ensures.stays in
    rw (comparison_type context.declarations one other c.args.operator c.in-Less.is)
    (c.both_rule-in-Less.ensures context _ _ one other (knows_stays stays knows)
    (finds_stays c.bool.ensures.stays c.in_ok-int-in-Less.ensures.found) c.in_ok-bool-in-Less.ensures.found
    (finds_stays stays left) (finds_stays stays right))

pub returns-in-Equal-clause-found : goal.returns-in-Equal-clause-found
returns-in-Equal-clause-found c context one other knows left right =
    rw (equal_type context.declarations one other c.args.operator c.in-Equal.is)
    (c.equality_rule.ensures.found context one other knows left right)

pub returns-in_ok-bool-in-And-clause-found : goal.returns-in_ok-bool-in-And-clause-found
returns-in_ok-bool-in-And-clause-found c context one other knows left right =
    let bool = c.in_ok-bool-in-And.ensures.found in
    let stays = c.bool-in-And.ensures.stays in
    rw (logical_type context.declarations one other c.args.operator c.in-And.is)
    (c.both_rule-in-And.ensures context _ _ one other (knows_stays stays knows) bool bool (finds_stays stays left)
    (finds_stays stays right))

pub both_rule-requires-in-Less-clause-left : goal.both_rule-requires-in-Less-clause-left
both_rule-requires-in-Less-clause-left c =
    found_stays (stays_transitive c.int-in-Less.ensures.stays c.bool.ensures.stays) c.requires.left

pub both_rule-requires-in-Less-clause-right : goal.both_rule-requires-in-Less-clause-right
both_rule-requires-in-Less-clause-right c =
    found_stays (stays_transitive c.int-in-Less.ensures.stays c.bool.ensures.stays) c.requires.right
