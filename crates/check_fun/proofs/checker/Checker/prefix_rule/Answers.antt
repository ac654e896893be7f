use Rattle.std.proofs.Common.{⊎_elim}
use Rattle.abs_types.specs.OperatorTypes.{prefix_type}
use Rattle.check_fun.proofs.ContextLemmas.{finds_stays, found_stays, knows_stays}
use Rattle.check_fun.proofs.checker.Checker.prefix_rule.Goals as goal

pub fitting-requires : goal.fitting-requires
fitting-requires c = record {
  operand = found_stays c.bool.ensures.stays c.requires;
  asked = c.in_ok-bool-in-Not.ensures.found.found_is;
}

pub fitting-requires-in-Minus-clause-operand : goal.fitting-requires-in-Minus-clause-operand
fitting-requires-in-Minus-clause-operand c = found_stays c.int.ensures.stays c.requires

pub returns-in_ok-bool-in-Not-clause-found : goal.returns-in_ok-bool-in-Not-clause-found
unfolding prefix_type
returns-in_ok-bool-in-Not-clause-found c context given knows finds =
    let fit = c.fitting.ensures context given _ (knows_stays c.bool.ensures.stays knows)
    (finds_stays c.bool.ensures.stays finds) c.in_ok-bool-in-Not.ensures.found in
    ⊎_elim (λ found. rw found fit) (λ found. rw found fit) c.in-Not.is

pub returns-in_ok-int-in-Minus-clause-found : goal.returns-in_ok-int-in-Minus-clause-found
unfolding prefix_type
returns-in_ok-int-in-Minus-clause-found c context given knows finds =
    rw c.in-Minus.is
    (c.fitting-in-Minus.ensures context given _ (knows_stays c.int.ensures.stays knows)
    (finds_stays c.int.ensures.stays finds) c.in_ok-int-in-Minus.ensures.found)
