use Rattle.check_fun.proofs.OperatorLemmas.{bottom_no_sum, bottom_sum, int_no_sum, int_sum, no_sum, other_no_sum, string_no_sum, string_sum, sum_is_left, sum_is_right}
use Rattle.check_fun.proofs.checker.Checker.sum_rule.Goals as goal

pub returns-in-Int-given : goal.returns-in-Int-given
returns-in-Int-given c one other =
    sum_is_left c.in-Int.ensures.is c.shape-given.ensures.is (int_sum _ _ _ c.in-Int-given.is)

pub returns-in_default-given : goal.returns-in_default-given
returns-in_default-given c one other =
    no_sum c.in-Int.ensures.is c.shape-given.ensures.is
    (int_no_sum _ _ _ c.in_default-given.not-Int c.in_default-given.not-Bottom)

pub returns-in-String-given : goal.returns-in-String-given
returns-in-String-given c one other =
    sum_is_left c.in-String.ensures.is c.shape-given.ensures.is (string_sum _ _ _ c.in-String-given.is)

pub returns-in_default-given-2 : goal.returns-in_default-given-2
returns-in_default-given-2 c one other =
    no_sum c.in-String.ensures.is c.shape-given.ensures.is
    (string_no_sum _ _ _ c.in_default-given-2.not-String c.in_default-given-2.not-Bottom)

pub returns-in-Int-given-2 : goal.returns-in-Int-given-2
returns-in-Int-given-2 c one other =
    sum_is_right c.in-Bottom.ensures.is c.shape-given.ensures.is (bottom_sum _ _ _ c.in-Int-given-2.is)

pub returns-in_default-given-3 : goal.returns-in_default-given-3
returns-in_default-given-3 c one other =
    no_sum c.in-Bottom.ensures.is c.shape-given.ensures.is (bottom_no_sum _ _ _ c.in_default-given-3.not-Int
    c.in_default-given-3.not-String c.in_default-given-3.not-Bottom)

pub returns-in_default : goal.returns-in_default
returns-in_default c one other =
    no_sum c.shape.ensures.is c.shape-given.ensures.is
    (other_no_sum _ _ _ _ c.in_default.not-Int c.in_default.not-String c.in_default.not-Bottom)
