use Rattle.std.proofs.Common.{refl}
use Rattle.check_fun.proofs.checker.Checker.head.Goals as goal

pub head_at-requires : goal.head_at-requires
head_at-requires c = (rw c.in-Some.is at (c.in_ok-found.ensures.found _ (record { is = refl }))).found_is
