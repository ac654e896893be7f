use Rattle.std.proofs.Common.{refl}
use Rattle.check_fun.proofs.FrameLemmas.{options_taken, knows_left}
use Rattle.check_fun.proofs.checker.Checker.leave.Goals as goal

pub invariant_of-self-clause-bound_are : goal.invariant_of-self-clause-bound_are
invariant_of-self-clause-bound_are c =
    let self = c.args.self.now in
    options_taken self.table self.bound.items c.truncate.new.self.items c.args.count c.truncate.ensures.items
    self.bound_are

pub returns-clause-knows : goal.returns-clause-knows
returns-clause-knows c = knows_left c.args.count refl refl refl refl refl c.truncate.ensures.items
