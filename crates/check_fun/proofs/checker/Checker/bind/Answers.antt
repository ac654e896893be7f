use Rattle.std.proofs.Common.{refl, is_ok}
use Rattle.check_fun.proofs.FrameLemmas.{options_pushed, knows_bound}
use Rattle.check_fun.proofs.checker.Checker.bind.Goals as goal

pub invariant_of-self-clause-bound_are : goal.invariant_of-self-clause-bound_are
invariant_of-self-clause-bound_are c =
    let self = c.args.self.now in
    options_pushed self.table self.bound.items c.push.new.self.items c.args.found (is_ok c.push.result)
    c.push.ensures.items c.requires.among self.bound_are

pub returns-clause-knows : goal.returns-clause-knows
returns-clause-knows c = knows_bound c.args.found refl refl refl refl refl c.in_ok-push.ensures.items
