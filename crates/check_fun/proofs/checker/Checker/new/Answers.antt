use Rattle.std.proofs.Common.{refl}
use Rattle.check_fun.proofs.FrameLemmas.{knows_outside}
use Rattle.check_fun.proofs.checker.Checker.new.Goals as goal

pub returns-clause-knows : goal.returns-clause-knows
returns-clause-knows c =
    knows_outside c.args.program.now c.new.ensures.program c.new-2.ensures.items c.new-3.ensures.items refl refl
    c.new-4.ensures.items
