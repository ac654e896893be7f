use Rattle.abs_types.proofs.HeadLemmas.{IsSpine-next, has_parts}
use Rattle.abs_types.specs.TypeTables.{types_in}
use Rattle.check_fun.proofs.PartLemmas.{not_applied}
use Rattle.check_fun.proofs.checker.Checker.spine.Goals as goal

pub loop-inner-preserved : goal.loop-inner-preserved
loop-inner-preserved c =
    IsSpine-next c.loop-inner.invariant
    (has_parts c.args.self.now.table.program.now.symbols c.in-Applied.is c.shape.ensures.is c.shape.ensures.parts)
    c.in_ok-push.ensures.items

pub returns-clause-last : goal.returns-clause-last
returns-clause-last c one other =
    not_applied c.args.self.now.table.program.now.symbols (types_in c.args.self.now.table) c.in_default.not-Applied
    c.shape.ensures.is
