use Rattle.std.proofs.Common.{arith}
use Rattle.step_rules.proofs.BlockedLemmas.{open_by_outcome, none_open}
use Rattle.step_rules.proofs.enabled.is_open.Goals as goal

pub returns-then-task-len : goal.returns-then-task-len
returns-then-task-len c = λ symbols.
    none_open symbols c.args.config.now c.args.task (omega (arith, c.if-task-len.true, c.len.ensures))

pub returns : goal.returns
returns c = λ symbols.
    open_by_outcome symbols c.args.config.now c.args.task c.at.result.now c.is_none.result c.at.ensures
    c.is_none.ensures
