use Rattle.std.proofs.Common.{◌∙◌, le-ltb}
use Rattle.abs_tree.proofs.StatementLemmas.{statement-block}
use Rattle.check_obj.proofs.EndingLemmas.{ends_with_last, ends_with_none}
use Rattle.check_obj.proofs.endings.+returns.Goals as goal

pub ends_with_return-returns-then-count-gt0 : goal.ends_with_return-returns-then-count-gt0
ends_with_return-returns-then-count-gt0 t c names =
    ends_with_last names c.args.stmts.now c.filled-count.result c.index-stmts-count.result c.returns.result
    c.filled-count.ensures c.if-count-gt0.true c.index-stmts-count.is (c.returns.ensures names)

pub ends_with_return-returns-else-count-gt0 : goal.ends_with_return-returns-else-count-gt0
ends_with_return-returns-else-count-gt0 t c names =
    le-ltb 0 c.filled-count.result c.if-count-gt0.false
    ∙ ends_with_none names c.args.stmts.now c.filled-count.result c.filled-count.ensures c.if-count-gt0.false

pub returns-returns-in-Block : goal.returns-returns-in-Block
returns-returns-in-Block t c names =
    rw (c.in-Block.is, statement-block, ← c.deref.ensures.value) (c.ends_with_return.ensures names)
