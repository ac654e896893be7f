use Rattle.abs_tree.proofs.StatementLemmas.{statement-block}
use Rattle.check_obj.proofs.endings.+empty.Goals as goal

pub is_empty-returns-in-Block : goal.is_empty-returns-in-Block
is_empty-returns-in-Block t c names =
    rw (c.in-Block.is, statement-block, ← c.deref.ensures.value) (c.are_empty.ensures names)
