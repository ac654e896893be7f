use Rattle.std.proofs.Common.{get_or, refl}
use Rattle.abs_graph.proofs.ColumnLemmas.{extended_none, extended_more}
use Rattle.abs_graph.proofs.columns.Columns.add_row.Goals as goal

pub loop-next-init : goal.loop-next-init
loop-next-init c = extended_none c.args.self.now

pub loop-next-preserved : goal.loop-next-preserved
loop-next-preserved c =
    extended_more c.args.self.now c.loop-next.self c.add.new.self c.args.row.now c.loop-next.next-index
    (get_or c.args.row.now c.loop-next.next-index 0) c.loop-next.invariant c.in_ok-add.ensures c.loop-next-test.true refl
