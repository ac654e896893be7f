use Rattle.abs_types.proofs.NamedLemmas.{none_extends_itself}
use Rattle.abs_types.proofs.TableJoinLemmas.{spines_step}
use Rattle.abs_types.proofs.table.TypeTable.spines.Goals as goal

pub loop-next-preserved : goal.loop-next-preserved
loop-next-preserved c =
    let applied = rw c.in-Some-Applied.field-0-is at c.in-Some-Applied.ensures in
    spines_step (none_extends_itself c.args.self.now.program.now) c.loop-next.invariant applied
    c.in_ok-push-2.ensures.items
