use Rattle.std.proofs.Common.{subst, sym, arith}
use Rattle.std.proofs.lemmas.Grind.{common_steps}
use Rattle.abs_graph.specs.Tables.{HasNoRoom}
use Rattle.abs_graph.proofs.TableLemmas.{none_more}
use Rattle.abs_graph.proofs.closure.no_rows.Goals as goal

pub loop-preserved : goal.loop-preserved
loop-preserved c = (
  grind (arith, common_steps, c.in_ok-push.ensures.items),
  subst HasNoRoom (sym c.in_ok-push.ensures.items)
      (none_more c.loop.rows.items c.in_ok-new.field-0 c.loop.invariant.1 c.in_ok-new.ensures),
)
