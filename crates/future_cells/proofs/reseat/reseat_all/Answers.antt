-- One more candidate is given its seat, and in the end all were.
use Rattle.std.proofs.Common.{arith}
use Rattle.future_cells.proofs.TurnLemmas.{AreReseatedBelow-more, AreReseatedBelow-all}
use Rattle.future_cells.proofs.reseat.reseat_all.Goals as goal

pub reseat-requires-clause-others : goal.reseat-requires-clause-others
reseat-requires-clause-others c =
    record { at_home = λ cog task elsewhere is. c.loop-cog.invariant.so_far.all_at_home.at_home cog task is }

pub loop-cog-preserved : goal.loop-cog-preserved
loop-cog-preserved c = record {
  so_far = AreReseatedBelow-more _ _ _ _ _ _ c.loop-cog.invariant.so_far c.reseat.ensures.seats;
  room = omega arith;
}

pub returns-clause-candidates : goal.returns-clause-candidates
returns-clause-candidates c = AreReseatedBelow-all _ _ _ _ _ c.loop-cog.invariant.so_far (omega arith)
