use Rattle.std.proofs.Common.{◌≤◌}
use Rattle.future_cells.specs.Reseats.{AreReseatedBelow}
use Rattle.future_cells.proofs.reseat.reseat_all.Given as goal

-- the candidates of the cogs so far have their seats
abbrev pub invariant-loop-cog : goal.invariant-loop-cog
invariant-loop-cog l = record {
  so_far : AreReseatedBelow l.cog l.posts.posts l.holders l.last l.candidates.seats;
  room : l.initial.candidates.room ≤ l.candidates.room;
}
