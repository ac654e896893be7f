use Rattle.std.proofs.Common.{◌≤◌, ◌-◌}
use Rattle.future_cells.specs.Search.{HasNoneWithin, is_idle_seated}
use Rattle.future_cells.proofs.search.idle_seated_within.Given as goal

-- no seated task so far is in a cog that is not busy
abbrev pub invariant-loop-at : goal.invariant-loop-at
invariant-loop-at l = record {
  begins : l.from ≤ l.at;
  none : HasNoneWithin (is_idle_seated l.posts.posts l.candidates.seats l.busy) l.from l.at;
}

-- the tasks that are left
abbrev pub decreases-loop-at : goal.decreases-loop-at
decreases-loop-at l = l.to - l.at
