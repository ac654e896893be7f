use Rattle.future_cells.specs.Search.{HasNoneWithin, is_idle_able}
use Rattle.future_cells.proofs.search.idle_able_within.Given as goal

-- no task so far passes
abbrev pub invariant-loop-task : goal.invariant-loop-task
invariant-loop-task l = HasNoneWithin (is_idle_able l.posts.posts l.holders l.busy) l.from l.task
