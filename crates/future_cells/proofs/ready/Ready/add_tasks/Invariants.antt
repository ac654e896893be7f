use Rattle.std.proofs.Common.{◌≡◌, ◌≤◌, ◌+◌, take}
use Rattle.future_cells.specs.Following.{going_posts}
use Rattle.future_cells.proofs.ready.Ready.add_tasks.Given as goal

-- the posts so far
abbrev pub invariant-loop-task : goal.invariant-loop-task
invariant-loop-task l = record {
  posts : l.self.posts ≡ take l.task (going_posts l.config.tasks);
  holders : l.self.holders ≡ l.initial.self.holders;
  spare : l.initial.self.spare ≤ l.self.spare + l.task;
}
