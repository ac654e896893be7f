use Rattle.std.proofs.Common.{◌≤◌, ◌+◌, length}
use Rattle.show_run.proofs.replays.history_of.Given as goal

-- there is room for the tasks that are left
abbrev pub invariant-loop-task : goal.invariant-loop-task
invariant-loop-task l = length l.tasks ≤ l.task-index + l.history.spare
