use Rattle.std.proofs.Common.{◌≡◌, ◌++◌, take}
use Rattle.abs_command.specs.Texts.{tasks_lines}
use Rattle.abs_command.proofs.texts.trace.push_tasks.Given as goal

abbrev pub invariant-loop-index : goal.invariant-loop-index
invariant-loop-index l = l.out.items ≡ l.fn.out.items ++ tasks_lines (take l.index l.history.tasks)
