use Rattle.std.proofs.Common.{◌≡◌, ◌++◌, List, map, drop}
use Rattle.abs_tree.specs.Syntax.{Name}
use Rattle.config_state.specs.Views.{task_state}
use Rattle.abs_command.specs.Texts.{fault_lines}
use Rattle.abs_command.proofs.texts.outcome.push_faults.Given as goal

-- the output so far, followed by the lines of the rest, is the whole output
abbrev pub invariant-loop-number : goal.invariant-loop-number
invariant-loop-number l = (names : List Name) → l.out.items
    ++ fault_lines l.number (map (task_state names) (drop l.number l.tasks)) ≡ l.fn.out.items
    ++ fault_lines 0 (map (task_state names) l.tasks)
