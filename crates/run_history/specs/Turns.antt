-- The order of one worker: whose event comes next where one worker runs a program. The definition says it of whole
-- histories; the tasks are not looked at in any order.
--
--   `HasEvent`                 a task has an event
--   `GoesOn`                   the task of the last event goes on: it runs, and has an event
--   `tried_before`             how many tasks are tried before this one, after the last one
--   `IsFirstInTurn`            of the tasks that may go this is the first in turn after the last one
--   `IsNext`                   the task whose event comes next
--   `last_of`                  the task of the last event
--   `IsInTurn`                 a history is in turn
use Rattle.std.specs.Prelude.{◌≡◌, ◌≤◌, ℕ, ◌+◌, ◌-◌, nat_lt, List, [], ◌∷◌, ◌++◌, length, slice_get, Option, Some, None, IsSome, if◌then◌else◌}
use Rattle.abs_tree.specs.Syntax.{ProgramTree}
use Rattle.config_state.specs.Configurations.{TaskState, Configuration}
use Rattle.config_state.specs.declared.task.State.TheVariants.{Running}
use Rattle.step_rules.specs.Events.{event_of}
use Rattle.step_rules.specs.Runs.{Ran, run_of}

-- The task with an index has an event.
abbrev pub HasEvent : ProgramTree → Configuration → ℕ → Type 0
HasEvent program config task = IsSome (event_of program config task)

-- The task with an index goes on: it runs, and has an event.
pub record GoesOn (program : ProgramTree) (config : Configuration) (index : ℕ) : Type 0 where
  pub task : TaskState
  pub there : slice_get config.tasks index ≡ Some task
  pub runs : task.state ≡ Running
  pub has_event : HasEvent program config index

-- how many of so many tasks are tried before this one, after the last one: they are tried in the order of their
-- indices, going round, and the last one itself is tried last
abbrev pub tried_before : ℕ → ℕ → ℕ → ℕ
tried_before count last task = if nat_lt last task then task - last - 1 else count + task - last - 1

-- Of those tasks that may go this is the first in turn after the last one: it may go, and no other one that may go is
-- tried before it. Which tasks may go is a parameter; for one worker they are those that have an event.
pub record IsFirstInTurn (may : ℕ → Type 0) (count last task : ℕ) : Type 0 where
  pub goes : may task
  pub first : (other : ℕ) → may other → tried_before count last task ≤ tried_before count last other

-- The event of this task comes next, after one of the last task, if there was one. The first event is of task 0. Then
-- the last task goes on while it can. Otherwise it is the first in turn, after the last one, of the tasks that have an
-- event.
pub data IsNext (program : ProgramTree) (config : Configuration) (task : ℕ) : Option ℕ → Type 0 where
  Begins : task ≡ 0 → HasEvent program config task → IsNext program config task None
  Continues : (last : ℕ) → task ≡ last → GoesOn program config last → IsNext program config task (Some last)
  Follows : (last : ℕ) → (GoesOn program config last → ⊥)
      → IsFirstInTurn (HasEvent program config) (length config.tasks) last task
      → IsNext program config task (Some last)

-- the task of the last event
abbrev pub last_of : List ℕ → Option ℕ
last_of [] = None
last_of (task ∷ []) = Some task
last_of (task ∷ other ∷ others) = last_of (other ∷ others)

-- The history is in turn: each of its tasks is the one whose event comes next after the events before it.
abbrev pub IsInTurn : ProgramTree → List ℕ → Type 0
IsInTurn program history = (earlier later : List ℕ) (task : ℕ) → history ≡ earlier ++ task ∷ later
    → (ran : Ran) × (run_of program earlier ≡ Some ran) × IsNext program ran.config task (last_of earlier)
