-- The order of one worker, told by a ready set.
--
--   `first_has_event`          in the first configuration task 0 has an event
--   `goes_on_if`               whether a task that runs goes on
--   `has-event`, `event-has`   a ready set has just the tasks with an event
--   `tried-no_later`           a task that comes no later is tried no later
--   `next_of_ready`            the task that comes next is the first one of the ready set
--   `next_in_code`             so it is told by the answer of the search
--   `none_of_ready`            no task has an event, if the ready set is empty
use Rattle.std.proofs.Common.{◌≡◌, ◌<◌, ◌≤◌, ◌+◌, ℕ, Bool, true, false, is_some, MatchBool, ◌&&◌, nat_le, nat_lt, List, [], length, slice_get, Some, refl, sym, ap, ◌∙◌, arith}
use Rattle.std.proofs.lemmas.List.{length-map}
use Rattle.std.proofs.lemmas.Bool.{and_from, and_parts, le-leb, lt-ltb, true≢false}
use Rattle.std.proofs.lemmas.Bool.Decides.{nat_tests}
use Rattle.abs_tree.specs.Syntax.{Name, ProgramTree}
use Rattle.config_state.proofs.FirstLemmas.{first-well_formed}
use Rattle.config_state.specs.ConfigViews.{configuration}
use Rattle.config_state.specs.Configurations.{Configuration}
use Rattle.config_state.specs.First.{first}
use Rattle.config_state.specs.Views.{task_state}
use Rattle.config_state.specs.declared.config.Config.{Config}
use Rattle.config_state.specs.declared.task.State.TheVariants.{Running}
use Rattle.config_state.specs.declared.task.TaskCell.{TaskCell}
use Rattle.future_cells.proofs.SearchLemmas.{has-filter_range}
use Rattle.future_cells.specs.Ready.{KeptReady}
use Rattle.future_cells.specs.Standings.{tasks_with_event}
use Rattle.future_cells.specs.TaskSets.{has}
use Rattle.future_cells.specs.Turns.{IsFirstOf, no_later}
use Rattle.run_history.proofs.RunLemmas.{has_event_there}
use Rattle.run_history.specs.Turns.{HasEvent, GoesOn, tried_before, IsNext, Follows}
use Rattle.step_rules.proofs.BlockedLemmas.{task_found}
use Rattle.step_rules.proofs.CauseLemmas.{ready_has_iff}
use Rattle.step_rules.specs.Events.{event_of}
use Rattle.step_rules.specs.Runs.{HasStep}

-- in the first configuration task 0 has an event
pub first_has_event : (program : ProgramTree) → HasEvent program (first program) 0
first_has_event program =
    (ready_has_iff program (first program) 0 _ (first-well_formed program) refl refl refl).1
    (record { cog = _; there = refl; free = refl })

-- a ready set has just the tasks with an event
has-event : (program : ProgramTree) (config : Configuration) (ready : KeptReady)
    → ready.tasks ≡ tasks_with_event program config → (task : ℕ) → HasEvent program config task → has ready.tasks task ≡ true
has-event program config ready tasks_are task event =
    let within = has_event_there program config task event in
    ap (λ (tasks : List ℕ). has tasks task) tasks_are
    ∙ has-filter_range (λ task. is_some (event_of program config task)) 0 (length config.tasks) task
    ∙ and_from _ _
    (and_from _ _ (le-leb 0 task (omega arith)) (lt-ltb task (0 + length config.tasks) (omega (arith, within)))) event

-- and a task that it has is one with an event
event-has : (program : ProgramTree) (config : Configuration) (ready : KeptReady)
    → ready.tasks ≡ tasks_with_event program config → (task : ℕ) → has ready.tasks task ≡ true → HasEvent program config task
event-has program config ready tasks_are task has_it =
    (and_parts (nat_le 0 task && nat_lt task (0 + length config.tasks)) (is_some (event_of program config task))
    (sym (has-filter_range (λ task. is_some (event_of program config task)) 0 (length config.tasks) task)
    ∙ sym (ap (λ (tasks : List ℕ). has tasks task) tasks_are) ∙ has_it)).1

-- a task that runs goes on where the ready set has it
pub goes_on_if : (program : ProgramTree) (names : List Name) (config : Config) (ready : KeptReady) (index : ℕ)
    (cell : TaskCell) (answer : Bool) → slice_get config.tasks index ≡ Some cell → cell.state ≡ Running
    → ready.tasks ≡ tasks_with_event program (configuration names config) → answer ≡ has ready.tasks index
    → MatchBool answer (GoesOn program (configuration names config) index)
    (GoesOn program (configuration names config) index → ⊥)
goes_on_if program names config ready index cell true there runs tasks_are is = record {
  task = task_state names cell;
  there = task_found names config index cell there;
  runs = runs;
  has_event = event-has program (configuration names config) ready tasks_are index (sym is);
}
goes_on_if program names config ready index cell false there runs tasks_are is =
    λ goes. true≢false (sym (has-event program (configuration names config) ready tasks_are index goes.has_event)
    ∙ sym is)

-- a task that comes no later is tried no later
tried-no_later : (count last task other : ℕ) → task < count → other < count → last < count
    → no_later last task other ≡ true → tried_before count last task ≤ tried_before count last other
tried-no_later count last task other there other_there last_there first = grind (arith, nat_tests)

-- the task that comes next is the first one of the ready set
next_of_ready : (program : ProgramTree) (config : Configuration) (ready : KeptReady) (last task : ℕ)
    → ready.tasks ≡ tasks_with_event program config → last < length config.tasks → (GoesOn program config last → ⊥)
    → IsFirstOf (has ready.tasks) last task → IsNext program config task (Some last)
next_of_ready program config ready last task tasks_are there stops first =
    let event = event-has program config ready tasks_are task first.is_one in
    Follows last stops (record {
      goes = event;
      first = λ other other_event.
          tried-no_later (length config.tasks) last task other (has_event_there program config task event)
          (has_event_there program config other other_event) there
          (first.first other (has-event program config ready tasks_are other other_event));
    })

-- no task has an event, if the ready set is empty
pub none_of_ready : (program : ProgramTree) (config : Configuration) (ready : KeptReady)
    → ready.tasks ≡ tasks_with_event program config → ready.tasks ≡ [] → HasStep program config → ⊥
none_of_ready program config ready tasks_are none (task, event) =
    true≢false (sym (has-event program config ready tasks_are task event)
    ∙ ap (λ (tasks : List ℕ). has tasks task) none)

-- so it is told by the answer of the search
pub next_in_code : (program : ProgramTree) (names : List Name) (config : Config) (ready : KeptReady) (last task : ℕ)
    → ready.tasks ≡ tasks_with_event program (configuration names config) → last < length config.tasks
    → (GoesOn program (configuration names config) last → ⊥) → IsFirstOf (has ready.tasks) last task
    → IsNext program (configuration names config) task (Some last)
next_in_code program names config ready last task tasks_are there stops first =
    next_of_ready program (configuration names config) ready last task tasks_are
    (omega (arith, there, length-map config.tasks (task_state names))) stops first
