-- An event that was made, as the ready set needs it.
--
--   `tasks_listed`             the list of a ready set has just the tasks with an event
--   `moved_by_event`           an event of a task came since the ready set was that of a configuration
use denote.Struct.Props as logic
use mathlib.Core.Logic.{∥∥₁_elim}
use Rattle.std.proofs.Common.{◌≡◌, ℕ, Some, ◌∙◌, ap}
use Rattle.abs_tree.specs.Syntax.{ProgramTree}
use Rattle.config_state.specs.Configurations.{Configuration}
use Rattle.config_state.specs.WellFormed.{IsWellFormed}
use Rattle.future_cells.specs.Ready.{KeptReady}
use Rattle.future_cells.specs.Standings.{StandsFor, tasks_with_event}
use Rattle.future_cells.specs.TaskEvents.{HasMoved, Last}
use Rattle.run_history.proofs.RunLemmas.{event_found}
use Rattle.run_history.specs.Turns.{HasEvent}
use Rattle.step_rules.proofs.StayLemmas.{event_change}
use Rattle.step_rules.specs.Changes.{Change}
use Rattle.step_rules.specs.Events.{Step, change_of, event_of}
use Rattle.step_rules.specs.declared.kind.Did.{Did}

-- the list of a ready set has just the tasks with an event
pub tasks_listed : (program : ProgramTree) (config : Configuration) (ready : KeptReady)
    → ∥ StandsFor program config ready ∥₁ → ready.tasks ≡ tasks_with_event program config
tasks_listed program config ready stands = ∥∥₁_elim stands (Prim.hlevel logic.props) (λ stood. stood.tasks_are)

-- the event that was made came since the ready set was that of the configuration before it
pub moved_by_event : (program : ProgramTree) (before after : Configuration) (task : ℕ) (did : Did) (ready : KeptReady)
    → IsWellFormed before → StandsFor program before ready → HasEvent program before task
    → ((step : Step) → event_of program before task ≡ Some step → after ≡ step.config)
    → ((change : Change) → change_of program before task ≡ Some change → did ≡ change.did)
    → HasMoved program after task did ready
moved_by_event program before after task did ready formed stood has config_is kind_is =
    let found = event_found program before task has in
    let change = event_change program before task found.0 found.1 in
    record {
      before = before;
      formed = formed;
      stood = stood;
      events = Last before change.0 change.1
          (config_is found.0 found.1 ∙ ap (λ (step : Step). step.config) change.2) (kind_is change.0 change.1);
    }
