-- The task of an event in the list of the code's tasks, after the event.
--
--   `moved_in_code`            it is there after the event
--   `moved_in_code_again`      so it is if the event is made where an event that failed left all as it was
use Rattle.std.proofs.Common.{◌≡◌, ◌<◌, ℕ, List, length, Some, sym, subst}
use Rattle.abs_tree.specs.Syntax.{Name, ProgramTree}
use Rattle.config_state.specs.ConfigViews.{configuration}
use Rattle.config_state.specs.Configurations.{Configuration}
use Rattle.config_state.specs.declared.config.Config.{Config}
use Rattle.run_history.proofs.RunLemmas.{event_found, moved_there, there_in_code}
use Rattle.run_history.specs.Turns.{HasEvent}
use Rattle.step_rules.specs.Events.{Step, event_of}

-- it is there after the event
pub moved_in_code : (program : ProgramTree) (names : List Name) (config after : Config) (task : ℕ)
    → HasEvent program (configuration names config) task
    → ((step : Step) → event_of program (configuration names config) task ≡ Some step
    → configuration names after ≡ step.config) → task < length after.tasks
moved_in_code program names config after task has leads =
    let found = event_found program (configuration names config) task has in
    there_in_code names after task
    (subst (λ (one : Configuration). task < length one.tasks) (sym (leads found.0 found.1))
    (moved_there program (configuration names config) task found.0 found.1))

-- it is there if the event is made where an event that failed left all as it was
pub moved_in_code_again : (program : ProgramTree) (names : List Name) (config left after : Config) (task : ℕ)
    → left ≡ config → HasEvent program (configuration names config) task
    → ((step : Step) → event_of program (configuration names left) task ≡ Some step
    → configuration names after ≡ step.config) → task < length after.tasks
moved_in_code_again program names config left after task same has leads =
    moved_in_code program names left after task
    (subst (λ one. HasEvent program (configuration names one) task) (sym same) has) leads
