-- How far a replay has come.
--
--   `run_of_none`              before any event a run is in the first configuration, and nothing is printed
--   `replayed_more`            one more event of the history is done
--   `no_step`, `no_task`       a task that has no event, by the answer of the code, and one that is not there
--   `illegal_at`               the history stops being legal at the first event that does not exist
use Rattle.std.proofs.Common.{◌≡◌, ◌≤◌, ◌+◌, ℕ, Bool, false, is_some, List, [], ◌++◌, length, take, drop, slice_get, Option, Some, None, refl, ap, ◌∙◌, arith}
use Rattle.std.proofs.lemmas.List.{length-map, length-take-le}
use Rattle.std.proofs.lemmas.Option.{slice_get_within}
use Rattle.abs_tree.specs.Syntax.{Name, ProgramTree}
use Rattle.config_state.specs.ConfigViews.{configuration}
use Rattle.config_state.specs.Configurations.{Configuration}
use Rattle.config_state.specs.First.{first}
use Rattle.config_state.specs.Views.{task_state}
use Rattle.config_state.specs.declared.config.Config.{Config}
use Rattle.run_history.proofs.RunLemmas.{run_with_event, event_found, no_event_past}
use Rattle.run_history.specs.Replays.{IsFirstIllegal}
use Rattle.run_history.specs.Turns.{HasEvent}
use Rattle.step_rules.specs.Events.{Step, event_of}
use Rattle.step_rules.specs.Runs.{Ran, run_of}
use Rattle.list_facts.proofs.EntryLemmas.{take-found, split-found}

-- before any event a run is in the first configuration, and nothing is printed
pub run_of_none : (program : ProgramTree) (config : Configuration) (lines : List (List ℕ)) → config ≡ first program
    → lines ≡ [] → run_of program [] ≡ Some (record { config = config; lines = lines })
unfolding run_of
run_of_none program config lines is none = cc

-- one more event of the history is done
pub replayed_more : (program : ProgramTree) (history : List ℕ) (index task : ℕ) (ran : Ran) (config : Configuration)
    (lines : List (List ℕ)) → slice_get history index ≡ Some task → run_of program (take index history) ≡ Some ran
    → HasEvent program ran.config task
    → ((step : Step) → event_of program ran.config task ≡ Some step → config ≡ step.config)
    → ((step : Step) → event_of program ran.config task ≡ Some step → lines ≡ ran.lines ++ step.lines)
    → run_of program (take (index + 1) history) ≡ Some (record { config = config; lines = lines })
replayed_more program history index task ran config lines there leads has config_is lines_are =
    let found = event_found program ran.config task has in
    rw (config_is found.0 found.1, lines_are found.0 found.1)
    (ap (run_of program) (take-found history index task there)
    ∙ run_with_event program (take index history) task ran found.0 leads found.1)

-- a history stops being legal at the first event that does not exist
pub illegal_at : (program : ProgramTree) (history : List ℕ) (index task : ℕ) (ran : Ran)
    → slice_get history index ≡ Some task → run_of program (take index history) ≡ Some ran
    → event_of program ran.config task ≡ None → IsFirstIllegal program history index
illegal_at program history index task ran there leads none = record {
  earlier = take index history;
  later = drop (index + 1) history;
  task = task;
  history_is = split-found history index task there;
  index_is = omega (arith, slice_get_within history index task there, length-take-le index history);
  ran = ran;
  leads = leads;
  none = none;
}

-- a task has no event, by the answer of the code
pub no_step : (found : Option Step) (answer : Bool) → answer ≡ is_some found → answer ≡ false → found ≡ None
no_step None answer is none = refl
no_step (Some step) answer is none = absurd cc

-- a task that is not there has no event
pub no_task : (program : ProgramTree) (names : List Name) (config : Config) (task : ℕ) → length config.tasks ≤ task
    → event_of program (configuration names config) task ≡ None
no_task program names config task past = no_event_past program (configuration names config) task
    (omega (arith, past, length-map config.tasks (task_state names)))
