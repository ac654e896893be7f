-- Histories with one more event, and which tasks can have events.
--
--   `run_more`, `run_with_event`               the run of a history with one more event
--   `event_found`                              the event of a task that has one
--   `has_event_there`, `no_event_past`         such a task is there, and past the end no task has one
--   `moved_there`                              it is there after its event
--   `last_there`                               the task of the last event of a run is there
--   `there_in_code`                            a task that is there is in the list of the code's tasks
use Rattle.std.proofs.Common.{◌≡◌, ◌<◌, ◌≤◌, ℕ, true, is_some, List, [], ◌∷◌, ◌++◌, length, slice_get, Option, Some, None, refl, sym, ap, ◌∙◌, subst, arith}
use Rattle.std.proofs.lemmas.List.{length-map}
use Rattle.std.proofs.lemmas.List.Sums.{fold-append}
use Rattle.std.proofs.lemmas.Option.{same_Some, slice_get_within}
use Rattle.abs_tree.specs.Syntax.{Name, ProgramTree}
use Rattle.config_state.specs.ConfigViews.{configuration}
use Rattle.config_state.specs.Configurations.{Configuration}
use Rattle.config_state.specs.Views.{task_state}
use Rattle.config_state.specs.declared.config.Config.{Config}
use Rattle.step_rules.proofs.StayLemmas.{change_stays, event_change}
use Rattle.step_rules.specs.Events.{Step, event_of}
use Rattle.step_rules.specs.Runs.{Ran, ran_with, ran_after, start_of, run_of}
use Rattle.run_history.specs.Turns.{HasEvent, last_of}

-- the run of a history with one more event
pub run_more : (program : ProgramTree) (earlier : List ℕ) (task : ℕ) (ran : Ran) → run_of program earlier ≡ Some ran
    → run_of program (earlier ++ task ∷ []) ≡ ran_with ran (event_of program ran.config task)
unfolding run_of
run_more program earlier task ran leads =
    fold-append (ran_after program) (Some (start_of program)) earlier (task ∷ [])
    ∙ ap (λ (now : Option Ran). ran_after program now task) leads

-- the run of a history with one more event that exists
pub run_with_event : (program : ProgramTree) (earlier : List ℕ) (task : ℕ) (ran : Ran) (step : Step)
    → run_of program earlier ≡ Some ran → event_of program ran.config task ≡ Some step
    → run_of program (earlier ++ task ∷ [])
    ≡ Some (record { config = step.config; lines = ran.lines ++ step.lines })
run_with_event program earlier task ran step leads is = run_more program earlier task ran leads ∙ ap (ran_with ran) is

-- a history that has no run has none with one more event
run_after_none : (program : ProgramTree) (earlier : List ℕ) (task : ℕ) → run_of program earlier ≡ None
    → run_of program (earlier ++ task ∷ []) ≡ None
unfolding run_of
run_after_none program earlier task none =
    fold-append (ran_after program) (Some (start_of program)) earlier (task ∷ [])
    ∙ ap (λ (now : Option Ran). ran_after program now task) none

-- the event of a task that has one
pub event_found : (program : ProgramTree) (config : Configuration) (task : ℕ) → HasEvent program config task
    → (step : Step) × (event_of program config task ≡ Some step)
event_found program config task has = by (event_of program config task) refl has
  where
    by : (found : Option Step) → event_of program config task ≡ found → is_some found ≡ true
        → (step : Step) × (event_of program config task ≡ Some step)
    by None is some = absurd cc
    by (Some step) is some = (step, is)

-- a task that has an event is there
pub has_event_there : (program : ProgramTree) (config : Configuration) (task : ℕ) → HasEvent program config task
    → task < length config.tasks
has_event_there program config task has =
    let found = event_found program config task has in
    let change = event_change program config task found.0 found.1 in
    let stays = change_stays program config task change.0 change.1 in
    slice_get_within config.tasks task stays.task stays.there

-- past the end of the tasks there is no event
pub no_event_past : (program : ProgramTree) (config : Configuration) (task : ℕ) → length config.tasks ≤ task
    → event_of program config task ≡ None
no_event_past program config task past = by (event_of program config task) refl
  where
    by : (found : Option Step) → event_of program config task ≡ found → found ≡ None
    by None is = refl
    by (Some step) is = absurd (omega (arith, has_event_there program config task (ap is_some is)))

-- the task of an event is there after it
pub moved_there : (program : ProgramTree) (config : Configuration) (task : ℕ) (step : Step)
    → event_of program config task ≡ Some step → task < length step.config.tasks
moved_there program config task step is =
    let change = event_change program config task step is in
    let stays = change_stays program config task change.0 change.1 in
    slice_get_within step.config.tasks task change.0.task
    (ap (λ (one : Step). slice_get one.config.tasks task) change.2 ∙ stays.moves)

-- the task of the last event is the last of the history
last_splits : (history : List ℕ) (last : ℕ) → last_of history ≡ Some last
    → (earlier : List ℕ) × (history ≡ earlier ++ last ∷ [])
last_splits [] last is = absurd cc
last_splits (task ∷ []) last is = ([], ap (λ (one : ℕ). one ∷ []) (same_Some _ _ is))
last_splits (task ∷ other ∷ others) last is =
    let rest = last_splits (other ∷ others) last is in
    (task ∷ rest.0, ap (λ (all : List ℕ). task ∷ all) rest.1)

-- the task of the last event of a run is there
pub last_there : (program : ProgramTree) (history : List ℕ) (ran : Ran) (last : ℕ) → run_of program history ≡ Some ran
    → last_of history ≡ Some last → last < length ran.config.tasks
last_there program history ran last leads is =
    let split = last_splits history last is in
    by_run split.0 (ap (run_of program) (sym split.1) ∙ leads) (run_of program split.0) refl
  where
    by_event : (before : Ran) (found : Option Step) → event_of program before.config last ≡ found
        → ran_with before found ≡ Some ran → last < length ran.config.tasks
    by_event before None there leads = absurd cc
    by_event before (Some step) there leads =
        subst (λ (one : Ran). last < length one.config.tasks) (same_Some _ _ leads)
        (moved_there program before.config last step there)

    by_run : (earlier : List ℕ) → run_of program (earlier ++ last ∷ []) ≡ Some ran → (found : Option Ran)
        → run_of program earlier ≡ found → last < length ran.config.tasks
    by_run earlier leads None there =
        let none = run_after_none program earlier last there in absurd cc
    by_run earlier leads (Some before) there =
        by_event before (event_of program before.config last) refl
        (sym (run_more program earlier last before there) ∙ leads)

-- a task that is there is in the list of the code's tasks
pub there_in_code : (names : List Name) (config : Config) (task : ℕ)
    → task < length (configuration names config).tasks → task < length config.tasks
there_in_code names config task there = omega (arith, there, length-map config.tasks (task_state names))
