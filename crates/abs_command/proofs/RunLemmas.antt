-- Histories that are recorded event by event.
--
--   `IsNext-has_event`, `IsNext-there`     the task whose event comes next has an event, and is in the code's list
--   `stands_reserved`          a ready set with more room stands for the same configuration
--   `moved_in_set`             it can follow an event that was made
--   `last_of-more`             the last task of a history with one more event
--   `in_turn_none`, `in_turn_more`     an empty history is in turn, and one with one more event that comes next
--   `begins_first`             where no event was made, the configuration is the first one
--   `next_of_run`              the task that is named is next
--   `ran_more`                 where one more event leads
--   `ends_done`, `ends_open`   how a run ended, by whether every task has a result
--   `run_ended`                what is returned for a run that ended
use mathlib.Core.Logic.{∥∥₁_map₂}
use Rattle.std.proofs.Common.{◌≡◌, ◌<◌, ◌≤◌, ◌⊎◌, inl, inr, ⊎_elim, ℕ, Bool, true, false, MatchBool, List, [], ◌∷◌, ◌++◌, length, Option, Some, None, refl, sym, ap, ◌∙◌, subst}
use Rattle.std.proofs.lemmas.Option.{same_Some}
use Rattle.abs_tree.specs.Syntax.{Name, ProgramTree}
use Rattle.config_state.specs.ConfigViews.{configuration}
use Rattle.config_state.specs.Configurations.{Configuration}
use Rattle.config_state.specs.First.{first}
use Rattle.config_state.specs.declared.config.Config.{Config}
use Rattle.future_cells.specs.Ready.{KeptReady}
use Rattle.future_cells.specs.Standings.{StandsFor, tasks_with_event}
use Rattle.future_cells.proofs.StepLemmas.{moved_by_event, tasks_listed}
use Rattle.future_cells.specs.TaskEvents.{HasMoved}
use Rattle.run_history.proofs.RunLemmas.{run_with_event, event_found, has_event_there, there_in_code}
use Rattle.run_history.specs.Recorded.{Recorded}
use Rattle.run_history.specs.Turns.{HasEvent, IsNext, Begins, Continues, Follows, last_of, IsInTurn}
use Rattle.step_rules.specs.Changes.{Change}
use Rattle.step_rules.specs.Events.{Step, change_of, event_of}
use Rattle.step_rules.specs.declared.kind.Did.{Did}
use Rattle.step_rules.specs.Runs.{Ran, run_of, IsDone, IsOpen, EndsAs}
use Rattle.step_rules.specs.declared.kind.End.{End}
use Rattle.step_rules.specs.declared.kind.End.TheVariants.{Done}
use Rattle.abs_command.specs.Machine.{IsRun}
use Rattle.abs_command.specs.declared.run.Ran as machine

-- the task whose event comes next has an event
pub IsNext-has_event : (program : ProgramTree) (config : Configuration) (task : ℕ) (last : Option ℕ)
    → IsNext program config task last → HasEvent program config task
IsNext-has_event program config task None (Begins is has) = has
IsNext-has_event program config task (Some last) (Continues _ is goes) =
    subst (HasEvent program config) (sym is) goes.has_event
IsNext-has_event program config task (Some last) (Follows _ stops turn) = turn.goes

-- and it is in the list of the code's tasks
pub IsNext-there : (program : ProgramTree) (names : List Name) (config : Config) (task : ℕ) (last : Option ℕ)
    → IsNext program (configuration names config) task last → task < length config.tasks
IsNext-there program names config task last next =
    there_in_code names config task (has_event_there program (configuration names config) task
    (IsNext-has_event program (configuration names config) task last next))

-- a ready set with more room stands for the same configuration
stands_reserved : (program : ProgramTree) (config : Configuration) (ready roomy : KeptReady)
    → roomy ≡ record ready { spare = roomy.spare } → StandsFor program config ready → StandsFor program config roomy
stands_reserved program config ready roomy rest stood = subst (StandsFor program config) (sym rest) (record {
  tasks_are = stood.tasks_are;
  post_for_each = stood.post_for_each;
  posts_are = stood.posts_are;
  holders_are = stood.holders_are;
})

-- a ready set that stood for the configuration before the event, and for which room was made since, can follow it
pub moved_in_set : (program : ProgramTree) (names : List Name) (config after : Config) (task : ℕ) (did : Did)
    (ready roomy : KeptReady) → ∥ StandsFor program (configuration names config) ready ∥₁
    → roomy ≡ record ready { spare = roomy.spare } → HasEvent program (configuration names config) task
    → ((step : Step) → event_of program (configuration names config) task ≡ Some step
    → configuration names after ≡ step.config)
    → ((change : Change) → change_of program (configuration names config) task ≡ Some change → did ≡ change.did)
    → ∥ HasMoved program (configuration names after) task did roomy ∥₁
moved_in_set program names config after task did ready roomy stood rest has config_is kind_is =
    ∥∥₁_map₂ config.well_formed stood (λ formed stands.
    moved_by_event program (configuration names config) (configuration names after) task did roomy (formed names)
    (stands_reserved program (configuration names config) ready roomy rest stands) has config_is kind_is)

-- one more event is the last one
pub last_of-more : (history : List ℕ) (task : ℕ) → last_of (history ++ task ∷ []) ≡ Some task
last_of-more [] task = refl
last_of-more (first ∷ []) task = refl
last_of-more (first ∷ second ∷ others) task = last_of-more (second ∷ others) task

-- where a history with one more event is split before an event, that is an event of the history, or the one more
split_more : (history : List ℕ) (task : ℕ) (earlier later : List ℕ) (other : ℕ)
    → history ++ task ∷ [] ≡ earlier ++ other ∷ later
    → ((rest : List ℕ) × (history ≡ earlier ++ other ∷ rest)) ⊎ ((history ≡ earlier) × (task ≡ other))
split_more [] task [] later other is = inr (refl, cc)
split_more [] task (first ∷ []) later other is = absurd cc
split_more [] task (first ∷ second ∷ others) later other is = absurd cc
split_more (own ∷ history) task [] later other is = inl (history, cc)
split_more (own ∷ history) task (first ∷ earlier) later other is =
    ⊎_elim (λ early. inl (early.0, with_first early.1)) (λ now. inr (with_first now.0, now.1))
    (split_more history task earlier later other cc)
  where
    with_first : {one two : List ℕ} → one ≡ two → own ∷ one ≡ first ∷ two
    with_first same = cc

module _ (program : ProgramTree) where
  -- an empty history is in turn
  pub in_turn_none : IsInTurn program []
  in_turn_none [] later task is = absurd cc
  in_turn_none (first ∷ earlier) later task is = absurd cc

  -- a history in turn with one more event that comes next is in turn
  pub in_turn_more : (history : List ℕ) (task : ℕ) (ran : Ran) → IsInTurn program history
      → run_of program history ≡ Some ran → IsNext program ran.config task (last_of history)
      → IsInTurn program (history ++ task ∷ [])
  in_turn_more history task ran turn leads next earlier later other is =
      ⊎_elim (λ early. turn earlier early.0 other early.1) last (split_more history task earlier later other is)
    where
      last : (history ≡ earlier) × (task ≡ other)
          → (before : Ran) × (run_of program earlier ≡ Some before)
          × IsNext program before.config other (last_of earlier)
      last same = (
        ran,
        sym (ap (run_of program) same.0) ∙ leads,
        subst (λ (one : ℕ). IsNext program ran.config one (last_of earlier)) same.1
            (subst (λ (known : List ℕ). IsNext program ran.config task (last_of known)) same.0 next),
      )

  -- where no event was made, the configuration is the first one
  begins_first : (history : List ℕ) (ran : Ran) → run_of program history ≡ Some ran → last_of history ≡ None
      → ran.config ≡ first program
  unfolding run_of
  begins_first [] ran leads none = sym (ap (λ (one : Ran). one.config) (same_Some _ _ leads))
  begins_first (task ∷ []) ran leads none = absurd cc
  begins_first (task ∷ second ∷ others) ran leads none = absurd (some_last second others none)
    where
      some_last : (one : ℕ) (others : List ℕ) → last_of (one ∷ others) ≡ None → ⊥
      some_last one [] none = cc
      some_last one (second ∷ others) none = some_last second others none

  -- the task that is named is next, for this program
  pub next_of_run : (names : List Name) (config : Config) (ready : KeptReady) (history : List ℕ)
      (lines : List (List ℕ)) (last : Option ℕ) (task : ℕ)
      → ((other : ProgramTree) (known : List Name)
      → ready.tasks ≡ tasks_with_event other (configuration known config)
      → (last ≡ None → configuration known config ≡ first other)
      → IsNext other (configuration known config) task last)
      → run_of program history ≡ Some (record { config = configuration names config; lines = lines })
      → ∥ StandsFor program (configuration names config) ready ∥₁ → last ≡ last_of history
      → IsNext program (configuration names config) task last
  next_of_run names config ready history lines last task named leads stands last_is =
      named program names (tasks_listed program (configuration names config) ready stands)
      (λ none. begins_first history (record { config = configuration names config; lines = lines }) leads
      (sym last_is ∙ none))

  -- one more event leads to the configuration that it makes, and prints its lines
  pub ran_more : (history : List ℕ) (task : ℕ) (ran : Ran) (config : Configuration) (lines : List (List ℕ))
      → run_of program history ≡ Some ran → HasEvent program ran.config task
      → ((step : Step) → event_of program ran.config task ≡ Some step → config ≡ step.config)
      → ((step : Step) → event_of program ran.config task ≡ Some step → lines ≡ ran.lines ++ step.lines)
      → run_of program (history ++ task ∷ []) ≡ Some (record { config = config; lines = lines })
  ran_more history task ran config lines leads has config_is lines_are =
      let found = event_found program ran.config task has in
      rw (config_is found.0 found.1, lines_are found.0 found.1)
      (run_with_event program history task ran found.0 leads found.1)

  module _ (limit : ℕ) (history : List ℕ) (config : Configuration) (end otherwise : End) (answer : Bool)
      (known : MatchBool answer (IsDone config) (IsOpen config)) where
    -- a run is done where every task has a result
    pub ends_done : answer ≡ true → end ≡ Done → length history ≤ limit → EndsAs program limit history config end
    ends_done is end_is few =
        subst (EndsAs program limit history config) (sym end_is)
        (few, subst (λ (one : Bool). MatchBool one (IsDone config) (IsOpen config)) is known)

    -- and otherwise it ended as is said
    pub ends_open : answer ≡ false → end ≡ otherwise
        → (IsOpen config → EndsAs program limit history config otherwise) → EndsAs program limit history config end
    ends_open is end_is ends =
        subst (EndsAs program limit history config) (sym end_is)
        (ends (subst (λ (one : Bool). MatchBool one (IsDone config) (IsOpen config)) is known))

  -- what is returned for a run that ended
  pub run_ended : (names : List Name) (limit : ℕ) (config : Config) (history : Recorded) (lines : List (List ℕ))
      (ran : machine.Ran)
      → run_of program history.tasks ≡ Some (record { config = configuration names config; lines = lines })
      → IsInTurn program history.tasks → length history.tasks ≤ limit → ran.config ≡ config
      → ran.history ≡ history → ran.lines ≡ lines
      → EndsAs program limit history.tasks (configuration names config) ran.end → IsRun names program limit ran
  run_ended names limit config history lines ran legal turn few config_is history_is lines_are ends = record {
    legal = cc;
    in_turn = subst (λ (known : Recorded). IsInTurn program known.tasks) (sym history_is) turn;
    few = subst (λ (known : Recorded). length known.tasks ≤ limit) (sym history_is) few;
    ends = subst (λ (known : Recorded). EndsAs program limit known.tasks (configuration names ran.config) ran.end)
        (sym history_is)
        (subst (λ (one : Config). EndsAs program limit history.tasks (configuration names one) ran.end)
        (sym config_is) ends);
  }
