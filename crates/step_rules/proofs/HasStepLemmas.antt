-- What the code answers: a task has an event where it has no result, nobody else holds its cog, and it waits for nothing.
--
--   `ended_step`               a task with a result has no event
--   `held_step`                one whose cog another task holds has none
--   `free_step`                another one has one if it waits for nothing
use mathlib.Core.Logic.{∥∥₁_elim}
use Rattle.std.proofs.Common.{◌≡◌, ◌↔◌, ℕ, Bool, true, false, not, is_some, MatchBool, List, slice_get, Option, Some, None, IfSome, IfNone, option_map, refl, sym, ap}
use Rattle.std.proofs.Math.Bool.{Bool-set}
use Rattle.abs_values.specs.Results.{result_tree}
use Rattle.abs_tree.specs.Syntax.{Name, ProgramTree}
use Rattle.abs_values.specs.declared.evaluated.Evaluated.{Evaluated}
use Rattle.config_state.specs.ConfigViews.{configuration}
use Rattle.config_state.specs.Configurations.{TaskState}
use Rattle.config_state.specs.OfProgram.{IsConfigOf}
use Rattle.config_state.specs.Views.{task_state}
use Rattle.config_state.specs.declared.config.Config.{Config}
use Rattle.config_state.specs.declared.task.TaskCell.{TaskCell}
use Rattle.step_rules.proofs.BlockedLemmas.{task_found}
use Rattle.step_rules.proofs.CauseLemmas.{ended_has_none}
use Rattle.step_rules.proofs.WaitLemmas.{event_unless_waits}
use Rattle.step_rules.specs.Blocked.{IsFreeFor, WaitsFor}
use Rattle.step_rules.specs.Events.{event_of}
use Rattle.list_facts.proofs.OptionLemmas.{option_map-none}

-- an answer that is true exactly where there is something
answer_some : {A B : Type 0} (answer : Bool) (found : Option A) → (is_some found ≡ true) ↔ B
    → MatchBool answer B (B → ⊥) → answer ≡ is_some found
answer_some true found iff is = sym (iff.1 is)
answer_some false None iff not_so = refl
answer_some false (Some entry) iff not_so = absurd (not_so (iff.0 refl))

-- with a result of the code a task has one
pub some_outcome : (outcome : Option Evaluated) → is_some outcome ≡ true
    → is_some (option_map result_tree outcome) ≡ true
some_outcome None is = absurd cc
some_outcome (Some result) is = refl

module _ (program : ProgramTree) (names : List Name) (config : Config) (index : ℕ) (cell : TaskCell)
    (there : slice_get config.tasks index ≡ Some cell) where
  -- a task with a result has no event
  pub ended_step : is_some cell.outcome ≡ true → false ≡ is_some (event_of program (configuration names config) index)
  ended_step ended = sym (ap is_some (ended_has_none program (configuration names config) index
      (task_state names cell) (task_found names config index cell there) (some_outcome cell.outcome ended)))

  -- the task waits for nothing, and nobody else holds its cog
  abbrev IsFreeToGo : Type 0
  IsFreeToGo =
      ((future : ℕ) → WaitsFor program (configuration names config) (task_state names cell) future → ⊥)
      × IsFreeFor (configuration names config) cell.cog index

  -- a task without a result has an event exactly where it is free to go
  open_step : ∥ IsConfigOf program (configuration names config) ∥₁ → is_some cell.outcome ≡ false
      → (answer : Bool) → MatchBool answer IsFreeToGo (IsFreeToGo → ⊥)
      → answer ≡ is_some (event_of program (configuration names config) index)
  open_step of_program still answer is =
      ∥∥₁_elim config.well_formed (Bool-set _ _) (λ formed. ∥∥₁_elim of_program (Bool-set _ _) (λ whole.
      answer_some answer _ (event_unless_waits program (configuration names config) index (task_state names cell)
      (formed names) whole (task_found names config index cell there)
      (option_map-none result_tree cell.outcome still)) is))

  -- a task whose cog another one holds has no event
  pub held_step : ∥ IsConfigOf program (configuration names config) ∥₁ → is_some cell.outcome ≡ false
      → (IsFreeFor (configuration names config) cell.cog index → ⊥)
      → false ≡ is_some (event_of program (configuration names config) index)
  held_step of_program still held = open_step of_program still false (λ both. held both.1)

  -- a task without a result whose cog nobody else holds has an event if it waits for nothing
  pub free_step : ∥ IsConfigOf program (configuration names config) ∥₁ → is_some cell.outcome ≡ false
      → IsFreeFor (configuration names config) cell.cog index → (answer : Bool) (waited : Option ℕ)
      → is_some waited ≡ not answer
      → IfSome waited (λ future. (state : TaskState)
      → slice_get (configuration names config).tasks index ≡ Some state
      → WaitsFor program (configuration names config) state future)
      → IfNone waited ((state : TaskState) → slice_get (configuration names config).tasks index ≡ Some state
      → (future : ℕ) → WaitsFor program (configuration names config) state future → ⊥)
      → answer ≡ is_some (event_of program (configuration names config) index)
  free_step of_program still free true None is some none =
      open_step of_program still true (none _ (task_found names config index cell there), free)
  free_step of_program still free false (Some future) is some none = open_step of_program still false
      (λ both. both.0 future (some _ (task_found names config index cell there)))
  free_step of_program still free true (Some future) is some none = absurd cc
  free_step of_program still free false None is some none = absurd cc
