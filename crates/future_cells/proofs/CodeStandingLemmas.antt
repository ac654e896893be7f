-- What a task of the code is by itself.
--
--   `cell_ended`, `cell_waits`, `cell_goes`    by its result, and by the future that it waits for
--   `still_open`                       a task without a result has not ended
--   `same_Waits`                       the futures of two equal standings that wait are equal
--   `waited_there`                     the task of a future that a task waits for is there
--   `cell_home`                        the cog of a task is there
use denote.Struct.Props as logic
use mathlib.Core.Logic.{∥∥₁_elim}
use Rattle.std.proofs.lemmas.Bool.{true≢false}
use Rattle.std.proofs.Common.{[], Bool, ◌≢◌, ◌≡◌, ◌<◌, ℕ, false, true, is_some, List, length, slice_get, Some, None, ◌∙◌, sym, ap, subst}
use Rattle.std.proofs.lemmas.Option.{same_Some, slice_get_within}
use Rattle.std.proofs.Common.{arith}
use Rattle.std.proofs.lemmas.List.{length-map}
use Rattle.abs_tree.specs.Syntax.{Name, ProgramTree}
use Rattle.abs_values.specs.Results.{result_tree}
use Rattle.config_state.specs.ConfigViews.{configuration}
use Rattle.config_state.specs.Configurations.{TaskState, Configuration, IsUnfinished}
use Rattle.config_state.specs.Views.{task_state}
use Rattle.config_state.specs.declared.config.Config.{Config}
use Rattle.config_state.specs.declared.task.TaskCell.{TaskCell}
use Rattle.future_cells.proofs.StandingLemmas.{waited-unfinished}
use Rattle.future_cells.specs.Standings.{IsStanding, HasEnded, IsWaiting, IsGoing}
use Rattle.future_cells.specs.declared.posts.Standing.{Standing}
use Rattle.future_cells.specs.declared.posts.Standing.TheVariants.{Ended, Waits, Goes}
use Rattle.list_facts.proofs.OptionLemmas.{is_some-option_map, option_map-none}
use Rattle.step_rules.specs.Blocked.{WaitsFor}
use Rattle.step_rules.proofs.BlockedLemmas.{task_found}

-- an unfinished task is there
unfinished_there : (config : Configuration) (index : ℕ) → IsUnfinished config index
    → index < length config.tasks
unfinished_there config index unfinished =
    slice_get_within config.tasks index unfinished.task unfinished.there

-- whether a standing is that of a task with a result
abbrev has_ended : Standing → Bool
has_ended Ended = true
has_ended (Waits future) = false
has_ended Goes = false

-- a task without a result has not ended
pub still_open : (program : ProgramTree) (config : Configuration) (task : TaskState) (standing : Standing)
    → IsStanding program config task standing → task.outcome ≡ None → standing ≢ Ended
still_open program config task Ended (HasEnded some) none ended =
    true≢false (sym some ∙ ap is_some none)
still_open program config task (Waits _) (IsWaiting future unfinished waits) none ended =
    true≢false (sym (ap has_ended ended))
still_open program config task Goes (IsGoing unfinished waits_not) none ended =
    true≢false (sym (ap has_ended ended))

module _ (program : ProgramTree) (names : List Name) (config : Config) (index : ℕ) (cell : TaskCell)
    (there : slice_get config.tasks index ≡ Some cell) (state : TaskState)
    (found : slice_get (configuration names config).tasks index ≡ Some state) where
  -- the state of the task is that of the cell
  state_is : task_state names cell ≡ state
  state_is = same_Some (task_state names cell) state (sym (task_found names config index cell there) ∙ found)

  -- a task with a result has ended
  pub cell_ended : is_some cell.outcome ≡ true → IsStanding program (configuration names config) state Ended
  cell_ended some =
      HasEnded (subst (λ (state : TaskState). is_some state.outcome ≡ true) state_is
      (sym (is_some-option_map result_tree cell.outcome) ∙ some))

  -- the task has no result where the cell has none
  no_result : is_some cell.outcome ≡ false → state.outcome ≡ None
  no_result none = subst (λ (state : TaskState). state.outcome ≡ None) state_is (option_map-none result_tree cell.outcome none)

  -- a task that waits for a future
  pub cell_waits : (future : ℕ) → is_some cell.outcome ≡ false
      → WaitsFor program (configuration names config) state future
      → IsStanding program (configuration names config) state (Waits future)
  cell_waits future none waits = IsWaiting future (no_result none) waits

  -- a task that waits for none goes
  pub cell_goes : is_some cell.outcome ≡ false
      → ((future : ℕ) → WaitsFor program (configuration names config) state future → ⊥)
      → IsStanding program (configuration names config) state Goes
  cell_goes none waits_not = IsGoing (no_result none) waits_not

-- the future of a standing that waits
abbrev waited : Standing → ℕ
waited (Waits future) = future
waited Ended = 0
waited Goes = 0

-- the futures of two equal standings that wait are equal
pub same_Waits : (one other : ℕ) → Waits one ≡ Waits other → one ≡ other
same_Waits one other same = ap waited same

-- the task of a future that a task of the code waits for is there
pub waited_there : (program : ProgramTree) (names : List Name) (config : Config) (index : ℕ) (cell : TaskCell)
    (future : ℕ) → slice_get config.tasks index ≡ Some cell
    → ((state : TaskState) → slice_get (configuration names config).tasks index ≡ Some state
    → WaitsFor program (configuration names config) state future) → future < length config.tasks
waited_there program names config index cell future there waits =
    let state = task_state names cell in
    let unfinished = waited-unfinished program (configuration names config) state future
    (waits state (task_found names config index cell there)) in
    omega (arith, unfinished_there (configuration names config) future unfinished, length-map config.tasks (task_state names))

-- the cog of a task of the code is there
pub cell_home : (config : Config) (index : ℕ) (cell : TaskCell) → slice_get config.tasks index ≡ Some cell
    → cell.cog < length config.cogs
cell_home config index cell there =
    ∥∥₁_elim config.well_formed (Prim.hlevel logic.props) (λ formed.
    ((formed []).tasks_formed index (task_state [] cell) (task_found [] config index cell there)).cog_there)
