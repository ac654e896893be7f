-- A plan that is put in place makes the configuration after its change.
--
--   `placed`                   the lists with a plan in place
--   `well_formed-after`        the configuration is well-formed again
use mathlib.Core.Logic.{∥∥₁_map}
use Rattle.std.proofs.Common.{◌≡◌, ℕ, List, map, set, slice_get, Option, Some, None, Result, Ok, Err, OnOk, OnErr, refl, sym, ap, ◌∙◌, subst}
use Rattle.std.proofs.lemmas.List.{map-append, map-set}
use Rattle.std.proofs.lemmas.Option.{same_Some, slice_get-map}
use Rattle.std.specs.Option.{option_map}
use Rattle.abs_tree.specs.Syntax.{Name}
use Rattle.config_state.specs.Configurations.{TaskState, Configuration}
use Rattle.config_state.specs.Views.{object_state, task_state, configuration_of}
use Rattle.config_state.specs.WellFormed.{IsWellFormed}
use Rattle.config_state.specs.declared.cog.Cog.{Cog}
use Rattle.config_state.specs.declared.object.ObjectCell.{ObjectCell}
use Rattle.config_state.specs.declared.task.TaskCell.{TaskCell}
use Rattle.step_rules.proofs.FormedNamesLemmas.{formed_of_names}
use Rattle.step_rules.specs.Changes.{Change, added, with_holder, with_fields, configuration_after}
use Rattle.step_rules.specs.Placing.{IsTurn}
use Rattle.step_rules.specs.Plans.{turn_change, plan_lines, plan_of_task, plan_change}
use Rattle.step_rules.specs.declared.plan.Plan.{Plan}

-- an entry is added before or after others are made of the entries
map-added : {A B : Type 0} (f : A → B) (entry : Option A) (list : List A)
    → map f (added entry list) ≡ added (option_map f entry) (map f list)
map-added f None list = refl
map-added f (Some entry) list = map-append f list _

-- the change of a plan, made of what becomes of the task
abbrev whole : List Name → Plan → Change → Change
whole names plan made = record made {
  cog = plan.cog;
  object = option_map (object_state names) plan.object;
  new = option_map (task_state names) plan.task;
}

module _ (names : List Name) (cogs : List Cog) (objects moved : List ObjectCell) (tasks : List TaskCell) (index : ℕ)
    (plan : Plan) (cell now : TaskCell) (holder : Option ℕ) where
  -- the configuration before the change
  abbrev before : Configuration
  before = configuration_of names cogs objects tasks

  -- What becomes of the task is this change.
  abbrev Turns : Change → Type 0
  Turns made = IsTurn names objects index cell plan.turn made

  -- The lists with the plan in place are the configuration after a change.
  abbrev IsPlaced : Change → Type 0
  IsPlaced change = configuration_of names (added plan.cog (with_holder cogs now.cog holder))
      (added plan.object moved) (added plan.task (set tasks index now)) ≡ configuration_after before index change

  -- by what becomes of the task, the holder and the objects
  placed_by : (made : Change) → holder ≡ made.holder → task_state names now ≡ made.task
      → map (object_state names) moved ≡ with_fields (map (object_state names) objects) made.written
      → IsPlaced (whole names plan made)
  unfolding configuration_after
  placed_by made held moves writes =
      let objects_are = map-added (object_state names) plan.object moved
      ∙ ap (added (option_map (object_state names) plan.object)) writes in
      let tasks_are = map-added (task_state names) plan.task (set tasks index now)
      ∙ ap (added (option_map (task_state names) plan.task))
      (map-set (task_state names) tasks index now ∙ ap (set (map (task_state names) tasks) index) moves) in
      cc (objects_are, tasks_are)

  -- the lists with the plan in place are the configuration after the change that the plan stands for
  pub placed : slice_get tasks index ≡ Some cell → ((made : Change) → Turns made → holder ≡ made.holder)
      → ((made : Change) → Turns made → task_state names now ≡ made.task)
      → ((made : Change) → Turns made
      → map (object_state names) moved ≡ with_fields (map (object_state names) objects) made.written)
      → (change : Change) → plan_change names before index plan ≡ Some change → IsPlaced change
  unfolding plan_of_task
  placed there held moves writes change is =
      by_turn (turn_change names before index task task.frames (plan_lines plan) plan.did plan.turn) refl
      (rw found at is)
    where
      task : TaskState
      task = task_state names cell

      found : slice_get (map (task_state names) tasks) index ≡ Some task
      found = slice_get-map (task_state names) tasks index ∙ ap (option_map (task_state names)) there

      by_turn : (made : Option Change)
          → turn_change names before index task task.frames (plan_lines plan) plan.did plan.turn ≡ made
          → option_map (whole names plan) made ≡ Some change → IsPlaced change
      by_turn None turns is = absurd cc
      by_turn (Some made) turns is =
          let turn : Turns made = record {
            config = before;
            objects_are = refl;
            lines = plan_lines plan;
            kind = plan.did;
            is = turns;
          } in
          subst IsPlaced (same_Some (whole names plan made) change is)
          (placed_by made (held made turn) (moves made turn) (writes made turn))

-- once a plan is in place, the configuration is well-formed, since it is so after the change; it stays so where nothing
-- changed
pub well_formed-after : {T E : Type 0} (result : Result T E) (index : ℕ) (plan : Plan) (cogs cogs_now : List Cog)
    (objects objects_now : List ObjectCell) (tasks tasks_now : List TaskCell)
    → ((names : List Name) × (change : Change)
    × (plan_change names (configuration_of names cogs objects tasks) index plan ≡ Some change)
    × ∥ IsWellFormed (configuration_after (configuration_of names cogs objects tasks) index change) ∥₁)
    → OnOk result ((names : List Name) (change : Change)
    → plan_change names (configuration_of names cogs objects tasks) index plan ≡ Some change
    → configuration_of names cogs_now objects_now tasks_now
    ≡ configuration_after (configuration_of names cogs objects tasks) index change)
    → OnErr result (cogs_now ≡ cogs) → OnErr result (objects_now ≡ objects) → OnErr result (tasks_now ≡ tasks)
    → ∥ ((names : List Name) → IsWellFormed (configuration_of names cogs objects tasks)) ∥₁
    → ∥ ((names : List Name) → IsWellFormed (configuration_of names cogs_now objects_now tasks_now)) ∥₁
well_formed-after (Ok done) index plan cogs cogs_now objects objects_now tasks tasks_now formed placed kept_cogs
    kept_objects kept_tasks before =
    ∥∥₁_map formed.3 (λ well names. formed_of_names formed.0 names cogs_now objects_now tasks_now
    (subst IsWellFormed (sym (placed formed.0 formed.1 formed.2)) well))
well_formed-after (Err error) index plan cogs cogs_now objects objects_now tasks tasks_now formed placed kept_cogs
    kept_objects kept_tasks before = rw (kept_cogs, kept_objects, kept_tasks) before
