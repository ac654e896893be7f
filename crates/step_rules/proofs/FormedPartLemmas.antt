-- Values, frames and tasks that an event makes are formed.
--
--   `unit-there`, `future-there`                   values whose references are there
--   `fields_after-there`, `put-formed`             fields and frames after a value went to a target
--   `frame_for-formed`, `task_for-formed`          a frame and a task that begin
--   `run_task-formed`                              the task of a new object
--   `home-there`, `cog_for-made`                   the cog of a new object
use Rattle.std.proofs.Common.{◌≡◌, ◌<◌, ◌-◌, ℕ, List, [], codes, length, replicate, Option, Some, None, refl, sym, ap, subst}
use Rattle.std.proofs.lemmas.Option.{same_Some}
use Rattle.abs_values.specs.References.{IsIn, IsInAny}
use Rattle.abs_tree.specs.Syntax.{Name, ProgramTree}
use Rattle.abs_values.specs.ValueTrees.{ValueTree, NullValue, FutureValue}
use Rattle.abs_tree.specs.declared.syntax.statement.Mode.{Mode}
use Rattle.abs_tree.specs.declared.syntax.statement.Mode.TheVariants as mode
use Rattle.abs_program.specs.declared.tables.control.BodyEntry.{BodyEntry}
use Rattle.config_state.proofs.EachLemmas.{Each-none, Each-more, Each-one, Each-set, Each-append, Each-replicate}
use Rattle.config_state.proofs.FirstLemmas.{null-there}
use Rattle.abs_program.specs.ProgramBodies.{BodyAt, entry_of_body}
use Rattle.config_state.specs.Configurations.{FrameState, TaskState, Configuration, Each}
use Rattle.config_state.specs.First.{frame_for}
use Rattle.config_state.specs.WellFormed.{IsThere, ValueIsThere, AreThere, IsFrameFormed, IsTaskFormed}
use Rattle.config_state.specs.declared.cog.Cog.{Cog}
use Rattle.config_state.specs.declared.frame.Target.{Target}
use Rattle.config_state.specs.declared.frame.Target.TheVariants.{Nothing, Local, Field}
use Rattle.step_rules.proofs.FrameLemmas.{run_task_is}
use Rattle.step_rules.specs.Lookups.{unit_value}
use Rattle.step_rules.specs.Targets.{slots_after, fields_after, put}
use Rattle.step_rules.specs.NewEntries.{task_for, cog_for, home_of, run_task}

module _ (config : Configuration) where
  -- `Unit` holds nothing
  pub unit-there : (names : List Name) → ValueIsThere config (unit_value names)
  unfolding IsIn IsInAny
  unit-there names reference inside = absurd inside

  -- a future whose task is there
  pub future-there : (task : ℕ) → task < length config.tasks → ValueIsThere config (FutureValue task)
  unfolding IsIn
  future-there task within reference inside = subst (IsThere config) (sym inside) within

  -- the slots after a value went to a target
  slots_after-there : (target : Target) (value : ValueTree) (slots : List ValueTree) → ValueIsThere config value
      → AreThere config slots → AreThere config (slots_after target value slots)
  slots_after-there Nothing value slots there each = each
  slots_after-there (Local slot) value slots there each = Each-set (ValueIsThere config) slots slot value there each
  slots_after-there (Field field) value slots there each = each

  -- the fields after a value went to a target
  pub fields_after-there : (target : Target) (value : ValueTree) (fields : List ValueTree) → ValueIsThere config value
      → AreThere config fields → AreThere config (fields_after target value fields)
  fields_after-there Nothing value fields there each = each
  fields_after-there (Local slot) value fields there each = each
  fields_after-there (Field field) value fields there each =
      Each-set (ValueIsThere config) fields field value there each

  -- the frames after a value went to a target
  pub put-formed : (target : Target) (value : ValueTree) (next : Option ℕ) (frame : FrameState)
      (others : List FrameState) (fields : List ValueTree) → ValueIsThere config value → IsFrameFormed config frame
      → Each others (λ depth one. IsFrameFormed config one)
      → Each (put target value next frame others fields).frames (λ depth one. IsFrameFormed config one)
  put-formed target value next frame others fields there formed each =
      Each-more _ (record frame { slots = slots_after target value frame.slots; next = next })
      others (record {
        object_there = formed.object_there;
        slots_there = slots_after-there target value frame.slots there formed.slots_there;
      }) each

  -- a frame at the start of a body, whose arguments are there
  pub frame_for-formed : (body : BodyEntry) (method : Option Name) (object : Option ℕ) (arguments : List ValueTree)
      (target : Target) → ((at : ℕ) → object ≡ Some at → at < length config.objects) → AreThere config arguments
      → IsFrameFormed config (frame_for body method object arguments target)
  frame_for-formed body method object arguments target within there = record {
    object_there = within;
    slots_there = Each-append (ValueIsThere config) arguments (replicate (body.slots - body.params) NullValue) there
        (Each-replicate (ValueIsThere config) (body.slots - body.params) NullValue (null-there config));
  }

  -- a new task, whose cog, object and arguments are there
  pub task_for-formed : (place : ℕ) (body : BodyAt) (cog object : ℕ) (method : Name) (call : Option ℕ)
      (arguments : List ValueTree) → cog < length config.cogs → object < length config.objects
      → AreThere config arguments → IsTaskFormed config place (task_for body cog object method call arguments)
  task_for-formed place body cog object method call arguments cog_within object_within there =
      let within : (at : ℕ) → Some object ≡ Some at → at < length config.objects =
      λ at is. subst (λ (found : ℕ). found < length config.objects) (same_Some object at is) object_within in
      record {
        cog_there = cog_within;
        object_there = within;
        frames_formed = Each-one _ (frame_for (entry_of_body body) (Some method) (Some object) arguments Nothing)
            (frame_for-formed (entry_of_body body) (Some method) (Some object) arguments Nothing within there);
        result_there = λ value is. absurd cc;
        ended = λ result is. absurd cc;
        unfinished = λ is none. absurd cc;
        holds_cog = λ runs. absurd cc;
      }

  -- a task of the method `run` of a new object
  pub run_task-formed : (program : ProgramTree) (cog object : ℕ) (class : Name) (run : Option ℕ) (place : ℕ)
      (task : TaskState) → cog < length config.cogs → object < length config.objects
      → run_task program cog object class run ≡ Some task → IsTaskFormed config place task
  run_task-formed program cog object class run place task cog_within object_within is =
      let runs = run_task_is program cog object class run task is in
      subst (IsTaskFormed config place) runs.4
      (task_for-formed place runs.1 cog object (codes "run") None [] cog_within object_within (Each-none _))

-- the cog of an object that a `new` makes is there: it is the task's, or it is made
pub home-there : (made : Mode) (config : Configuration) (cog place : ℕ) (after : Configuration)
    → cog < length after.cogs
    → ((entry : Cog) → cog_for made cog place ≡ Some entry → length config.cogs < length after.cogs)
    → home_of made config cog < length after.cogs
home-there mode.Cog config cog place after old new = new _ refl
home-there mode.Plain config cog place after old new = old
home-there (mode.Local at) config cog place after old new = old

-- a cog that a `new` makes has no holder, and its parent is the cog of the task
pub cog_for-made : (made : Mode) (cog place : ℕ) (entry : Cog) → cog_for made cog place ≡ Some entry
    → (entry.holder ≡ None) × (entry.parent ≡ Some cog)
cog_for-made mode.Cog cog place entry is =
    let same = same_Some _ entry is in
    (sym (ap (λ (made : Cog). made.holder) same), sym (ap (λ (made : Cog). made.parent) same))
cog_for-made mode.Plain cog place entry is = absurd cc
cog_for-made (mode.Local at) cog place entry is = absurd cc
