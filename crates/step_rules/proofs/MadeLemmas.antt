-- The plans of the rules that make objects and tasks are the changes of these rules.
--
--   `goes_planned`             a plan by which a value goes to a target
--   `made`, `called`           what the code makes for `new` and for a call is the change of the rule
use Rattle.std.proofs.Common.{◌≡◌, ℕ, List, [], length, slice_get, Option, Some, None, option_map, refl, sym}
use Rattle.std.proofs.lemmas.Option.{same_Some}
use Rattle.abs_program.specs.Bodies.{ClassEntryTree}
use Rattle.abs_tree.specs.Syntax.{Name, VariableTree, ProgramTree}
use Rattle.abs_values.specs.ValueTrees.{ValueTree, ObjectValue, FutureValue}
use Rattle.abs_values.specs.ValueViews.{value_tree}
use Rattle.abs_tree.specs.declared.syntax.statement.Mode.{Mode}
use Rattle.abs_program.specs.declared.tables.control.BodyEntry.{BodyEntry}
use Rattle.abs_values.specs.declared.value.Value.{Value}
use Rattle.abs_program.specs.ProgramBodies.{BodyAt, entry_of_body}
use Rattle.config_state.specs.Bodies.{class_taking}
use Rattle.config_state.specs.Configurations.{ObjectState, TaskState, Configuration}
use Rattle.config_state.specs.Views.{object_state, task_state}
use Rattle.config_state.specs.declared.cog.Cog.{Cog}
use Rattle.config_state.specs.declared.frame.Target.{Target}
use Rattle.config_state.specs.declared.object.ObjectCell.{ObjectCell}
use Rattle.config_state.specs.declared.task.TaskCell.{TaskCell}
use Rattle.step_rules.specs.Lookups.{Runner, callable}
use Rattle.step_rules.specs.NewEntries.{task_for, cog_for, home_of, run_task}
use Rattle.step_rules.specs.ObjectRules.{goes_on, new_rule, call_with, call_on}
use Rattle.step_rules.specs.Plans.{planned, plan_of_task}
use Rattle.step_rules.specs.Targets.{target_of}
use Rattle.step_rules.specs.declared.kind.Did.{Did}
use Rattle.step_rules.specs.declared.kind.Did.TheVariants as did
use Rattle.step_rules.specs.declared.plan.Turn.TheVariants as turn

-- A plan by which a value goes to a target, with what is made.
pub goes_planned : (names : List Name) (config : Configuration) (at : Runner) (target : Target) (value : Value)
    (next : Option ℕ) (cog : Option Cog) (object : Option ObjectCell) (task : Option TaskCell) (kind : Did)
    → planned names config at (record {
      turn = turn.GoesOn target value next;
      cog = cog;
      object = object;
      task = task;
      line = None;
      did = kind;
    }) ≡ Some (record
    (goes_on config at.index at.task target (value_tree value) next at.frame at.others [] kind) {
      cog = cog;
      object = option_map (object_state names) object;
      new = option_map (task_state names) task;
    })
unfolding plan_of_task
goes_planned names config at target value next cog object task kind = refl

module _ (program : ProgramTree) (config : Configuration) (at : Runner) where
  -- What is made for `new`, where there is the class.
  pub made : (place : ℕ) (next : Option ℕ) (mode : Mode) (class : Name) (target : Option VariableTree)
      (values : List ValueTree) (entry : ClassEntryTree) (goal : Target) (object : ℕ) (after : Option ℕ) (home : ℕ)
      (cog : Option Cog) (new : Option TaskState) → class_taking program class ≡ Some entry
      → goal ≡ target_of target → object ≡ length config.objects → after ≡ next
      → home ≡ home_of mode config at.task.cog → cog ≡ cog_for mode at.task.cog place
      → new ≡ run_task program home object class entry.run
      → record (goes_on config at.index at.task goal (ObjectValue object) after at.frame at.others [] did.Made) {
        cog = cog;
        object = Some (record { cog = home; place = place; class = class; fields = values });
        new = new;
      } ≡ new_rule program config at place next mode class target values
  made place next mode class target values entry goal object after home cog new there goal_is object_is after_is
      home_is cog_is new_is = rw (there, new_is, goal_is, object_is, after_is, home_is, cog_is) refl

  -- What is made for a call, where there is the object and its class has the method.
  pub called : (place : ℕ) (next : Option ℕ) (object : ℕ) (cell : ObjectState) (method : Name)
      (target : Option VariableTree) (arguments : List ValueTree) (entry : BodyEntry) (goal : Target) (future : ℕ)
      (after : Option ℕ) (new : TaskState) → slice_get config.objects object ≡ Some cell
      → Some entry ≡ option_map entry_of_body (callable program cell.class method (length arguments))
      → goal ≡ target_of target → future ≡ length config.tasks → after ≡ next
      → ((body : BodyAt) → entry_of_body body ≡ entry
      → new ≡ task_for body cell.cog object method (Some place) arguments)
      → record (goes_on config at.index at.task goal (FutureValue future) after at.frame at.others [] did.Called) {
        new = Some new;
      } ≡ call_on program config at place next object method target arguments (slice_get config.objects object)
  called place next object cell method target arguments entry goal future after new there found goal_is future_is
      after_is new_is =
      rw (there, goal_is, future_is, after_is) (by (callable program cell.class method (length arguments)) found)
    where
      by : (body : Option BodyAt) → Some entry ≡ option_map entry_of_body body
          → record (goes_on config at.index at.task (target_of target) (FutureValue (length config.tasks)) next at.frame
          at.others [] did.Called) {
            new = Some new;
          } ≡ call_with config at place next object cell method target arguments body
      by None found = absurd cc
      by (Some body) found = rw (new_is body (same_Some _ _ (sym found))) refl
