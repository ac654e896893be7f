-- Every event is one of these rules of the table. A rule names what it is about, and has the equations by which it
-- came.
--
--   `Rule`                     what the event of the task with an index changes
use Rattle.std.specs.Prelude.{◌≡◌, ℕ, Bool, true, List, [], ◌∷◌, length, slice_get, Option, Some, None}
use Rattle.abs_program.specs.Bodies.{ClassEntryTree}
use Rattle.abs_program.specs.Control.{Point}
use Rattle.abs_program.specs.Instructions.{Skips, Suspends, Awaits, Chooses, Prints, Clears, Stores, Makes, Sends, CallsOwn, Gets, effect_of}
use Rattle.abs_values.specs.Operations.{truth_of}
use Rattle.abs_values.specs.Results.{Gives, Fails}
use Rattle.abs_tree.specs.Syntax.{Name, VariableTree, ProgramTree}
use Rattle.abs_values.specs.ValueTrees.{ValueTree, StringValue, ObjectValue, FutureValue, NullValue}
use Rattle.abs_values.specs.declared.evaluated.Fault.{Fault}
use Rattle.abs_tree.specs.declared.syntax.statement.Mode.{Mode}
use Rattle.abs_program.specs.ProgramBodies.{BodyAt, entry_of_body}
use Rattle.config_state.specs.Bodies.{class_taking}
use Rattle.config_state.specs.Configurations.{ObjectState, FrameState, TaskState, Configuration, object_at, fields_of}
use Rattle.config_state.specs.First.{frame_for}
use Rattle.config_state.specs.declared.cog.Cog.{Cog}
use Rattle.config_state.specs.declared.frame.Target.TheVariants.{Nothing}
use Rattle.config_state.specs.declared.task.State.TheVariants.{Running, Awaiting}
use Rattle.step_rules.specs.Changes.{Change, plain_change, kept_change, ended_change}
use Rattle.step_rules.specs.FaultCauses.{FaultOf}
use Rattle.step_rules.specs.Lookups.{Runner, successor, place_of, callable, named_value}
use Rattle.step_rules.specs.ObjectRules.{goes_on, new_with, call_with}
use Rattle.step_rules.specs.RuleParts.{IsRunner, IsRunningAt, CanTake, IsValueOf}
use Rattle.step_rules.specs.Targets.{target_of}
use Rattle.step_rules.specs.WaitRules.{Unresolved, Resolved, guard_of, suspend_rule}
use Rattle.step_rules.specs.declared.kind.Did.TheVariants as did

-- The rules: what the event of the task with an index changes.
pub data Rule (program : ProgramTree) (config : Configuration) (index : ℕ) (change : Change) : Type 0 where
  Taken : (task : TaskState) (cog : Cog) → slice_get config.tasks index ≡ Some task → task.outcome ≡ None
      → CanTake program config task → slice_get config.cogs task.cog ≡ Some cog → cog.holder ≡ None
      → change ≡ plain_change (record task { state = Running }) (Some index) did.Took
      → Rule program config index change
  Faulted : (at : Runner) (cause : Fault) → at.index ≡ index → IsRunner config at → FaultOf program config at cause
      → change ≡ ended_change at.task (Fails cause) → Rule program config index change
  Skipped : (at : Runner) (point : Point) (values : List ValueTree) → at.index ≡ index
      → IsRunningAt program config at point values → effect_of point.statement ≡ Skips
      → change ≡ goes_on config index at.task Nothing NullValue (successor point.goes true)
      at.frame at.others [] did.Went
      → Rule program config index change
  Stored : (at : Runner) (point : Point) (target : Option VariableTree) (value : ValueTree) → at.index ≡ index
      → IsRunningAt program config at point (value ∷ []) → effect_of point.statement ≡ Stores target
      → change ≡ goes_on config index at.task (target_of target) value (successor point.goes true)
      at.frame at.others [] did.Went
      → Rule program config index change
  Cleared : (at : Runner) (point : Point) (values : List ValueTree) (target : VariableTree) → at.index ≡ index
      → IsRunningAt program config at point values → effect_of point.statement ≡ Clears target
      → change ≡ goes_on config index at.task (target_of (Some target)) NullValue (successor point.goes true)
      at.frame at.others [] did.Went
      → Rule program config index change
  Chosen : (at : Runner) (point : Point) (value : ValueTree) (answer : Bool) → at.index ≡ index
      → IsRunningAt program config at point (value ∷ []) → effect_of point.statement ≡ Chooses
      → truth_of program.names value ≡ Some answer
      → change ≡ goes_on config index at.task Nothing NullValue (successor point.goes answer)
      at.frame at.others [] did.Went
      → Rule program config index change
  Printed : (at : Runner) (point : Point) (string : List ℕ) → at.index ≡ index
      → IsRunningAt program config at point (StringValue string ∷ []) → effect_of point.statement ≡ Prints
      → change ≡ goes_on config index at.task Nothing NullValue (successor point.goes true)
      at.frame at.others (string ∷ []) did.Printed
      → Rule program config index change
  Made : (at : Runner) (point : Point) (values : List ValueTree) (mode : Mode) (class : Name)
      (target : Option VariableTree) (entry : ClassEntryTree) → at.index ≡ index → IsRunningAt program config at point values
      → effect_of point.statement ≡ Makes mode class target → class_taking program class ≡ Some entry
      → change ≡ new_with program config at (place_of point) (successor point.goes true) mode class target values
      (Some entry)
      → Rule program config index change
  Called : (at : Runner) (point : Point) (object : ℕ) (cell : ObjectState) (arguments : List ValueTree) (method : Name)
      (target : Option VariableTree) (body : BodyAt) → at.index ≡ index
      → IsRunningAt program config at point (ObjectValue object ∷ arguments)
      → effect_of point.statement ≡ Sends method target → slice_get config.objects object ≡ Some cell
      → callable program cell.class method (length arguments) ≡ Some body
      → change ≡ call_with config at (place_of point) (successor point.goes true) object cell method target arguments
      (Some body)
      → Rule program config index change
  Pushed : (at : Runner) (point : Point) (object : ObjectState) (arguments : List ValueTree) (method : Name)
      (target : Option VariableTree) (body : BodyAt) → at.index ≡ index → IsRunningAt program config at point arguments
      → effect_of point.statement ≡ CallsOwn method target → object_at config at.frame.object ≡ Some object
      → callable program object.class method (length arguments) ≡ Some body
      → change ≡ kept_change index at.task at.frame.object (record {
        frames = frame_for (entry_of_body body) (Some method) at.frame.object arguments (target_of target)
            ∷ record at.frame { next = successor point.goes true } ∷ at.others;
        fields = fields_of (object_at config at.frame.object);
      }) [] did.Called
      → Rule program config index change
  Got : (at : Runner) (point : Point) (values : List ValueTree) (slot : Option ℕ) (target : Option VariableTree)
      (future : ℕ) (task : TaskState) (value : ValueTree) → at.index ≡ index → IsRunningAt program config at point values
      → effect_of point.statement ≡ Gets slot target
      → named_value at.frame.slots slot ≡ Some (FutureValue future) → slice_get config.tasks future ≡ Some task
      → task.outcome ≡ Some (Gives value)
      → change ≡ goes_on config index at.task (target_of target) value (successor point.goes true)
      at.frame at.others [] did.Went
      → Rule program config index change
  Passed : (at : Runner) (point : Point) (values : List ValueTree) (names : List (Option ℕ)) → at.index ≡ index
      → IsRunningAt program config at point values → effect_of point.statement ≡ Awaits names
      → guard_of config at.frame.slots names ≡ Resolved
      → change ≡ goes_on config index at.task Nothing NullValue (successor point.goes true)
      at.frame at.others [] did.Went
      → Rule program config index change
  Released : (at : Runner) (point : Point) (values : List ValueTree) (names : List (Option ℕ)) → at.index ≡ index
      → IsRunningAt program config at point values → effect_of point.statement ≡ Awaits names
      → guard_of config at.frame.slots names ≡ Unresolved
      → change ≡ plain_change (record at.task { state = Awaiting }) None did.Released → Rule program config index change
  Suspended : (at : Runner) (point : Point) (values : List ValueTree) → at.index ≡ index
      → IsRunningAt program config at point values → effect_of point.statement ≡ Suspends
      → change ≡ suspend_rule at (successor point.goes true) → Rule program config index change
  Gave : (at : Runner) (value : ValueTree) → at.index ≡ index → IsRunner config at → at.others ≡ []
      → IsValueOf program config at value → change ≡ ended_change at.task (Gives value)
      → Rule program config index change
  Popped : (at : Runner) (below : FrameState) (rest : List FrameState) (value : ValueTree) → at.index ≡ index
      → IsRunner config at → at.others ≡ below ∷ rest → IsValueOf program config at value
      → change ≡ goes_on config index at.task at.frame.target value below.next below rest [] did.Went
      → Rule program config index change
