-- The rules of the table that make objects and tasks, and the return of an outermost frame.
--
--   `mistyped`, `null`         a statement whose values have the wrong sort, or whose receiver or future is null
--   `goes_on`                  the task goes on, and a value goes to a target of its innermost frame
--   `new_rule`                 new
--   `call_rule`                call
--   `give_rule`                return
use Rattle.std.specs.Prelude.{ℕ, List, [], ◌∷◌, length, slice_get, Option, Some, None}
use Rattle.abs_program.specs.Bodies.{ClassEntryTree}
use Rattle.abs_values.specs.Results.{Gives, Fails}
use Rattle.abs_tree.specs.Syntax.{Name, VariableTree, ProgramTree}
use Rattle.abs_values.specs.ValueTrees.{ValueTree, NullValue, ObjectValue, FutureValue}
use Rattle.abs_values.specs.declared.evaluated.Fault.TheVariants as fault
use Rattle.abs_tree.specs.declared.syntax.statement.Mode.{Mode}
use Rattle.abs_program.specs.ProgramBodies.{BodyAt}
use Rattle.config_state.specs.Bodies.{class_taking}
use Rattle.config_state.specs.Configurations.{ObjectState, FrameState, TaskState, Configuration, object_at, fields_of}
use Rattle.config_state.specs.declared.frame.Target.{Target}
use Rattle.step_rules.specs.Changes.{Change, kept_change, ended_change}
use Rattle.step_rules.specs.Lookups.{Runner, callable}
use Rattle.step_rules.specs.NewEntries.{task_for, cog_for, home_of, run_task}
use Rattle.step_rules.specs.Targets.{target_of, put}
use Rattle.step_rules.specs.declared.kind.Did.{Did}
use Rattle.step_rules.specs.declared.kind.Did.TheVariants as did

-- a value is of another sort than the statement needs; a receiver or a future is null
abbrev pub mistyped : TaskState → Change
mistyped task = ended_change task (Fails fault.Mistyped)

abbrev pub null : TaskState → Change
null task = ended_change task (Fails fault.Null)

-- the task goes on: the value goes to a target of this frame, which is the innermost then, and whose next statement is
-- this one; the target can be a field of the frame's object
abbrev pub goes_on : Configuration → ℕ → TaskState → Target → ValueTree → Option ℕ → FrameState → List FrameState
    → List (List ℕ) → Did → Change
goes_on config index task target value next frame others lines kind =
    kept_change index task frame.object
    (put target value next frame others (fields_of (object_at config frame.object))) lines kind

-- new: the object is made, whose fields are the values of the arguments and of the initial values; for `cog` also its
-- cog, and for an active class a task of `run`. The object goes to the target
abbrev pub new_with : ProgramTree → Configuration → Runner → ℕ → Option ℕ → Mode → Name → Option VariableTree
    → List ValueTree → Option ClassEntryTree → Change
new_with program config at place next mode class target values None = mistyped at.task
new_with program config at place next mode class target values (Some entry) = record
    (goes_on config at.index at.task (target_of target) (ObjectValue (length config.objects)) next at.frame
    at.others [] did.Made) {
      cog = cog_for mode at.task.cog place;
      object = Some (record { cog = home_of mode config at.task.cog; place = place; class = class; fields = values });
      new = run_task program (home_of mode config at.task.cog) (length config.objects) class entry.run;
    }

abbrev pub new_rule : ProgramTree → Configuration → Runner → ℕ → Option ℕ → Mode → Name → Option VariableTree
    → List ValueTree → Change
new_rule program config at place next mode class target values =
    new_with program config at place next mode class target values (class_taking program class)

-- call: a task of the method is made in the cog of the object, and its future goes to the target. The receiver must be
-- an object whose class has a method with this name and number of parameters. A null receiver is the fault Null
abbrev pub call_with : Configuration → Runner → ℕ → Option ℕ → ℕ → ObjectState → Name → Option VariableTree
    → List ValueTree → Option BodyAt → Change
call_with config at place next object cell method target arguments None = mistyped at.task
call_with config at place next object cell method target arguments (Some body) = record
    (goes_on config at.index at.task (target_of target) (FutureValue (length config.tasks)) next at.frame at.others
    [] did.Called) {
      new = Some (task_for body cell.cog object method (Some place) arguments);
    }

abbrev pub call_on : ProgramTree → Configuration → Runner → ℕ → Option ℕ → ℕ → Name → Option VariableTree
    → List ValueTree → Option ObjectState → Change
call_on program config at place next object method target arguments None = mistyped at.task
call_on program config at place next object method target arguments (Some cell) =
    call_with config at place next object cell method target arguments
    (callable program cell.class method (length arguments))

abbrev pub call_rule : ProgramTree → Configuration → Runner → ℕ → Option ℕ → Name → Option VariableTree
    → List ValueTree → Change
call_rule program config at place next method target (ObjectValue object ∷ arguments) =
    call_on program config at place next object method target arguments (slice_get config.objects object)
call_rule program config at place next method target (NullValue ∷ arguments) = null at.task
call_rule program config at place next method target values = mistyped at.task

-- return: the value of an inner frame goes to its target in the frame below; that of the outermost frame is the result
-- of the task
abbrev pub give_rule : Configuration → ℕ → TaskState → FrameState → List FrameState → ValueTree → Change
give_rule config index task frame [] value = ended_change task (Gives value)
give_rule config index task frame (below ∷ others) value =
    goes_on config index task frame.target value below.next below others [] did.Went

-- the value of a `return`
abbrev pub return_change : Configuration → Runner → List ValueTree → Change
return_change config at (value ∷ []) = give_rule config at.index at.task at.frame at.others value
return_change config at values = mistyped at.task
