-- The table of events. A task has at most one event in a configuration. It is found in three steps: the input of the
-- task, the output of that, and the change that the task makes with it.
--
--   `local_change`             the change of a rule that is local
--   `other_change`             the change of another rule
--   `run_change`               the change of a task that runs
--   `change_by`                the change that a task makes with an output
--   `change_of`                the change of its event, if it has one
--   `Step`, `event_of`         the event: the next configuration, and the lines that are printed
use Rattle.std.specs.Prelude.{ℕ, true, List, [], ◌∷◌, slice_get, Option, Some, None, option_and_then}
use Rattle.std.specs.Option.{option_map}
use Rattle.abs_program.specs.Control.{Point, program_points}
use Rattle.abs_program.specs.Instructions.{EffectTree, Suspends, Awaits, Returns, Makes, Sends, CallsOther, Gets, effect_of}
use Rattle.abs_values.specs.Results.{Result, Fails, Results, AllGive, OneFails}
use Rattle.abs_tree.specs.Syntax.{ProgramTree}
use Rattle.abs_values.specs.ValueTrees.{ValueTree}
use Rattle.config_state.specs.Configurations.{FrameState, TaskState, Configuration, object_at, fields_of}
use Rattle.config_state.specs.declared.task.State.{State}
use Rattle.config_state.specs.declared.task.State.TheVariants.{Ready, Running, Awaiting}
use Rattle.step_rules.specs.Changes.{Change, kept_change, ended_change, configuration_after}
use Rattle.step_rules.specs.Inputs.{Input, input_of, output_of}
use Rattle.step_rules.specs.LocalRules.{Local, Leaves, Faults, used_of, local_rule}
use Rattle.step_rules.specs.Lookups.{Runner, successor, place_of, class_of, named_value, unit_value}
use Rattle.step_rules.specs.ObjectRules.{mistyped, new_rule, call_rule, give_rule, return_change}
use Rattle.step_rules.specs.WaitRules.{guard_of, take_rule, wake_rule, get_rule, await_rule, suspend_rule}

-- the change of a local rule: the task goes on with what it leaves, or ends with its fault
abbrev pub local_change : Runner → Local → Change
local_change at (Leaves own lines kind) = kept_change at.index at.task at.frame.object own lines kind
local_change at (Faults cause) = ended_change at.task (Fails cause)

-- the change of a statement of another rule. A call by `.` on another receiver than `this` is Mistyped
abbrev pub statement_change : ProgramTree → Configuration → Runner → Point → List ValueTree → EffectTree → Option Change
statement_change program config at point values (Makes mode class target) =
    Some (new_rule program config at (place_of point) (successor point.goes true) mode class target values)
statement_change program config at point values (Sends method target) =
    Some (call_rule program config at (place_of point) (successor point.goes true) method target values)
statement_change program config at point values (CallsOther method slot target) = Some (mistyped at.task)
statement_change program config at point values (Gets slot target) =
    get_rule config at (successor point.goes true) target (named_value at.frame.slots slot)
statement_change program config at point values (Awaits names) =
    Some (await_rule config at (successor point.goes true) (guard_of config at.frame.slots names))
statement_change program config at point values Suspends = Some (suspend_rule at (successor point.goes true))
statement_change program config at point values Returns = Some (return_change config at values)
statement_change program config at point values effect = None

-- the change of another rule: at the end of a body it returns `Unit`
abbrev pub other_change : ProgramTree → Configuration → Runner → List ValueTree → Option ℕ → Option Change
other_change program config at values None =
    Some (give_rule config at.index at.task at.frame at.others (unit_value program.names))
other_change program config at values (Some index) = option_and_then
    (λ point. statement_change program config at point values (effect_of point.statement))
    (slice_get (program_points program.source) index)

abbrev pub with_output : ProgramTree → Configuration → Runner → Results → Option Change
with_output program config at (OneFails cause) = Some (ended_change at.task (Fails cause))
with_output program config at (AllGive values) = other_change program config at values at.frame.next

-- the change of a local rule where there is one, and otherwise that of another rule
abbrev pub local_or_other : ProgramTree → Configuration → Runner → Results → Option Local → Option Change
local_or_other program config at results (Some local) = Some (local_change at local)
local_or_other program config at results None = with_output program config at results

-- the change of a task that runs
abbrev pub run_change : ProgramTree → Configuration → Runner → Results → Option Change
run_change program config at results = local_or_other program config at results
    (local_rule (used_of program (class_of (object_at config at.frame.object))) (at.frame ∷ at.others)
    (fields_of (object_at config at.frame.object)) results)

abbrev pub run_frames : ProgramTree → Configuration → ℕ → TaskState → Results → List FrameState → Option Change
run_frames program config index task results [] = None
run_frames program config index task results (frame ∷ others) =
    run_change program config (record { index = index; task = task; frame = frame; others = others }) results

abbrev pub change_by_state : ProgramTree → Configuration → ℕ → TaskState → Results → State → Option Change
change_by_state program config index task results Ready = take_rule index task (slice_get config.cogs task.cog)
change_by_state program config index task results Awaiting = wake_rule program config index task task.frames
change_by_state program config index task results Running = run_frames program config index task results task.frames

-- a task that has a result makes no change
abbrev pub change_by_outcome : ProgramTree → Configuration → ℕ → TaskState → Results → Option Result → Option Change
change_by_outcome program config index task results (Some result) = None
change_by_outcome program config index task results None =
    change_by_state program config index task results task.state

abbrev pub change_of_task : ProgramTree → Configuration → ℕ → Results → Option TaskState → Option Change
change_of_task program config index results None = None
change_of_task program config index results (Some task) =
    change_by_outcome program config index task results task.outcome

-- the change that the task with an index makes with an output, if it makes one
unfoldable pub change_by : ProgramTree → Configuration → ℕ → Results → Option Change
change_by program config index results = change_of_task program config index results (slice_get config.tasks index)

-- the change of its event, if it has one: that with the output of its input
unfoldable pub change_of : ProgramTree → Configuration → ℕ → Option Change
change_of program config index =
    option_and_then (λ (input : Input). change_by program config index (output_of program input))
    (input_of program config index)

-- what an event leads to: the next configuration, and the lines that are printed
pub record Step : Type 0 where
  pub config : Configuration
  pub lines : List (List ℕ)

-- the step that a change of a task makes
abbrev pub step_by : Configuration → ℕ → Change → Step
step_by config index change = record { config = configuration_after config index change; lines = change.lines }

-- the event of the task with an index, if it has one
unfoldable pub event_of : ProgramTree → Configuration → ℕ → Option Step
event_of program config index = option_map (step_by config index) (change_of program config index)
