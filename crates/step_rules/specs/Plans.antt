-- What the code plans for an event, as the change that it stands for.
--
--   `at_top`                   what is so of the innermost frame of a task, if it has one
--   `leave_change`             the innermost frame goes, and its value to the frame below
--   `turn_change`              what becomes of the task
--   `plan_of_task`, `plan_change`      the change
--   `planned`, `IsNoFault`     the change of a task that runs; a change is no fault
--   `store_change`, ..         the changes of the rules that need one value
--   `rule_or`, `whole_change`  the change of a statement, whether or not its rule is local
--   `NeedsRoom`                a plan needs room
--   `only`                     the value of a list that has just one
--   `guard_tree`               what the futures of a guard allow, as the code says it
use Rattle.std.specs.Prelude.{◌≡◌, ◌≢◌, ℕ, Bool, true, false, List, [], ◌∷◌, slice_get, Option, Some, None, IsSome, option_and_then, Result, Ok, Err}
use Rattle.std.specs.Option.{option_map}
use Rattle.abs_program.specs.Control.{Goes, Point}
use Rattle.abs_program.specs.Instructions.{EffectTree}
use Rattle.abs_values.specs.Operations.{truth_of}
use Rattle.abs_values.specs.Results.{Fails, result_tree}
use Rattle.abs_tree.specs.Syntax.{Name, ProgramTree}
use Rattle.abs_values.specs.ValueTrees.{ValueTree, StringValue, NullValue}
use Rattle.abs_values.specs.ValueViews.{value_tree}
use Rattle.abs_values.specs.declared.evaluated.Fault.{Fault}
use Rattle.config_state.specs.Configurations.{FrameState, TaskState, Configuration, object_at, fields_of}
use Rattle.config_state.specs.Views.{object_state, frame_state, task_state}
use Rattle.config_state.specs.declared.frame.Frame.{Frame}
use Rattle.config_state.specs.declared.frame.Target.{Target}
use Rattle.config_state.specs.declared.frame.Target.TheVariants.{Nothing}
use Rattle.config_state.specs.declared.task.State.TheVariants.{Ready, Running, Awaiting}
use Rattle.step_rules.specs.Changes.{Change, plain_change, kept_change, ended_change}
use Rattle.step_rules.specs.Events.{local_change, statement_change}
use Rattle.step_rules.specs.LocalRules.{Local, used_of, choose_by, statement_rule}
use Rattle.step_rules.specs.Lookups.{Runner, successor, class_of}
use Rattle.step_rules.specs.ObjectRules.{mistyped, goes_on, give_rule}
use Rattle.step_rules.specs.WaitRules.{Guard, Faulty, Unresolved, Resolved}
use Rattle.step_rules.specs.declared.kind.Did.{Did}
use Rattle.step_rules.specs.declared.kind.Did.TheVariants as did
use Rattle.step_rules.specs.declared.plan.Plan.{Plan}
use Rattle.step_rules.specs.declared.plan.Turn.{Turn}
use Rattle.step_rules.specs.declared.plan.Turn.TheVariants as turn

-- what is so of the innermost of these frames, given the others
abbrev pub at_top : (FrameState → List FrameState → Option Change) → List FrameState → Option Change
at_top change [] = None
at_top change (frame ∷ others) = change frame others

-- the innermost frame goes, and its value to its target in the frame below, if there is one
abbrev pub leave_change : Configuration → ℕ → TaskState → ValueTree → List (List ℕ) → Did → FrameState
    → List FrameState → Option Change
leave_change config index task value lines kind frame [] = None
leave_change config index task value lines kind frame (below ∷ others) =
    Some (goes_on config index task frame.target value below.next below others lines kind)

-- what becomes of the task with an index, which executes these frames; nothing where the frames do not allow it
abbrev pub turn_change : List Name → Configuration → ℕ → TaskState → List FrameState → List (List ℕ) → Did → Turn
    → Option Change
turn_change names config index task frames lines kind turn.Takes =
    Some (record (plain_change (record task { state = Running }) (Some index) kind) { lines = lines })
turn_change names config index task frames lines kind (turn.GoesOn target value next) =
    at_top (λ frame others. Some (goes_on config index task target (value_tree value) next frame others lines kind))
    frames
turn_change names config index task frames lines kind (turn.Enters pushed next) = at_top (λ frame others. Some
    (kept_change index task frame.object (record {
      frames = frame_state names pushed ∷ record frame { next = next } ∷ others;
      fields = fields_of (object_at config frame.object);
    }) lines kind)) frames
turn_change names config index task frames lines kind (turn.Leaves value) =
    at_top (leave_change config index task (value_tree value) lines kind) frames
turn_change names config index task frames lines kind turn.Waits =
    Some (record (plain_change (record task { state = Awaiting }) None kind) { lines = lines })
turn_change names config index task frames lines kind (turn.Yields next) = at_top (λ frame others. Some
    (record (plain_change (record task { frames = record frame { next = next } ∷ others; state = Ready }) None kind) {
      lines = lines;
    })) frames
turn_change names config index task frames lines kind (turn.Ends result) =
    Some (record (ended_change task (result_tree result)) { lines = lines; did = kind })

-- the lines that are printed
abbrev pub plan_lines : Plan → List (List ℕ)
plan_lines plan = lines_of plan.line
  where
    lines_of : Option (List ℕ) → List (List ℕ)
    lines_of None = []
    lines_of (Some line) = line ∷ []

-- the change that a plan stands for, of this task with an index, which executes these frames
unfoldable pub plan_of_task : List Name → Configuration → ℕ → TaskState → List FrameState → Plan → Option Change
plan_of_task names config index task frames plan = option_map (λ (change : Change). record change {
  cog = plan.cog;
  object = option_map (object_state names) plan.object;
  new = option_map (task_state names) plan.task;
}) (turn_change names config index task frames (plan_lines plan) plan.did plan.turn)

-- the change that a plan stands for, of the task with an index
abbrev pub plan_change : List Name → Configuration → ℕ → Plan → Option Change
plan_change names config index plan = option_and_then
    (λ (task : TaskState). plan_of_task names config index task task.frames plan) (slice_get config.tasks index)

-- the change that a plan stands for, of a task that runs
abbrev pub planned : List Name → Configuration → Runner → Plan → Option Change
planned names config at plan = plan_of_task names config at.index at.task (at.frame ∷ at.others) plan

-- The change is no fault.
abbrev pub IsNoFault : Change → Type 0
IsNoFault change = (cause : Fault) → change.task.outcome ≢ Some (Fails cause)

-- the value of a list that has just one
abbrev pub only : List ValueTree → Option ValueTree
only [] = None
only (value ∷ []) = Some value
only (value ∷ other ∷ others) = None

-- what the futures of a guard allow: a fault, or whether all are resolved
abbrev pub guard_tree : Result Bool Fault → Guard
guard_tree (Err cause) = Faulty cause
guard_tree (Ok true) = Resolved
guard_tree (Ok false) = Unresolved

-- the changes of the rules that need one value: without one they are Mistyped
abbrev pub store_change : Configuration → Runner → Target → Option ℕ → Option ValueTree → Change
store_change config at target next None = mistyped at.task
store_change config at target next (Some value) =
    goes_on config at.index at.task target value next at.frame at.others [] did.Went

abbrev pub choose_change : List Name → Configuration → Runner → Goes → Option ValueTree → Change
choose_change names config at goes None = mistyped at.task
choose_change names config at goes (Some value) = local_change at (choose_by (successor goes) at.frame at.others
    (fields_of (object_at config at.frame.object)) (truth_of names value))

abbrev pub print_change : Configuration → Runner → Option ℕ → Option ValueTree → Change
print_change config at next (Some (StringValue string)) =
    goes_on config at.index at.task Nothing NullValue next at.frame at.others (string ∷ []) did.Printed
print_change config at next value = mistyped at.task

abbrev pub give_change : Configuration → Runner → Option ValueTree → Change
give_change config at None = mistyped at.task
give_change config at (Some value) = give_rule config at.index at.task at.frame at.others value

-- the change of a statement, whether or not its rule is local
abbrev pub rule_or : Runner → Option Local → Option Change → Option Change
rule_or at None other = other
rule_or at (Some local) other = Some (local_change at local)

abbrev pub whole_change : ProgramTree → Configuration → Runner → Point → List ValueTree → EffectTree → Option Change
whole_change program config at point values effect = rule_or at
    (statement_rule (used_of program (class_of (object_at config at.frame.object))) at.frame at.others
    (fields_of (object_at config at.frame.object)) point values effect)
    (statement_change program config at point values effect)

-- A plan needs room: for what it makes, for the line that it prints, or for the frame that is pushed.
pub data NeedsRoom (plan : Plan) : Type 0 where
  ForCog : IsSome plan.cog → NeedsRoom plan
  ForObject : IsSome plan.object → NeedsRoom plan
  ForTask : IsSome plan.task → NeedsRoom plan
  ForLine : IsSome plan.line → NeedsRoom plan
  ForFrame : (frame : Frame) (next : Option ℕ) → plan.turn ≡ turn.Enters frame next → NeedsRoom plan
