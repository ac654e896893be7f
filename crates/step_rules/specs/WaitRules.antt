-- The rules of the table by which tasks wait, and go on after it.
--
--   `Guard`, `guard_of`            what the futures of a guard allow: a fault, to wait, or to go on
--   `take_rule`, `wake_rule`       take, of a ready and of an awaiting task
--   `get_rule`, `await_rule`       get, await passed and await released
--   `suspend_rule`                 suspend
use Rattle.std.specs.Prelude.{ℕ, List, [], ◌∷◌, slice_get, Option, Some, None, option_and_then}
use Rattle.abs_program.specs.Instructions.{EffectTree, Awaits, effect_of}
use Rattle.abs_values.specs.Results.{Result, Gives, Fails}
use Rattle.abs_tree.specs.Syntax.{VariableTree, ProgramTree}
use Rattle.abs_values.specs.ValueTrees.{ValueTree, NullValue, FutureValue}
use Rattle.abs_values.specs.declared.evaluated.Fault.{Fault}
use Rattle.abs_values.specs.declared.evaluated.Fault.TheVariants as fault
use Rattle.config_state.specs.Configurations.{FrameState, TaskState, Configuration}
use Rattle.config_state.specs.OfProgram.{next_point}
use Rattle.config_state.specs.declared.cog.Cog.{Cog}
use Rattle.config_state.specs.declared.frame.Target.TheVariants.{Nothing}
use Rattle.config_state.specs.declared.task.State.TheVariants.{Ready, Running, Awaiting}
use Rattle.step_rules.specs.Changes.{Change, plain_change, ended_change}
use Rattle.step_rules.specs.Lookups.{Runner, named_value}
use Rattle.step_rules.specs.ObjectRules.{mistyped, null, goes_on}
use Rattle.step_rules.specs.Targets.{target_of}
use Rattle.step_rules.specs.declared.kind.Did.TheVariants as did

-- what the futures that a guard names allow: the first fault among them; else, if one is unresolved, to wait; else to
-- go on
pub data Guard : Type 0 where
  Faulty : (fault : Fault) → Guard
  Unresolved : Guard
  Resolved : Guard

-- a future by the result of its task
abbrev pub guard_by_outcome : Option Result → Guard
guard_by_outcome None = Unresolved
guard_by_outcome (Some result) = Resolved

-- a future by its task; one without a task is none
abbrev pub guard_by_task : Option TaskState → Guard
guard_by_task None = Faulty fault.Mistyped
guard_by_task (Some task) = guard_by_outcome task.outcome

-- a part of a guard by its value: null is the fault Null, and what is no future is Mistyped
abbrev pub guard_by_value : Configuration → Option ValueTree → Guard
guard_by_value config (Some (FutureValue task)) = guard_by_task (slice_get config.tasks task)
guard_by_value config (Some NullValue) = Faulty fault.Null
guard_by_value config value = Faulty fault.Mistyped

-- a part before the rest of a guard: of several faults the first counts
abbrev pub guard_before : Guard → Guard → Guard
guard_before (Faulty cause) others = Faulty cause
guard_before Unresolved (Faulty cause) = Faulty cause
guard_before Unresolved Unresolved = Unresolved
guard_before Unresolved Resolved = Unresolved
guard_before Resolved others = others

-- the parts of a guard that name futures
abbrev pub guard_of : Configuration → List ValueTree → List (Option ℕ) → Guard
guard_of config slots [] = Resolved
guard_of config slots (name ∷ names) =
    guard_before (guard_by_value config (named_value slots name)) (guard_of config slots names)

-- take: a task takes its cog, if that is there and free
abbrev pub take_if_free : ℕ → TaskState → Option ℕ → Option Change
take_if_free index task (Some holder) = None
take_if_free index task None = Some (plain_change (record task { state = Running }) (Some index) did.Took)

abbrev pub take_rule : ℕ → TaskState → Option Cog → Option Change
take_rule index task None = None
take_rule index task (Some cog) = take_if_free index task cog.holder

-- take of an awaiting task: all futures of its next statement, an `await`, must be resolved
abbrev pub take_if_resolved : Configuration → ℕ → TaskState → Guard → Option Change
take_if_resolved config index task (Faulty cause) = None
take_if_resolved config index task Unresolved = None
take_if_resolved config index task Resolved = take_rule index task (slice_get config.cogs task.cog)

abbrev pub wake_by : Configuration → ℕ → TaskState → FrameState → EffectTree → Option Change
wake_by config index task frame (Awaits names) = take_if_resolved config index task (guard_of config frame.slots names)
wake_by config index task frame effect = None

abbrev pub wake_rule : ProgramTree → Configuration → ℕ → TaskState → List FrameState → Option Change
wake_rule program config index task [] = None
wake_rule program config index task (frame ∷ others) = option_and_then
    (λ point. wake_by config index task frame (effect_of point.statement)) (next_point program frame)

-- get: the value of the future goes to the target, and its fault is the task's fault. There is no event while the
-- future is unresolved. Null is the fault Null, and what is no future is Mistyped
abbrev pub get_by_outcome : Configuration → Runner → Option ℕ → Option VariableTree → Option Result → Option Change
get_by_outcome config at next target None = None
get_by_outcome config at next target (Some (Gives value)) =
    Some (goes_on config at.index at.task (target_of target) value next at.frame at.others [] did.Went)
get_by_outcome config at next target (Some (Fails cause)) = Some (ended_change at.task (Fails cause))

abbrev pub get_by_task : Configuration → Runner → Option ℕ → Option VariableTree → Option TaskState → Option Change
get_by_task config at next target None = Some (mistyped at.task)
get_by_task config at next target (Some task) = get_by_outcome config at next target task.outcome

abbrev pub get_rule : Configuration → Runner → Option ℕ → Option VariableTree → Option ValueTree → Option Change
get_rule config at next target (Some (FutureValue task)) =
    get_by_task config at next target (slice_get config.tasks task)
get_rule config at next target (Some NullValue) = Some (null at.task)
get_rule config at next target value = Some (mistyped at.task)

-- await: with a fault among its futures the task ends; with an unresolved one it waits, nobody holds its cog, and the
-- statement stays; else it goes on
abbrev pub await_rule : Configuration → Runner → Option ℕ → Guard → Change
await_rule config at next (Faulty cause) = ended_change at.task (Fails cause)
await_rule config at next Unresolved = plain_change (record at.task { state = Awaiting }) None did.Released
await_rule config at next Resolved =
    goes_on config at.index at.task Nothing NullValue next at.frame at.others [] did.Went

-- suspend: the task is ready, and nobody holds its cog
abbrev pub suspend_rule : Runner → Option ℕ → Change
suspend_rule at next = plain_change
    (record at.task { frames = record at.frame { next = next } ∷ at.others; state = Ready }) None did.Released
