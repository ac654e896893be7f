-- The first wait of a task, and the circle to which first waits lead.
--
--   `awaited_slots`, `got_slots`   the slots that a statement names, and those that a `get` does
--   `first_unfinished`             the first unfinished task whose future is in some slots
--   `named_first`                  that of the slots that the next statement of a task names
--   `first_wait`                   the first task for which a task waits
--   `in_steps`, `after_waits`      where a function leads in so many steps; where first waits do
--   `IsLeastUnfinished`            a task is the least one of those that are unfinished
--   `IsCircleOfFirstWaits`         the circle to which first waits lead from there
use Rattle.std.specs.Prelude.{◌≡◌, ◌≤◌, ℕ, zero, suc, nat_eq, List, [], ◌∷◌, slice_get, Option, Some, None, option_and_then, if◌then◌else◌, All}
use Rattle.abs_program.specs.Control.{Point}
use Rattle.abs_program.specs.Instructions.{EffectTree, Awaits, Gets, effect_of}
use Rattle.abs_tree.specs.Syntax.{ProgramTree}
use Rattle.abs_values.specs.Results.{Result}
use Rattle.abs_values.specs.ValueTrees.{ValueTree, FutureValue}
use Rattle.config_state.specs.Configurations.{FrameState, TaskState, Configuration, IsUnfinished}
use Rattle.config_state.specs.OfProgram.{next_point}
use Rattle.config_state.specs.declared.cog.Cog.{Cog}
use Rattle.config_state.specs.declared.task.State.{State}
use Rattle.config_state.specs.declared.task.State.TheVariants.{Ready, Running, Awaiting}
use Rattle.step_rules.specs.Lookups.{named_value}
use Rattle.wait_graph.specs.Waits.{GoesRound}

-- the first of two answers
abbrev pub or_else : Option ℕ → Option ℕ → Option ℕ
or_else None other = other
or_else (Some found) other = Some found

-- the slots whose futures a statement waits for
abbrev pub awaited_slots : EffectTree → List (Option ℕ)
awaited_slots (Gets slot target) = slot ∷ []
awaited_slots (Awaits slots) = slots
awaited_slots effect = []

-- that of a `get`
abbrev pub got_slots : EffectTree → List (Option ℕ)
got_slots (Gets slot target) = slot ∷ []
got_slots effect = []

-- a task, if it has no result
abbrev pub if_unfinished : ℕ → Option Result → Option ℕ
if_unfinished index None = Some index
if_unfinished index (Some result) = None

abbrev pub unfinished_by : ℕ → Option TaskState → Option ℕ
unfinished_by index None = None
unfinished_by index (Some task) = if_unfinished index task.outcome

-- the task of a value that is its future, if it is unfinished
abbrev pub unfinished_in : Configuration → Option ValueTree → Option ℕ
unfinished_in config (Some (FutureValue index)) = unfinished_by index (slice_get config.tasks index)
unfinished_in config value = None

-- the first unfinished task whose future is in one of these slots
abbrev pub first_unfinished : Configuration → List ValueTree → List (Option ℕ) → Option ℕ
first_unfinished config slots [] = None
first_unfinished config slots (name ∷ names) =
    or_else (unfinished_in config (named_value slots name)) (first_unfinished config slots names)

-- that of the slots that the next statement of a frame names
abbrev pub first_at : (EffectTree → List (Option ℕ)) → Configuration → FrameState → Option Point → Option ℕ
first_at slots_of config frame None = None
first_at slots_of config frame (Some point) =
    first_unfinished config frame.slots (slots_of (effect_of point.statement))

abbrev pub first_in : (EffectTree → List (Option ℕ)) → ProgramTree → Configuration → Option FrameState → Option ℕ
first_in slots_of program config None = None
first_in slots_of program config (Some frame) = first_at slots_of config frame (next_point program frame)

-- that of the slots that the next statement of a task names; a ready task waits for none
abbrev pub named_by_state : ProgramTree → Configuration → Option FrameState → State → Option ℕ
named_by_state program config frame Ready = None
named_by_state program config frame Running = first_in awaited_slots program config frame
named_by_state program config frame Awaiting = first_in awaited_slots program config frame

abbrev pub named_first : ProgramTree → Configuration → TaskState → Option ℕ
named_first program config task = named_by_state program config (slice_get task.frames 0) task.state

-- a task that holds a cog, if it is another one and at a get of an unresolved future
abbrev pub if_at_get : ℕ → Option ℕ → Option ℕ
if_at_get holder None = None
if_at_get holder (Some future) = Some holder

abbrev pub held_by_task : ProgramTree → Configuration → ℕ → Option TaskState → Option ℕ
held_by_task program config holder None = None
held_by_task program config holder (Some task) =
    if_at_get holder (first_in got_slots program config (slice_get task.frames 0))

abbrev pub held_by_holder : ProgramTree → Configuration → ℕ → Option ℕ → Option ℕ
held_by_holder program config index None = None
held_by_holder program config index (Some holder) =
    if nat_eq index holder then None else held_by_task program config holder (slice_get config.tasks holder)

abbrev pub held_first : ProgramTree → Configuration → ℕ → Option Cog → Option ℕ
held_first program config index None = None
held_first program config index (Some cog) = held_by_holder program config index cog.holder

-- the first task for which a task waits: the first unfinished one that its statement names, else the one that holds its
-- cog
abbrev pub first_by_outcome : ProgramTree → Configuration → ℕ → TaskState → Option Result → Option ℕ
first_by_outcome program config index task (Some result) = None
first_by_outcome program config index task None =
    or_else (named_first program config task) (held_first program config index (slice_get config.cogs task.cog))

abbrev pub first_of_task : ProgramTree → Configuration → ℕ → TaskState → Option ℕ
first_of_task program config index task = first_by_outcome program config index task task.outcome

abbrev pub first_wait : ProgramTree → Configuration → ℕ → Option ℕ
first_wait program config index = option_and_then (first_of_task program config index) (slice_get config.tasks index)

-- The second task is the first one for which the first one waits.
abbrev pub WaitsFirst : ProgramTree → Configuration → ℕ → ℕ → Type 0
WaitsFirst program config index other = first_wait program config index ≡ Some other

-- where a function leads in so many steps
abbrev pub in_steps : (ℕ → Option ℕ) → ℕ → ℕ → Option ℕ
in_steps next zero index = Some index
in_steps next (suc steps) index = option_and_then (in_steps next steps) (next index)

-- the task to which so many first waits lead
abbrev pub after_waits : ProgramTree → Configuration → ℕ → ℕ → Option ℕ
after_waits program config steps index = in_steps (first_wait program config) steps index

-- The task is unfinished, and so is none before it.
pub record IsLeastUnfinished (config : Configuration) (index : ℕ) : Type 0 where
  pub unfinished : IsUnfinished config index
  pub least : (other : ℕ) → IsUnfinished config other → index ≤ other

-- The first waits of different tasks lead round. The list begins with the least of them, and first waits lead to that
-- from the least unfinished task.
pub record IsCircleOfFirstWaits (program : ProgramTree) (config : Configuration) (circle : List ℕ) : Type 0 where
  pub round : GoesRound (WaitsFirst program config) circle
  pub first : ℕ
  pub first_there : slice_get circle 0 ≡ Some first
  pub least : All (λ index. first ≤ index) circle
  pub start : ℕ
  pub start_least : IsLeastUnfinished config start
  pub steps : ℕ
  pub reached : after_waits program config steps start ≡ Some first
