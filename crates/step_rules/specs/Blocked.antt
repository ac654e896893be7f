-- Which tasks have an event.
--
--   `IsAtOpenGet`              the next statement of a task gets a future that is unresolved
--   `IsFree`                   nobody holds a cog
--   `AreResolved`              the next statement of a task is an `await`, and each future that it names is resolved
--   `IsAtOpenAwait`            the next statement of a task is an `await`, which names a future that is unresolved
--   `WaitsFor`                 a task has no event before a future is resolved
--   `IsFreeFor`                nobody else than a task holds a cog
--   `HoldsOpen`, `OneHoldsOpen`    a named slot holds a future that is unresolved; one of several does
--   `FindsOne`                 what a search has found is so, or nothing is
--   `NeverWaits`               a program has neither `await` nor `get`
use Rattle.std.specs.Prelude.{◌≡◌, ◌≢◌, ℕ, List, slice_get, Option, Some, None}
use Rattle.abs_program.specs.Control.{Point, program_points}
use Rattle.abs_program.specs.Instructions.{Awaits, Gets, effect_of}
use Rattle.abs_tree.specs.Syntax.{VariableTree, ProgramTree}
use Rattle.abs_values.specs.ValueTrees.{ValueTree, FutureValue}
use Rattle.config_state.specs.Configurations.{FrameState, TaskState, Configuration, Each, IsUnfinished}
use Rattle.config_state.specs.OfProgram.{next_point}
use Rattle.config_state.specs.declared.cog.Cog.{Cog}
use Rattle.config_state.specs.declared.task.State.TheVariants.{Running, Awaiting}

-- The next statement of a task is `x.get`, and x holds a future that is unresolved.
pub record IsAtOpenGet (program : ProgramTree) (config : Configuration) (task : TaskState) : Type 0 where
  pub frame : FrameState
  pub innermost : slice_get task.frames 0 ≡ Some frame
  pub point : Point
  pub point_there : next_point program frame ≡ Some point
  pub slot : ℕ
  pub target : Option VariableTree
  pub gets : effect_of point.statement ≡ Gets (Some slot) target
  pub future : ℕ
  pub holds : slice_get frame.slots slot ≡ Some (FutureValue future)
  pub unresolved : IsUnfinished config future

-- Nobody holds the cog.
pub record IsFree (config : Configuration) (index : ℕ) : Type 0 where
  pub cog : Cog
  pub there : slice_get config.cogs index ≡ Some cog
  pub free : cog.holder ≡ None

-- The next statement of a task is an `await`, and no future in a slot that it names is unresolved.
pub record AreResolved (program : ProgramTree) (config : Configuration) (task : TaskState) : Type 0 where
  pub frame : FrameState
  pub innermost : slice_get task.frames 0 ≡ Some frame
  pub point : Point
  pub point_there : next_point program frame ≡ Some point
  pub names : List (Option ℕ)
  pub awaits : effect_of point.statement ≡ Awaits names
  pub resolved : Each names (λ part name. (slot future : ℕ) → name ≡ Some slot
      → slice_get frame.slots slot ≡ Some (FutureValue future) → IsUnfinished config future → ⊥)

-- The next statement of a task is an `await`, and in a slot that it names there is a future that is unresolved.
pub record IsAtOpenAwait (program : ProgramTree) (config : Configuration) (task : TaskState) : Type 0 where
  pub frame : FrameState
  pub innermost : slice_get task.frames 0 ≡ Some frame
  pub point : Point
  pub point_there : next_point program frame ≡ Some point
  pub names : List (Option ℕ)
  pub awaits : effect_of point.statement ≡ Awaits names
  pub part : ℕ
  pub slot : ℕ
  pub named : slice_get names part ≡ Some (Some slot)
  pub future : ℕ
  pub holds : slice_get frame.slots slot ≡ Some (FutureValue future)
  pub unresolved : IsUnfinished config future

-- The task has no event before the future is resolved: it runs, and its next statement gets it, or it is awaiting, and
-- its next statement names it.
pub data WaitsFor (program : ProgramTree) (config : Configuration) (task : TaskState) (future : ℕ) : Type 0 where
  AtGet : task.state ≡ Running → (at : IsAtOpenGet program config task) → at.future ≡ future
      → WaitsFor program config task future
  AtAwait : task.state ≡ Awaiting → (at : IsAtOpenAwait program config task) → at.future ≡ future
      → WaitsFor program config task future

-- Nobody holds the cog, or the task with the index does.
pub record IsFreeFor (config : Configuration) (cog index : ℕ) : Type 0 where
  pub entry : Cog
  pub there : slice_get config.cogs cog ≡ Some entry
  pub free : (holder : ℕ) → entry.holder ≡ Some holder → holder ≡ index

-- The slot that is named holds the future, which is unresolved.
pub record HoldsOpen (config : Configuration) (slots : List ValueTree) (name : Option ℕ) (future : ℕ) : Type 0 where
  pub slot : ℕ
  pub named : name ≡ Some slot
  pub holds : slice_get slots slot ≡ Some (FutureValue future)
  pub unresolved : IsUnfinished config future

-- One of the slots that are named holds the future, which is unresolved.
pub record OneHoldsOpen (config : Configuration) (slots : List ValueTree) (names : List (Option ℕ)) (future : ℕ)
    : Type 0 where
  pub part : ℕ
  pub name : Option ℕ
  pub there : slice_get names part ≡ Some name
  pub open_there : HoldsOpen config slots name future

-- What a search has found is so; where it has found nothing, nothing is.
abbrev pub FindsOne : Option ℕ → (ℕ → Type 0) → Type 0
FindsOne None Is = (number : ℕ) → Is number → ⊥
FindsOne (Some number) Is = Is number

-- No statement of the program is an `await` or a `get`.
pub record NeverWaits (program : ProgramTree) : Type 0 where
  pub no_await : (index : ℕ) (point : Point) (names : List (Option ℕ))
      → slice_get (program_points program.source) index ≡ Some point → effect_of point.statement ≢ Awaits names
  pub no_get : (index : ℕ) (point : Point) (slot : Option ℕ) (target : Option VariableTree)
      → slice_get (program_points program.source) index ≡ Some point → effect_of point.statement ≢ Gets slot target
