-- Which futures tasks know, and orders of tasks in which each knows later ones alone.
--
--   `TaskKnows`, `KnowsFuture`     a future is inside a value of a task; of the task with an index
--   `IsBefore`                     one number comes before another in a list
--   `IsEachOnce`                   a list has each number below a bound once
--   `put_after`, `order_after`     a list with a number directly after another; the order after an event
--   `HasKnowledgeOrder`            all tasks are in an order in which each future that one knows comes after it
--   `IsClosedChain`                each task of a list knows the future of the next one, and the last that of the first
use Rattle.std.specs.Prelude.{◌≡◌, ◌<◌, ℕ, nat_eq, List, [], ◌∷◌, ◌++◌, length, slice_get, Option, Some, None, if◌then◌else◌}
use Rattle.abs_values.specs.References.{ToFuture, IsIn}
use Rattle.abs_values.specs.Results.{Gives}
use Rattle.abs_values.specs.ValueTrees.{ValueTree}
use Rattle.config_state.specs.Configurations.{FrameState, TaskState, Configuration}
use Rattle.wait_graph.specs.Waits.{LeadsRound}

-- The task has a value with this future inside: in a slot of one of its frames, the innermost or an outer one, or as its
-- result.
pub data TaskKnows (task : TaskState) (future : ℕ) : Type 0 where
  InSlot : (depth slot : ℕ) (frame : FrameState) (value : ValueTree) → slice_get task.frames depth ≡ Some frame
      → slice_get frame.slots slot ≡ Some value → IsIn (ToFuture future) value → TaskKnows task future
  InResult : (value : ValueTree) → task.outcome ≡ Some (Gives value) → IsIn (ToFuture future) value
      → TaskKnows task future

-- The task with this index knows the future.
pub record KnowsFuture (config : Configuration) (index future : ℕ) : Type 0 where
  pub task : TaskState
  pub there : slice_get config.tasks index ≡ Some task
  pub knows : TaskKnows task future

-- Both numbers are in the list, one at a smaller index than the other.
pub record IsBefore (order : List ℕ) (one other : ℕ) : Type 0 where
  pub first : ℕ
  pub second : ℕ
  pub smaller : first < second
  pub one_there : slice_get order first ≡ Some one
  pub other_there : slice_get order second ≡ Some other

-- Each number below the count is in the list once, and nothing else is.
pub record IsEachOnce (order : List ℕ) (count : ℕ) : Type 0 where
  pub below : (index number : ℕ) → slice_get order index ≡ Some number → number < count
  pub there : (number : ℕ) → number < count → (index : ℕ) × (slice_get order index ≡ Some number)
  pub once : (first second number : ℕ) → slice_get order first ≡ Some number → slice_get order second ≡ Some number
      → first ≡ second

-- All tasks are in this order, each once, and each future that a task knows comes after the task.
pub record HasKnowledgeOrder (config : Configuration) : Type 0 where
  pub order : List ℕ
  pub once : IsEachOnce order (length config.tasks)
  pub later : (task future : ℕ) → KnowsFuture config task future → IsBefore order task future

-- the list with a new number directly after another one, or at its end where that is not there
abbrev pub put_after : List ℕ → ℕ → ℕ → List ℕ
put_after [] number new = new ∷ []
put_after (first ∷ others) number new =
    if nat_eq first number then first ∷ new ∷ others else first ∷ put_after others number new

-- the order after an event of a task: a new task comes directly after its caller, and one that nobody called at the end
abbrev pub order_by_call : List ℕ → ℕ → ℕ → Option ℕ → List ℕ
order_by_call order index new None = order ++ new ∷ []
order_by_call order index new (Some call) = put_after order index new

abbrev pub order_after : List ℕ → ℕ → ℕ → Option TaskState → List ℕ
order_after order index count None = order
order_after order index count (Some task) = order_by_call order index count task.call

-- the list is not empty, each task of it knows the future of the next one, and the last one that of the first
abbrev pub IsClosedChain : Configuration → List ℕ → Type 0
IsClosedChain config [] = ⊥
IsClosedChain config (first ∷ others) = LeadsRound (KnowsFuture config) first first others
