-- What the futures of a guard are, slot by slot.
--
--   `HasFuture`                        a named slot holds the future of a task
--   `HasResolved`, `HasUnresolved`     the task of this future has a result, or has none
--   `fault_of_slot`                    the fault of a slot that holds no future
--   `OneIsUnresolved`                  each named slot holds a future, and one of these is unresolved
--   `IsFirstFault`                     the fault of the first named slot that holds no future
use Rattle.std.specs.Prelude.{◌≡◌, ◌<◌, ℕ, List, slice_get, Option, Some, None, IsSome}
use Rattle.abs_values.specs.ValueTrees.{ValueTree, NullValue, FutureValue}
use Rattle.abs_values.specs.declared.evaluated.Fault.{Fault}
use Rattle.abs_values.specs.declared.evaluated.Fault.TheVariants as fault
use Rattle.config_state.specs.Configurations.{TaskState, Configuration, Each}
use Rattle.step_rules.specs.Lookups.{named_value}

-- The slot that is named holds a future whose task is there.
pub record HasFuture (config : Configuration) (slots : List ValueTree) (name : Option ℕ) : Type 0 where
  pub future : ℕ
  pub task : TaskState
  pub holds : named_value slots name ≡ Some (FutureValue future)
  pub there : slice_get config.tasks future ≡ Some task

-- The slot that is named holds the future of a task that has a result.
pub record HasResolved (config : Configuration) (slots : List ValueTree) (name : Option ℕ) : Type 0 where
  pub has : HasFuture config slots name
  pub resolved : IsSome has.task.outcome

-- The slot that is named holds the future of a task that has no result.
pub record HasUnresolved (config : Configuration) (slots : List ValueTree) (name : Option ℕ) : Type 0 where
  pub has : HasFuture config slots name
  pub unresolved : has.task.outcome ≡ None

-- the fault of a slot that holds no future: Null where it holds null, and else Mistyped
abbrev pub fault_of_slot : Option ValueTree → Fault
fault_of_slot (Some NullValue) = fault.Null
fault_of_slot value = fault.Mistyped

-- Each slot that is named holds a future, and one of these futures is unresolved.
pub record OneIsUnresolved (config : Configuration) (slots : List ValueTree) (names : List (Option ℕ)) : Type 0 where
  pub all_have : Each names (λ part name. HasFuture config slots name)
  pub index : ℕ
  pub name : Option ℕ
  pub there : slice_get names index ≡ Some name
  pub unresolved : HasUnresolved config slots name

-- The first named slot without a future has this fault: each slot that is named before it holds a future.
pub record IsFirstFault (config : Configuration) (slots : List ValueTree) (names : List (Option ℕ)) (cause : Fault)
    : Type 0 where
  pub index : ℕ
  pub name : Option ℕ
  pub there : slice_get names index ≡ Some name
  pub has_none : HasFuture config slots name → ⊥
  pub before : (earlier : ℕ) (other : Option ℕ) → earlier < index → slice_get names earlier ≡ Some other
      → HasFuture config slots other
  pub cause_is : cause ≡ fault_of_slot (named_value slots name)
