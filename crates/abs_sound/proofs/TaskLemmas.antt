-- What tasks know that go on, end, or are new.
--
--   `future_inside`, `same_future`     a future is inside itself, and nothing else is
--   `nothing_in_unit`          `Unit` has nothing inside
--   `named_there`              the value in a slot that is named is there
--   `same_known`               a task with the same frames and the same result knows the same
--   `ended_knows`              a task that ended with a fault knows nothing
--   `given_known`              one that ended with a value knows what is inside that
--   `new_known`, `run_called`  a new task knows what is inside its arguments, and one of `run` has none
use Rattle.std.proofs.Common.{◌≡◌, ℕ, zero, suc, List, [], slice_get, Option, Some, None, refl, sym, ap, ◌∙◌, subst}
use Rattle.std.proofs.lemmas.Option.{none-some, option_and_then_some, same_Some}
use Rattle.std.specs.Option.{option_map}
use Rattle.std.specs.Prelude.{codes}
use Rattle.abs_program.specs.ProgramBodies.{BodyAt, entry_of_body}
use Rattle.abs_sound.proofs.KnowledgeLemmas.{start_known}
use Rattle.abs_sound.specs.Knowledge.{InResult, InSlot, TaskKnows}
use Rattle.abs_tree.specs.Syntax.{Name, ProgramTree}
use Rattle.abs_values.specs.References.{ToFuture, IsIn}
use Rattle.abs_values.specs.Results.{Fails, Gives}
use Rattle.abs_values.specs.ValueTrees.{ValueTree, FutureValue}
use Rattle.abs_values.specs.declared.evaluated.Fault.{Fault}
use Rattle.config_state.specs.Bodies.{method_at}
use Rattle.config_state.specs.Configurations.{FrameState, TaskState}
use Rattle.config_state.specs.declared.frame.Target.TheVariants.{Nothing}
use Rattle.step_rules.specs.Lookups.{named_value, unit_value}
use Rattle.step_rules.specs.NewEntries.{run_task, task_for}

-- a future is inside itself, and nothing else is
pub future_inside : (future : ℕ) → IsIn (ToFuture future) (FutureValue future)
unfolding IsIn
future_inside future = refl

pub same_future : (one other : ℕ) → IsIn (ToFuture one) (FutureValue other) → one ≡ other
unfolding IsIn
same_future one other inside = cc

-- `Unit` has nothing inside
pub nothing_in_unit : (names : List Name) (future : ℕ) → IsIn (ToFuture future) (unit_value names) → ⊥
unfolding IsIn
nothing_in_unit names future inside = inside

-- the value in a slot that is named is there
pub named_there : (slots : List ValueTree) (name : Option ℕ) (value : ValueTree) → named_value slots name ≡ Some value
    → (slot : ℕ) × (slice_get slots slot ≡ Some value)
named_there slots name value is =
    option_and_then_some (slice_get slots) name value is (λ slot named there. (slot, there))

-- a task with the frames and the result of another one knows what that knows
pub same_known : (task after : TaskState) (future : ℕ) → after.frames ≡ task.frames → after.outcome ≡ task.outcome
    → TaskKnows after future → TaskKnows task future
same_known task after future frames outcome (InSlot depth slot frame value there is inside) =
    InSlot depth slot frame value (ap (λ (all : List FrameState). slice_get all depth) (sym frames) ∙ there) is inside
same_known task after future frames outcome (InResult value is inside) =
    InResult value (sym outcome ∙ is) inside

-- a task that ended with a fault knows nothing
pub ended_knows : (after : TaskState) (cause : Fault) (future : ℕ) → after.frames ≡ []
    → after.outcome ≡ Some (Fails cause) → TaskKnows after future → ⊥
ended_knows after cause future frames outcome (InSlot depth slot frame value there is inside) =
    none-some frame (ap (λ (all : List FrameState). slice_get all depth) (sym frames) ∙ there)
ended_knows after cause future frames outcome (InResult value is inside) =
    cc (sym outcome ∙ is)

-- one that ended with a value knows what is inside that
pub given_known : (after : TaskState) (result : ValueTree) (future : ℕ) → after.frames ≡ []
    → after.outcome ≡ Some (Gives result) → TaskKnows after future → IsIn (ToFuture future) result
given_known after result future frames outcome (InSlot depth slot frame value there is inside) =
    absurd (none-some frame (ap (λ (all : List FrameState). slice_get all depth) (sym frames) ∙ there))
given_known after result future frames outcome (InResult value is inside) =
    subst (IsIn (ToFuture future)) (same_value value result (sym is ∙ outcome)) inside
  where
    same_value : (one other : ValueTree) → Some (Gives one) ≡ Some (Gives other) → one ≡ other
    same_value one other same = cc

-- a new task knows what is inside its arguments
pub new_known : (body : BodyAt) (cog object : ℕ) (method : Name) (call : Option ℕ) (arguments : List ValueTree)
    (future : ℕ) → TaskKnows (task_for body cog object method call arguments) future
    → (slot : ℕ) × (value : ValueTree) × (slice_get arguments slot ≡ Some value) × IsIn (ToFuture future) value
new_known body cog object method call arguments future (InSlot zero slot frame value there is inside) =
    let own = start_known (entry_of_body body) (Some method) (Some object) arguments Nothing slot value future
    (ap (λ (one : FrameState). slice_get one.slots slot) (same_Some _ frame there) ∙ is) inside in
    (slot, value, own, inside)
new_known body cog object method call arguments future (InSlot (suc depth) slot frame value there is inside) =
    absurd (none-some frame there)
new_known body cog object method call arguments future (InResult value is inside) = absurd (none-some (Gives value) is)

-- a task of `run` was called by nobody, and knows nothing
pub run_called : (program : ProgramTree) (cog object : ℕ) (class : Name) (run : Option ℕ) (task : TaskState)
    → run_task program cog object class run ≡ Some task
    → (task.call ≡ None) × ((future : ℕ) → TaskKnows task future → ⊥)
run_called program cog object class None task is = absurd (none-some task is)
run_called program cog object class (Some member) task is = by_body (method_at program class (codes "run")) is
  where
    by_body : (found : Option BodyAt)
        → option_map (λ (body : BodyAt). task_for body cog object (codes "run") None []) found ≡ Some task
        → (task.call ≡ None) × ((future : ℕ) → TaskKnows task future → ⊥)
    by_body None is = absurd (none-some task is)
    by_body (Some body) is =
        let same = same_Some (task_for body cog object (codes "run") None []) task is in (
          ap (λ (one : TaskState). one.call) (sym same),
          λ future knows.
              let own = new_known body cog object (codes "run") None [] future
              (subst (λ (one : TaskState). TaskKnows one future) (sym same) knows) in
              none-some own.1 own.2,
        )
