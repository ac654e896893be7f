-- The task that moves ends with a result, or keeps its frames.
--
--   `ended_typed`              a task that ends is well typed, if its result is
--   `state_typed`              so is a task whose frames and result are as before
use Rattle.std.proofs.Common.{◌≡◌, ℕ, suc, List, [], slice_get, Some, refl, sym, ◌∙◌, subst}
use Rattle.std.proofs.lemmas.Option.{same_Some}
use Rattle.abs_tree.specs.Syntax.{ProgramTree}
use Rattle.abs_values.specs.Results.{Result, Gives, Fails}
use Rattle.abs_values.specs.declared.evaluated.Fault.TheVariants as fault
use Rattle.config_state.proofs.EachLemmas.{Each-none}
use Rattle.config_state.specs.Configurations.{FrameState, TaskState, Configuration, Each}
use Rattle.step_rules.specs.Changes.{Change, configuration_after}
use Rattle.type_sound.proofs.Events.{ValueIn, IsEvent}
use Rattle.type_sound.proofs.GrowthLemmas.{own_result_stays, value_stays}
use Rattle.type_sound.proofs.KeptLemmas.{task_stays}
use Rattle.type_sound.specs.Routines.{result_of_task}
use Rattle.type_sound.specs.Values.{ResultHas}
use Rattle.type_sound.specs.WellTyped.{world_of, above, IsFrameTyped, FitsTarget, IsTaskTyped}

module _ (program : ProgramTree) (config : Configuration) (index : ℕ) (change : Change)
    (event : IsEvent program config index change) (task : TaskState)
    (there : slice_get config.tasks index ≡ Some task) where
  -- the configuration after the event
  abbrev after : Configuration
  after = configuration_after config index change

  -- A task that ends is well typed, if its result has the result type of the task, or is a fault other than Mistyped.
  pub ended_typed : change.task.frames ≡ [] → (result : Result) → change.task.outcome ≡ Some result
      → ResultHas program (world_of program after) result (result_of_task program config task)
      → IsTaskTyped program after change.task
  ended_typed none result ends has = record {
    frames = subst (λ (frames : List FrameState). Each frames
        (λ depth frame. IsFrameTyped program after (above frames depth) frame)) (sym none) (Each-none _);
    targets = subst (λ (frames : List FrameState). Each frames (λ depth frame. (below : FrameState)
        → slice_get frames (suc depth) ≡ Some below → FitsTarget program after frame below)) (sym none) (Each-none _);
    result = λ value is. subst (ValueIn program after value)
        (sym (own_result_stays program config index change event task there))
        (subst (λ (one : Result). ResultHas program (world_of program after) one (result_of_task program config task))
        (same_Some result (Gives value) (sym ends ∙ is)) has);
    no_type_fault = λ is.
        (subst (λ (one : Result). ResultHas program (world_of program after) one (result_of_task program config task))
        (same_Some result (Fails fault.Mistyped) (sym ends ∙ is)) has) refl;
  }

  -- A task whose frames and result are as before is well typed.
  pub state_typed : change.task.frames ≡ task.frames → change.task.outcome ≡ task.outcome
      → IsTaskTyped program after change.task
  state_typed frames_are same =
      let typed = task_stays program config index change event index task there (event.typed.tasks index task there) in
      record {
        frames = subst (λ (frames : List FrameState). Each frames
            (λ depth frame. IsFrameTyped program after (above frames depth) frame)) (sym frames_are) typed.frames;
        targets = subst (λ (frames : List FrameState). Each frames (λ depth frame. (below : FrameState)
            → slice_get frames (suc depth) ≡ Some below → FitsTarget program after frame below)) (sym frames_are)
            typed.targets;
        result = λ value is. subst (ValueIn program after value)
            (sym (own_result_stays program config index change event task there))
            (value_stays program config index change event value (result_of_task program config task)
            ((event.typed.tasks index task there).result value (sym same ∙ is)));
        no_type_fault = λ is. typed.no_type_fault (sym same ∙ is);
      }
