-- The frames of a task that are well typed, one after the other, in any configuration.
--
--   `above_from`               the target of the frame above one of several frames, of which the first one has this one
--   `AreFramesTyped`           frames of a task are well typed, and the result type of each fits its target
--   `frames_more`, ..          one more frame, and the first frame and the others
--   `frames_moved`             the first frame has other slots and another next statement
--   `task_frames`              the frames of a task that is well typed
--   `open_task_typed`          a task with such frames and without a result is well typed
use Rattle.std.proofs.Common.{◌≡◌, ℕ, zero, suc, List, [], ◌∷◌, slice_get, Option, Some, None, refl, sym, ◌∙◌, subst}
use Rattle.std.proofs.lemmas.Option.{none-some}
use Rattle.abs_tree.specs.Syntax.{ProgramTree}
use Rattle.abs_values.specs.ValueTrees.{ValueTree}
use Rattle.config_state.proofs.EachLemmas.{Each-none, Each-more}
use Rattle.config_state.specs.Configurations.{FrameState, TaskState, Configuration, Each}
use Rattle.config_state.specs.declared.frame.Target.{Target}
use Rattle.config_state.specs.declared.frame.Target.TheVariants.{Nothing}
use Rattle.type_sound.specs.WellTyped.{target_in, above, IsFrameTyped, FitsTarget, IsTaskTyped}

-- the target of the frame above the frame at an index of several, where the frame above the first one has this target
abbrev pub above_from : Target → List FrameState → ℕ → Target
above_from pending frames zero = pending
above_from pending frames (suc index) = target_in (slice_get frames index)

-- The frame is well typed, and so is what is below it: the result type of each frame fits its target.
pub record AreFramesTyped (program : ProgramTree) (config : Configuration) (pending : Target)
    (frames : List FrameState) : Type 0 where
  pub each : Each frames (λ index frame. IsFrameTyped program config (above_from pending frames index) frame)
  pub targets : Each frames (λ index frame. (below : FrameState) → slice_get frames (suc index) ≡ Some below
      → FitsTarget program config frame below)

module _ (program : ProgramTree) (config : Configuration) where
  -- no frame
  pub frames_none : (pending : Target) → AreFramesTyped program config pending []
  frames_none pending = record { each = Each-none _; targets = Each-none _ }

  -- one more frame above others
  pub frames_more : (pending : Target) (frame : FrameState) (others : List FrameState)
      → IsFrameTyped program config pending frame
      → ((below : FrameState) → slice_get others 0 ≡ Some below → FitsTarget program config frame below)
      → AreFramesTyped program config frame.target others → AreFramesTyped program config pending (frame ∷ others)
  frames_more pending frame others typed fits rest = record {
    each = Each-more (λ index one. IsFrameTyped program config (above_from pending (frame ∷ others) index) one) frame
        others typed (λ index one there. by_index index one there (rest.each index one there));
    targets = Each-more (λ index one. (below : FrameState) → slice_get (frame ∷ others) (suc index) ≡ Some below
        → FitsTarget program config one below) frame others fits rest.targets;
  }
    where
      by_index : (index : ℕ) (one : FrameState) → slice_get others index ≡ Some one
          → IsFrameTyped program config (above_from frame.target others index) one
          → IsFrameTyped program config (target_in (slice_get (frame ∷ others) index)) one
      by_index zero one there typed = typed
      by_index (suc index) one there typed = typed

  -- the first frame
  pub frames_first : (pending : Target) (frame : FrameState) (others : List FrameState)
      → AreFramesTyped program config pending (frame ∷ others) → IsFrameTyped program config pending frame
  frames_first pending frame others are = are.each 0 frame refl

  -- its result type fits its target
  pub frames_fit : (pending : Target) (frame : FrameState) (others : List FrameState)
      → AreFramesTyped program config pending (frame ∷ others) → (below : FrameState)
      → slice_get others 0 ≡ Some below → FitsTarget program config frame below
  frames_fit pending frame others are below there = are.targets 0 frame refl below there

  -- the others
  pub frames_rest : (pending : Target) (frame : FrameState) (others : List FrameState)
      → AreFramesTyped program config pending (frame ∷ others) → AreFramesTyped program config frame.target others
  frames_rest pending frame others are = record {
    each = λ index one there. by_index index one (are.each (suc index) one there);
    targets = λ index one there. are.targets (suc index) one there;
  }
    where
      by_index : (index : ℕ) (one : FrameState)
          → IsFrameTyped program config (target_in (slice_get (frame ∷ others) index)) one
          → IsFrameTyped program config (above_from frame.target others index) one
      by_index zero one typed = typed
      by_index (suc index) one typed = typed

  -- the first frame has other slots and another next statement, with which it is well typed
  pub frames_moved : (pending next_pending : Target) (frame : FrameState) (others : List FrameState)
      (slots : List ValueTree) (next : Option ℕ) → AreFramesTyped program config pending (frame ∷ others)
      → IsFrameTyped program config next_pending (record frame { slots = slots; next = next })
      → AreFramesTyped program config next_pending (record frame { slots = slots; next = next } ∷ others)
  frames_moved pending next_pending frame others slots next are typed =
      frames_more next_pending (record frame { slots = slots; next = next }) others typed
      (λ below there. record { fit = (frames_fit pending frame others are below there).fit })
      (frames_rest pending frame others are)

  -- the frames of a task that is well typed
  pub task_frames : (task : TaskState) → IsTaskTyped program config task
      → AreFramesTyped program config Nothing task.frames
  task_frames task typed = record {
    each = λ index frame there. by_index index frame (typed.frames index frame there);
    targets = typed.targets;
  }
    where
      by_index : (index : ℕ) (frame : FrameState) → IsFrameTyped program config (above task.frames index) frame
          → IsFrameTyped program config (above_from Nothing task.frames index) frame
      by_index zero frame typed = typed
      by_index (suc index) frame typed = typed

  -- a task with frames that are well typed, and without a result
  pub open_task_typed : (task : TaskState) (frames : List FrameState) → task.frames ≡ frames → task.outcome ≡ None
      → AreFramesTyped program config Nothing frames → IsTaskTyped program config task
  open_task_typed task frames same none are =
      let own : AreFramesTyped program config Nothing task.frames =
      subst (AreFramesTyped program config Nothing) (sym same) are in
      record {
        frames = λ index frame there. by_index index frame (own.each index frame there);
        targets = own.targets;
        result = λ value is. absurd (none-some _ (sym none ∙ is));
        no_type_fault = λ is. none-some _ (sym none ∙ is);
      }
    where
      by_index : (index : ℕ) (frame : FrameState)
          → IsFrameTyped program config (above_from Nothing task.frames index) frame
          → IsFrameTyped program config (above task.frames index) frame
      by_index zero frame typed = typed
      by_index (suc index) frame typed = typed
