-- How a plan is put in place in the lists of the code.
--
--   `frames_of`                the frames of a task, the innermost first
--   `writing`                  what a value that goes to a target writes
--   `AreFieldsAfter`           fields that are written in place are those after a value went to a target
--   `IsTurn`                   what becomes of a task is this change
use Rattle.std.proofs.Common.{inl, inr}
use Rattle.std.specs.Borrow.{MutBor}
use Rattle.std.specs.Prelude.{◌≡◌, ℕ, ◌⊎◌, List, map, reverse, slice_get, Option, Some, None}
use Rattle.std.specs.Option.{option_map}
use Rattle.abs_tree.specs.Syntax.{Name}
use Rattle.abs_values.specs.ValueTrees.{ValueTree}
use Rattle.config_state.specs.Configurations.{ObjectState, FrameState, Configuration, fields_of}
use Rattle.config_state.specs.Views.{object_state, frame_state, task_state}
use Rattle.config_state.specs.declared.frame.Frame.{Frame}
use Rattle.config_state.specs.declared.frame.Target.{Target}
use Rattle.config_state.specs.declared.object.ObjectCell.{ObjectCell}
use Rattle.config_state.specs.declared.task.TaskCell.{TaskCell}
use Rattle.step_rules.specs.Changes.{Written, Change}
use Rattle.step_rules.specs.Plans.{turn_change}
use Rattle.step_rules.specs.Targets.{fields_after}
use Rattle.step_rules.specs.declared.kind.Did.{Did}
use Rattle.step_rules.specs.declared.plan.Turn.{Turn}

-- the frames of a task, the innermost first, which is the last of the code's frames
abbrev pub frames_of : List Name → List Frame → List FrameState
frames_of names frames = reverse (map (frame_state names) frames)

-- what a value that goes to a target of a frame writes: the fields of the object of the frame, if it has one. They may
-- be as they were
abbrev pub writing : List ObjectState → Option ℕ → Target → ValueTree → Option Written
writing objects object target value = option_map (λ at. record {
  object = at;
  fields = fields_after target value (fields_of (slice_get objects at));
}) object

-- The fields that a reference leads to, if there is one, as it comes in and as it is left: they are those after the value
-- went to the target. Without a reference nothing is said.
abbrev pub AreFieldsAfter : Target → ValueTree → Option (MutBor (List ValueTree))
    → Unit {0} ⊎ ((MutBor (List ValueTree) × Unit {0}) ⊎ ⊥) → Type 0
AreFieldsAfter target value None left = Unit {0}
AreFieldsAfter target value (Some fields) (inl none) = ⊥
AreFieldsAfter target value (Some fields) (inr (inl left)) = left.0.now ≡ fields_after target value fields.now
AreFieldsAfter target value (Some fields) (inr (inr never)) = ⊥

-- In a configuration with these objects, what becomes of this task with an index is the change.
pub record IsTurn (names : List Name) (objects : List ObjectCell) (index : ℕ) (cell : TaskCell) (turn : Turn)
    (change : Change) : Type 0 where
  pub config : Configuration
  pub objects_are : config.objects ≡ map (object_state names) objects
  pub lines : List (List ℕ)
  pub kind : Did
  pub is : turn_change names config index (task_state names cell) (task_state names cell).frames lines kind turn
      ≡ Some change
