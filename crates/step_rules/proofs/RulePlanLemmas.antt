-- What the plans of rules stand for, where the frames of the task decide it.
--
--   `leave_inner`, `leave_last`        the value of an inner frame, and that of the outermost one
--   `enter_found`                      an own call pushes a frame of the method
use Rattle.std.proofs.Common.{◌≡◌, ◌<◌, ◌≤◌, ℕ, suc, List, [], ◌∷◌, length, Option, Some, None, option_map, refl, arith}
use Rattle.std.proofs.lemmas.Option.{same_Some}
use Rattle.abs_values.specs.Results.{Gives}
use Rattle.abs_tree.specs.Syntax.{Name, VariableTree}
use Rattle.abs_values.specs.ValueTrees.{ValueTree}
use Rattle.abs_values.specs.ValueViews.{value_tree}
use Rattle.abs_program.specs.declared.tables.control.BodyEntry.{BodyEntry}
use Rattle.abs_values.specs.declared.value.Value.{Value}
use Rattle.abs_program.specs.ProgramBodies.{BodyAt, entry_of_body}
use Rattle.config_state.specs.Configurations.{FrameState, TaskState, Configuration, object_at, fields_of}
use Rattle.config_state.specs.First.{frame_for}
use Rattle.config_state.specs.Views.{frame_state}
use Rattle.config_state.specs.declared.frame.Frame.{Frame}
use Rattle.step_rules.specs.Changes.{ended_change}
use Rattle.step_rules.specs.Events.{local_change}
use Rattle.step_rules.specs.LocalRules.{push_rule}
use Rattle.step_rules.specs.Lookups.{Runner}
use Rattle.step_rules.specs.ObjectRules.{give_rule}
use Rattle.step_rules.specs.Plans.{plan_of_task, planned}
use Rattle.step_rules.specs.Targets.{target_of}
use Rattle.step_rules.specs.declared.kind.Did.TheVariants as did
use Rattle.step_rules.specs.declared.plan.Turn.TheVariants as turn

-- with another frame below, the value that a frame gives goes to that
pub leave_inner : (names : List Name) (config : Configuration) (index : ℕ) (task : TaskState) (frame : FrameState)
    (others : List FrameState) (value : Value) → 1 < suc (length others)
    → plan_of_task names config index task (frame ∷ others) (record {
      turn = turn.Leaves value;
      cog = None;
      object = None;
      task = None;
      line = None;
      did = did.Went;
    }) ≡ Some (give_rule config index task frame others (value_tree value))
unfolding plan_of_task
leave_inner names config index task frame [] value inner = absurd (omega (arith, inner))
leave_inner names config index task frame (below ∷ others) value inner = refl

-- with no frame below, the value that a frame gives is the result of the task
pub leave_last : (config : Configuration) (index : ℕ) (task : TaskState) (frame : FrameState)
    (others : List FrameState) (value : ValueTree) → suc (length others) ≤ 1
    → Some (ended_change task (Gives value)) ≡ Some (give_rule config index task frame others value)
leave_last config index task frame [] value last = refl
leave_last config index task frame (below ∷ others) value last = absurd (omega (arith, last))

-- a frame of the method that is called is pushed
pub enter_found : (names : List Name) (config : Configuration) (at : Runner) (pushed : Frame) (method : Name)
    (target : Option VariableTree) (next : Option ℕ) (values : List ValueTree) (entry : BodyEntry)
    (found : Option BodyAt) → Some entry ≡ option_map entry_of_body found
    → frame_state names pushed ≡ frame_for entry (Some method) at.frame.object values (target_of target)
    → planned names config at (record {
      turn = turn.Enters pushed next;
      cog = None;
      object = None;
      task = None;
      line = None;
      did = did.Called;
    }) ≡ Some (local_change at (push_rule method target next at.frame at.others
    (fields_of (object_at config at.frame.object)) values found))
unfolding plan_of_task
enter_found names config at pushed method target next values entry None is pushed_is = absurd cc
enter_found names config at pushed method target next values entry (Some body) is pushed_is =
    rw (pushed_is, same_Some _ _ is)
