-- What stays of frames and tasks of a program while a configuration grows.
--
--   `Outgrows`, `outgrows_by`          objects stay with their classes and the number of their fields
--   `frame_stays`, `target_stays`      a frame of the program stays one, and its target stays in the one below
--   `task_stays`                       a task of the program stays one
use Rattle.std.proofs.Common.{◌≡◌, ◌⊎◌, ◌<◌, ℕ, suc, inl, inr, List, length, slice_get, Option, Some, None, ap, ◌∙◌, refl, arith}
use Rattle.abs_tree.specs.Syntax.{Name, ProgramTree}
use Rattle.abs_values.specs.ValueTrees.{ValueTree}
use Rattle.abs_program.specs.ProgramBodies.{BodyAt}
use Rattle.config_state.specs.Bodies.{body_found}
use Rattle.config_state.specs.Configurations.{ObjectState, FrameState, TaskState, Configuration, object_at, fields_of, Each}
use Rattle.config_state.specs.OfProgram.{IsFrameOf, TargetIsIn, IsTaskOf}
use Rattle.config_state.specs.declared.frame.Target.{Target}
use Rattle.config_state.specs.declared.frame.Target.TheVariants.{Nothing, Local, Field}
use Rattle.step_rules.proofs.AfterLemmas.{object-there}
use Rattle.step_rules.proofs.FrameLemmas.{body_of_object}
use Rattle.step_rules.specs.Changes.{Written, Change, configuration_after}

-- The objects of a configuration are in another one, with their classes and as many fields.
pub record Outgrows (config after : Configuration) : Type 0 where
  pub each : Each config.objects (λ index before. (object : ObjectState)
      × (slice_get after.objects index ≡ Some object) × (object.class ≡ before.class)
      × (length object.fields ≡ length before.fields))

-- What is written has as many fields as its object.
pub record WritesAll (config : Configuration) (written : Option Written) : Type 0 where
  pub as_many : (own : Written) (object : ObjectState) → written ≡ Some own
      → slice_get config.objects own.object ≡ Some object → length own.fields ≡ length object.fields

-- a change that writes all fields of an object leaves each object with its class and as many fields
pub outgrows_by : (config : Configuration) (index : ℕ) (change : Change) → WritesAll config change.written
    → Outgrows config (configuration_after config index change)
outgrows_by config index change all = record {
  each = λ other before there. let now = object-there config index change other before there in
      (now.0, now.1, now.2.class, by_fields other before now.0.fields there now.3);
}
  where
    by_fields : (other : ℕ) (before : ObjectState) (fields : List ValueTree)
        → slice_get config.objects other ≡ Some before
        → (fields ≡ before.fields) ⊎ ((written : Written) × (change.written ≡ Some written)
        × (written.object ≡ other) × (fields ≡ written.fields)) → length fields ≡ length before.fields
    by_fields other before fields there (inl same) = ap length same
    by_fields other before fields there (inr now) =
        ap length now.3 ∙ all.as_many now.0 before now.1 (ap (slice_get config.objects) now.2 ∙ there)

-- the body of a frame stays
body_stays : (program : ProgramTree) (config after : Configuration) (object : Option ℕ) (method : Option Name)
    (body : BodyAt) → Outgrows config after → body_found program (object_at config object) object method ≡ Some body
    → body_found program (object_at after object) object method ≡ Some body
body_stays program config after None method body grows is = is
body_stays program config after (Some index) method body grows is =
    let own = body_of_object program (slice_get config.objects index) index method body is in
    let now = grows.each index own.0 own.2 in
    rw (own.3, now.1, now.2) own.4

-- a frame stays one of the program
pub frame_stays : (program : ProgramTree) (config after : Configuration) (frame : FrameState) → Outgrows config after
    → IsFrameOf program config frame → IsFrameOf program after frame
frame_stays program config after frame grows is = record {
  body = is.body;
  body_there = body_stays program config after frame.object frame.method is.body grows is.body_there;
  slots_are = is.slots_are;
  next_is = is.next_is;
}

-- what is below the number of fields of an object stays so
fields_stay : (config after : Configuration) (object : Option ℕ) (field : ℕ) → Outgrows config after
    → field < length (fields_of (object_at config object)) → field < length (fields_of (object_at after object))
fields_stay config after None field grows within = within
fields_stay config after (Some index) field grows within = by_cell (slice_get config.objects index) refl within
  where
    by_cell : (cell : Option ObjectState) → slice_get config.objects index ≡ cell → field < length (fields_of cell)
        → field < length (fields_of (slice_get after.objects index))
    by_cell None there within = absurd (omega (arith, within))
    by_cell (Some cell) there within =
        let found = grows.each index cell there in rw found.1 (omega (arith, within, found.3))

-- a target stays in its frame
pub target_stays : (config after : Configuration) (below : Option FrameState) (target : Target)
    → Outgrows config after → TargetIsIn config below target → TargetIsIn after below target
target_stays config after below Nothing grows is = tt
target_stays config after None (Local slot) grows is = is
target_stays config after None (Field field) grows is = is
target_stays config after (Some below) (Local slot) grows is = is
target_stays config after (Some below) (Field field) grows is =
    fields_stay config after below.object field grows is

-- a task stays one of the program
pub task_stays : (program : ProgramTree) (config after : Configuration) (task : TaskState) → Outgrows config after
    → IsTaskOf program config task → IsTaskOf program after task
task_stays program config after task grows is = record {
  frames_are = λ depth frame there. frame_stays program config after frame grows (is.frames_are depth frame there);
  targets_are = λ depth frame there. target_stays config after (slice_get task.frames (suc depth)) frame.target grows
      (is.targets_are depth frame there);
  awaiting = is.awaiting;
}
