-- Where the values of statements and of frames go. Assign, new, call, get and return all put their value by this.
--
--   `FramesAndFields`                      frames with the fields of the innermost one's object
--   `target_of`                the target of a statement
--   `slots_after`, `fields_after`      slots and fields after a value went to a target
--   `put`, `advanced`          a value goes to a target of a frame, and no value goes anywhere
use Rattle.std.specs.Prelude.{ℕ, List, ◌∷◌, set, Option, Some, None}
use Rattle.abs_tree.specs.Syntax.{VariableTree, AtSlot, AtField, AtBound, Unresolved}
use Rattle.abs_values.specs.ValueTrees.{ValueTree, NullValue}
use Rattle.config_state.specs.Configurations.{FrameState}
use Rattle.config_state.specs.declared.frame.Target.{Target}
use Rattle.config_state.specs.declared.frame.Target.TheVariants.{Nothing, Local, Field}

-- frames, the innermost first, and the values of the fields of the innermost one's object
pub record FramesAndFields : Type 0 where
  pub frames : List FrameState
  pub fields : List ValueTree

-- where a statement puts its value: to a slot or to a field. A statement without a target puts it nowhere. A resolved
-- program has no other targets
abbrev pub target_of : Option VariableTree → Target
target_of None = Nothing
target_of (Some (AtSlot slot)) = Local slot
target_of (Some (AtField field)) = Field field
target_of (Some (AtBound depth)) = Nothing
target_of (Some (Unresolved name)) = Nothing

-- the slots and the fields after a value went to a target
abbrev pub slots_after : Target → ValueTree → List ValueTree → List ValueTree
slots_after (Local slot) value slots = set slots slot value
slots_after Nothing value slots = slots
slots_after (Field field) value slots = slots

abbrev pub fields_after : Target → ValueTree → List ValueTree → List ValueTree
fields_after (Field field) value fields = set fields field value
fields_after Nothing value fields = fields
fields_after (Local slot) value fields = fields

-- a value goes to a target of this frame, whose next statement then is the one given; the frame is the innermost of
-- these, and the fields are those of its object
abbrev pub put : Target → ValueTree → Option ℕ → FrameState → List FrameState → List ValueTree → FramesAndFields
put target value next frame others fields = record {
  frames = record frame { slots = slots_after target value frame.slots; next = next } ∷ others;
  fields = fields_after target value fields;
}

-- the innermost frame goes on with this statement, and nothing else changes
abbrev pub advanced : Option ℕ → FrameState → List FrameState → List ValueTree → FramesAndFields
advanced next frame others fields = put Nothing NullValue next frame others fields
