-- What the rules of the table of events look up.
--
--   `Runner`                   a task that runs, with its innermost frame
--   `successor`, `place_of`    where control goes after a statement, and where the statement is in the source
--   `callable`                 the method with a name of a class, if it has this number of parameters
--   `named_value`              the value in a slot that a statement names
--   `class_of`                 the name of the class of an object
--   `same_object`              whether two frames have the same object
--   `unit_value`               the value `Unit`
use Rattle.std.specs.Prelude.{ℕ, nat_eq, Bool, true, false, List, codes, slice_get, Option, Some, None, if◌then◌else◌, option_and_then}
use Rattle.abs_program.specs.Control.{Goes, Next, ByAnswer, Point}
use Rattle.abs_tree.specs.Names.{number_of_name}
use Rattle.abs_tree.specs.Syntax.{Name, ProgramTree}
use Rattle.abs_tree.specs.SyntaxPlaces.{statement_place}
use Rattle.abs_values.specs.ValueTrees.{ValueTree, BuiltValue, NoPart}
use Rattle.abs_program.specs.ProgramBodies.{BodyAt}
use Rattle.config_state.specs.Bodies.{method_at}
use Rattle.config_state.specs.Configurations.{ObjectState, FrameState, TaskState}

-- a task that runs: its index, the task, its innermost frame, and its other frames
pub record Runner : Type 0 where
  pub index : ℕ
  pub task : TaskState
  pub frame : FrameState
  pub others : List FrameState

-- where control goes after a statement: to the next one, or by the answer of its condition. A statement without a
-- condition has one successor, whatever the answer
abbrev pub successor : Goes → Bool → Option ℕ
successor (Next index) answer = index
successor (ByAnswer when_true when_false) answer = if answer then when_true else when_false

-- the offset of a statement in the source
abbrev pub place_of : Point → ℕ
place_of point = (statement_place point.statement).offset

-- the body, if it has this number of parameters
abbrev pub taking : ℕ → BodyAt → Option BodyAt
taking arguments body = if nat_eq body.params arguments then Some body else None

-- the body of the method with a name of the class with a name, if it has this number of parameters
abbrev pub callable : ProgramTree → Name → Name → ℕ → Option BodyAt
callable program class method arguments = option_and_then (taking arguments) (method_at program class method)

-- the value in the slot that a statement names, if it names one
abbrev pub named_value : List ValueTree → Option ℕ → Option ValueTree
named_value slots name = option_and_then (slice_get slots) name

-- the name of the class of an object
abbrev pub class_of : Option ObjectState → Option Name
class_of None = None
class_of (Some object) = Some object.class

-- whether two frames have the same object, or both none
abbrev pub same_object : Option ℕ → Option ℕ → Bool
same_object None None = true
same_object (Some one) (Some other) = nat_eq one other
same_object one other = false

-- the value `Unit`
abbrev pub unit_value : List Name → ValueTree
unit_value names = BuiltValue (number_of_name names (codes "Unit")) NoPart
