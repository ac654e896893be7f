-- The rules of the table whose events touch nothing but the frames of their task and the fields of its object. They are
-- a function of these and of the output alone.
--
-- A fault is reported as a fault (`Faults`) whatever the statement is: a fault of the output is one also where the next
-- statement has no rule here. The task ends by it, its cog is released, and its kind is Finished. So a fault is no
-- local event.
--
--   `Used`, `used_of`              what the rules use of a program
--   `Local`                        frames, fields and lines after such an event, or a fault
--   `skip_rule`, `store_rule`      skip, assign
--   `choose_rule`, `print_rule`    if and while, print
--   `call_own_rule`, `pop_rule`    own call, return of an inner frame
--   `local_rule`                   the rule of the next statement, if it is one of these
use Rattle.std.specs.Prelude.{ℕ, Bool, true, List, [], ◌∷◌, length, slice_get, Option, Some, None, if◌then◌else◌, option_and_then}
use Rattle.abs_program.specs.Control.{Point, program_points}
use Rattle.abs_program.specs.Instructions.{EffectTree, Skips, Chooses, Returns, Prints, Clears, Stores, CallsOwn, effect_of}
use Rattle.abs_values.specs.Operations.{truth_of}
use Rattle.abs_values.specs.Results.{Results, AllGive, OneFails}
use Rattle.abs_tree.specs.Syntax.{Name, VariableTree, ProgramTree}
use Rattle.abs_values.specs.ValueTrees.{ValueTree, StringValue, NullValue}
use Rattle.abs_values.specs.declared.evaluated.Fault.{Fault}
use Rattle.abs_values.specs.declared.evaluated.Fault.TheVariants as fault
use Rattle.abs_program.specs.ProgramBodies.{BodyAt, entry_of_body}
use Rattle.config_state.specs.Configurations.{FrameState}
use Rattle.config_state.specs.First.{frame_for}
use Rattle.step_rules.specs.Lookups.{successor, callable, unit_value, same_object}
use Rattle.step_rules.specs.Targets.{FramesAndFields, target_of, put, advanced}
use Rattle.step_rules.specs.declared.kind.Did.{Did}
use Rattle.step_rules.specs.declared.kind.Did.TheVariants as did

-- what the rules use of a program: its names, the statement with an index, and the body of the method of the own class
-- with a name and a number of parameters
pub record Used : Type 0 where
  pub names : List Name
  pub points : ℕ → Option Point
  pub bodies : Name → ℕ → Option BodyAt

-- what they use of a whole program, given the name of the class of the own object
abbrev pub used_of : ProgramTree → Option Name → Used
used_of program class = record {
  names = program.names;
  points = slice_get (program_points program.source);
  bodies = λ method arguments. option_and_then (λ name. callable program name method arguments) class;
}

-- what such an event leaves: frames and fields, what it printed, and its kind; or a fault
pub data Local : Type 0 where
  Leaves : (own : FramesAndFields) (lines : List (List ℕ)) (kind : Did) → Local
  Faults : (fault : Fault) → Local

-- skip: nothing else changes
abbrev pub skip_rule : Option ℕ → FrameState → List FrameState → List ValueTree → Local
skip_rule next frame others fields = Leaves (advanced next frame others fields) [] did.Went

-- assign: the value of a declaration, an assignment or an expression statement goes to its target
abbrev pub store_rule : Option VariableTree → Option ℕ → FrameState → List FrameState → List ValueTree
    → List ValueTree → Local
store_rule target next frame others fields (value ∷ []) =
    Leaves (put (target_of target) value next frame others fields) [] did.Went
store_rule target next frame others fields values = Faults fault.Mistyped

-- if, while: control goes by the answer of the condition, which must be a Bool
abbrev pub choose_by : (Bool → Option ℕ) → FrameState → List FrameState → List ValueTree → Option Bool → Local
choose_by next frame others fields (Some answer) = Leaves (advanced (next answer) frame others fields) [] did.Went
choose_by next frame others fields None = Faults fault.Mistyped

abbrev pub choose_rule : List Name → (Bool → Option ℕ) → FrameState → List FrameState → List ValueTree
    → List ValueTree → Local
choose_rule names next frame others fields (value ∷ []) = choose_by next frame others fields (truth_of names value)
choose_rule names next frame others fields values = Faults fault.Mistyped

-- print: the value, which must be a string, is a line
abbrev pub print_rule : Option ℕ → FrameState → List FrameState → List ValueTree → List ValueTree → Local
print_rule next frame others fields (StringValue string ∷ []) =
    Leaves (advanced next frame others fields) (string ∷ []) did.Printed
print_rule next frame others fields values = Faults fault.Mistyped

-- own call: a frame of the method is pushed, whose first slots are the arguments. There must be an object, and its
-- class must have a method with this name and number of parameters
abbrev pub push_rule : Name → Option VariableTree → Option ℕ → FrameState → List FrameState → List ValueTree
    → List ValueTree → Option BodyAt → Local
push_rule method target next frame others fields values (Some body) = Leaves (record {
  frames = frame_for (entry_of_body body) (Some method) frame.object values (target_of target)
      ∷ record frame { next = next } ∷ others;
  fields = fields;
}) [] did.Called
push_rule method target next frame others fields values None = Faults fault.Mistyped

abbrev pub call_own_rule : Used → Name → Option VariableTree → Option ℕ → FrameState → List FrameState
    → List ValueTree → List ValueTree → Local
call_own_rule used method target next frame others fields values =
    push_rule method target next frame others fields values (used.bodies method (length values))

-- return of an inner frame to one of the same object: the frame is popped, and its value goes to its target
abbrev pub pop_rule : FrameState → List FrameState → List ValueTree → ValueTree → Option Local
pop_rule frame [] fields value = None
pop_rule frame (below ∷ others) fields value =
    if same_object below.object frame.object
    then Some (Leaves (put frame.target value below.next below others fields) [] did.Went)
    else None

abbrev pub return_rule : FrameState → List FrameState → List ValueTree → List ValueTree → Option Local
return_rule frame others fields (value ∷ []) = pop_rule frame others fields value
return_rule frame others fields values = Some (Faults fault.Mistyped)

-- the rule of a statement, if it is one of these
abbrev pub statement_rule : Used → FrameState → List FrameState → List ValueTree → Point
    → List ValueTree → EffectTree → Option Local
statement_rule used frame others fields point values Skips =
    Some (skip_rule (successor point.goes true) frame others fields)
statement_rule used frame others fields point values (Stores target) =
    Some (store_rule target (successor point.goes true) frame others fields values)
statement_rule used frame others fields point values (Clears target) =
    Some (store_rule (Some target) (successor point.goes true) frame others fields (NullValue ∷ []))
statement_rule used frame others fields point values Chooses =
    Some (choose_rule used.names (successor point.goes) frame others fields values)
statement_rule used frame others fields point values Prints =
    Some (print_rule (successor point.goes true) frame others fields values)
statement_rule used frame others fields point values (CallsOwn method target) =
    Some (call_own_rule used method target (successor point.goes true) frame others fields values)
statement_rule used frame others fields point values Returns = return_rule frame others fields values
statement_rule used frame others fields point values effect = None

-- the rule of what is next in a frame: its next statement, or its end, where it returns `Unit`
abbrev pub next_rule : Used → FrameState → List FrameState → List ValueTree → List ValueTree
    → Option ℕ → Option Local
next_rule used frame others fields values None = pop_rule frame others fields (unit_value used.names)
next_rule used frame others fields values (Some index) = option_and_then
    (λ point. statement_rule used frame others fields point values (effect_of point.statement))
    (used.points index)

-- the rule of what a task does next, given what it uses of the program, its frames with the fields of the object of the
-- innermost one, and the output; a fault of the output is its fault
unfoldable pub local_rule : Used → List FrameState → List ValueTree → Results → Option Local
local_rule used [] fields results = None
local_rule used (frame ∷ others) fields (OneFails cause) = Some (Faults cause)
local_rule used (frame ∷ others) fields (AllGive values) =
    next_rule used frame others fields values frame.next
