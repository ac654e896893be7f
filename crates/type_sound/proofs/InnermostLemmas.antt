-- The innermost frame of a task that runs, and its next statement.
--
--   `IsInnermost`, `innermost_is`  what the innermost frame executes
--   `IsNext`, `next_is`            the next statement is one of the body that the frame executes
--   `HasObject`, `class_of_frame`  a frame that sees `this` has an object of that class
use Rattle.std.proofs.Common.{◌≡◌, ℕ, Option, Some, None, refl, sym, ap, ◌∙◌, subst}
use Rattle.std.specs.Prelude.{slice_get}
use Rattle.std.proofs.lemmas.Option.{none-some, same_Some, option_and_then_some}
use Rattle.abs_program.specs.Control.{Point, program_points}
use Rattle.abs_program.specs.ProgramBodies.{BodyAt, IsStatementOf}
use Rattle.abs_tree.specs.Syntax.{Name, ProgramTree}
use Rattle.abs_types.specs.OperatorTypes.{unit_type}
use Rattle.config_state.specs.Configurations.{ObjectState, FrameState, Configuration, object_at}
use Rattle.config_state.specs.OfProgram.{IsFrameOf, IsConfigOf, next_point}
use Rattle.step_rules.specs.Lookups.{Runner}
use Rattle.step_rules.specs.RuleParts.{IsRunner}
use Rattle.type_sound.proofs.NextScopeLemmas.{innermost, routine_body}
use Rattle.type_sound.proofs.RoutineLemmas.{routine_of_method}
use Rattle.type_sound.specs.Routines.{Routine, main_routine, routine_found, routine_of}
use Rattle.type_sound.specs.WellTyped.{IsWellTyped}

-- The innermost frame executes the body of this routine, and where no statement of it is left, the result type is
-- `Unit`.
pub record IsInnermost (program : ProgramTree) (config : Configuration) (at : Runner) : Type 0 where
  pub routine : Routine
  pub there : routine_of program config at.frame ≡ Some routine
  pub of_program : IsFrameOf program config at.frame
  pub body_is : of_program.body ≡ routine.body
  pub ends : at.frame.next ≡ None → routine.result ≡ unit_type

-- so it is with each task that runs
pub innermost_is : (program : ProgramTree) (config : Configuration) (at : Runner) → IsConfigOf program config
    → IsWellTyped program config → IsRunner config at → IsInnermost program config at
innermost_is program config at of_program typed runner =
    let own = innermost program config of_program typed at runner in
    let frame = own.typed in
    record {
      routine = frame.routine;
      there = frame.there;
      of_program = own.of_program;
      body_is = routine_body program config at.frame own.of_program.body frame.routine own.of_program.body_there
          frame.there;
      ends = frame.ends;
    }

-- The next statement of a frame has this index, and is one of the body.
pub record IsNext (program : ProgramTree) (frame : FrameState) (routine : Routine) (point : Point) : Type 0 where
  pub statement : ℕ
  pub next : frame.next ≡ Some statement
  pub there : slice_get (program_points program.source) statement ≡ Some point
  pub of_body : IsStatementOf routine.body statement

-- so it is with that of the innermost frame
pub next_is : (program : ProgramTree) (config : Configuration) (at : Runner) (point : Point)
    → (own : IsInnermost program config at) → next_point program at.frame ≡ Some point
    → IsNext program at.frame own.routine point
next_is program config at point own is =
    option_and_then_some (slice_get (program_points program.source)) at.frame.next point is
    (λ statement next there. record {
      statement = statement;
      next = next;
      there = there;
      of_body = subst (λ (body : BodyAt). IsStatementOf body statement) own.body_is
          (own.of_program.next_is statement next);
    })

-- The frame has an object of this class.
pub record HasObject (program : ProgramTree) (config : Configuration) (frame : FrameState) (class : Name) : Type 0 where
  pub object : ObjectState
  pub object_is : object_at config frame.object ≡ Some object
  pub class_is : object.class ≡ class

-- what is found for an object and a method sees the class of the object
class_found_by : (program : ProgramTree) (object : Option ObjectState) (method : Option Name) (routine : Routine)
    (class : Name) → routine_found program object method ≡ Some routine → routine.start.this ≡ Some class
    → (cell : ObjectState) × (object ≡ Some cell) × (cell.class ≡ class)
class_found_by program None None routine class is this_is = absurd (none-some class
    (ap (λ (one : Routine). one.start.this) (same_Some (main_routine program) routine is) ∙ this_is))
class_found_by program None (Some method) routine class is this_is = absurd (none-some routine is)
class_found_by program (Some object) None routine class is this_is = absurd (none-some routine is)
class_found_by program (Some object) (Some method) routine class is this_is = (
  object,
  refl,
  same_Some object.class class (sym (routine_of_method program object.class method routine is).0 ∙ this_is),
)

-- a frame that sees `this` has an object of that class
pub class_of_frame : (program : ProgramTree) (config : Configuration) (frame : FrameState) (routine : Routine)
    (class : Name) → routine_of program config frame ≡ Some routine → routine.start.this ≡ Some class
    → HasObject program config frame class
class_of_frame program config frame routine class is this_is =
    let own = class_found_by program (object_at config frame.object) frame.method routine class is this_is in
    record { object = own.0; object_is = own.1; class_is = own.2 }
