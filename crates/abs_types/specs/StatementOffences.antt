-- The offences of statements by their types. What a declaration declares is visible after it, up to the end of its
-- block or its branch.
--
--   `frame_after`                  what is around the statement after this one
--   `target_type`                  the type of what is assigned to
--   `unfit_place`                  where a right side offends that does not fit
--   `test_offences`                the offences of a guard
--   `statement_offences`, ..       those of a statement, and of several; whether they are the last of a method's body
use Rattle.std.specs.Prelude.{Bool, true, false, not, ◌&&◌, List, [], ◌++◌, set, Option, Some, None, is_none, if◌then◌else◌}
use Rattle.abs_tree.specs.Syntax.{VariableTree, AtSlot, DeclTree, ExprTree, SideTree, NewOf, ValueOf, SendOf, GetOf, CallOf, Tests, NoTest, NextTest, TargetTree, ToVariable, ToField, MaybeSide, NoSide, SomeSide, Statement, BlockOf, SkipOf, SuspendOf, AwaitOf, ReturnOf, PrintOf, IfOf, WhileOf, DeclareOf, AssignOf, DoOf, MaybeStatements, NoElse, Else, Statements, NoStatement, NextStatement}
use Rattle.abs_tree.specs.SyntaxPlaces.{expr_place}
use Rattle.abs_tree.specs.declared.place.Place.{Place}
use Rattle.abs_tree.specs.declared.refusal.Code.TheVariants.{T3, T5}
use Rattle.abs_tree.specs.declared.refusal.Offence.{Offence}
use Rattle.abs_types.specs.Endings.{are_empty}
use Rattle.abs_types.specs.ExpressionOffences.{expr_offences}
use Rattle.abs_tree.specs.Offences.{offence_if}
use Rattle.abs_types.specs.Mistyped.{mistyped_if, unfit}
use Rattle.abs_types.specs.OperatorTypes.{bool_type}
use Rattle.abs_types.specs.PlainTypes.{PlainType, PlainString, PlainFut, PlainInterface, plain}
use Rattle.abs_types.specs.SideTypes.{future_type, side_offences, side_type}
use Rattle.abs_types.specs.Typing.{Frame, type_in, variable_type}

-- whether a variable of a type can be without a value: an interface, or `Fut`
abbrev pub can_be_null : PlainType → Bool
can_be_null (PlainInterface name) = true
can_be_null (PlainFut value) = true
can_be_null _ = false

-- what is around the statement after a declaration of a variable with a type
abbrev pub with_variable : Frame → VariableTree → PlainType → Frame
with_variable frame (AtSlot slot) type = record frame { slots = set frame.slots slot (Some type) }
with_variable frame _ type = frame

-- what is around the statement after this one
abbrev pub frame_after : Frame → Statement → Frame
frame_after frame (DeclareOf index place type variable_place variable initial) =
    with_variable frame variable (plain type)
frame_after frame _ = frame

-- the type of what is assigned to: a parameter, a local or a field; and its offence, if it is none of these
abbrev pub target_type : Frame → TargetTree → Option PlainType
target_type frame (ToVariable place variable) = variable_type frame [] variable
target_type frame (ToField place name_place name) = None

abbrev pub target_place : TargetTree → Place
target_place (ToVariable place variable) = place
target_place (ToField place name_place name) = place

-- where a right side offends that does not fit: an expression at its own place, so parentheses around it do not count
abbrev pub unfit_place : SideTree → Place
unfit_place (ValueOf place value) = expr_place value
unfit_place (NewOf place mode class_place class arguments) = place
unfit_place (SendOf place method operands) = place
unfit_place (GetOf place get_place future) = place
unfit_place (CallOf place method operands slot) = place

-- a right side that does not fit
abbrev pub unfit_side : List DeclTree → Frame → SideTree → Option PlainType → List Offence
unfit_side declarations frame side (Some asked) =
    unfit declarations (side_type declarations frame side) asked (unfit_place side)
unfit_side declarations frame side None = []

-- the offences of an expression, and of a type of it that does not fit what is asked for
abbrev pub asked_offences : List DeclTree → Frame → ExprTree → PlainType → Place → List Offence
asked_offences declarations frame value asked place =
    expr_offences declarations frame [] value ++ unfit declarations (type_in declarations frame [] value) asked place

-- the offences of a part of a guard: with "?" it is a parameter or a local of a `Fut` type, without it a Bool
abbrev pub part_offences : List DeclTree → Frame → Place → ExprTree → Bool → List Offence
part_offences declarations frame place value asks =
    if asks then expr_offences declarations frame [] value ++ mistyped_if (is_none (future_type frame value)) place
    else asked_offences declarations frame value bool_type place

-- the offences of a guard
abbrev pub test_offences : List DeclTree → Frame → Tests → List Offence
test_offences declarations frame NoTest = []
test_offences declarations frame (NextTest place value asks others) =
    part_offences declarations frame place value asks ++ test_offences declarations frame others

-- the offences of the right side of a declaration: without one the type is to have `null`
abbrev pub initial_offences : List DeclTree → Frame → PlainType → Place → MaybeSide → List Offence
initial_offences declarations frame type place NoSide = offence_if (not (can_be_null type)) T3 place
initial_offences declarations frame type place (SomeSide side) =
    side_offences declarations frame side ++ unfit_side declarations frame side (Some type)

-- the offences of the value of a `return`, which a body without a result type may not have
abbrev pub result_offences : List DeclTree → Frame → ExprTree → Option PlainType → List Offence
result_offences declarations frame value (Some result) =
    asked_offences declarations frame value result (expr_place value)
result_offences declarations frame value None = mistyped_if true (expr_place value)

abbrev mutual
  -- the offences of a statement; whether it is the last one of a method's body
  pub statement_offences : List DeclTree → Frame → Bool → Statement → List Offence
  statement_offences declarations frame is_last (BlockOf place block) =
      statements_offences declarations frame is_last block
  statement_offences declarations frame is_last (SkipOf index place) = []
  statement_offences declarations frame is_last (SuspendOf index place) = []
  statement_offences declarations frame is_last (AwaitOf index place guard) = test_offences declarations frame guard
  statement_offences declarations frame is_last (ReturnOf index place value) =
      offence_if (not is_last) T5 place ++ result_offences declarations frame value frame.task
  statement_offences declarations frame is_last (PrintOf index place value) =
      asked_offences declarations frame value PlainString place
  statement_offences declarations frame is_last (IfOf index place condition first second) =
      asked_offences declarations frame condition bool_type (expr_place condition)
      ++ statements_offences declarations frame false first ++ else_offences declarations frame second
  statement_offences declarations frame is_last (WhileOf index place condition body) =
      asked_offences declarations frame condition bool_type (expr_place condition)
      ++ statements_offences declarations frame false body
  statement_offences declarations frame is_last (DeclareOf index place type variable_place variable initial) =
      initial_offences declarations frame (plain type) variable_place initial
  statement_offences declarations frame is_last (AssignOf index place target side) =
      mistyped_if (is_none (target_type frame target)) (target_place target)
      ++ side_offences declarations frame side
      ++ unfit_side declarations frame side (target_type frame target)
  statement_offences declarations frame is_last (DoOf index place side) = side_offences declarations frame side

  pub else_offences : List DeclTree → Frame → MaybeStatements → List Offence
  else_offences declarations frame NoElse = []
  else_offences declarations frame (Else branch) = statements_offences declarations frame false branch

  pub statements_offences : List DeclTree → Frame → Bool → Statements → List Offence
  statements_offences declarations frame is_last NoStatement = []
  statements_offences declarations frame is_last (NextStatement first others) =
      statement_offences declarations frame (is_last && are_empty others) first
      ++ statements_offences declarations (frame_after frame first) is_last others
