-- Right sides and statements that are well typed, as relations: a constructor for each form.
--
--   `SideHasType`                  a right side has a type
--   `AreTests`                     a guard is well typed
--   `IsTyped`, `AreTyped`          a statement, and several: whether they are the last of a method's body
use Rattle.std.specs.Prelude.{◌≡◌, ℕ, Bool, true, false, ◌&&◌, List, [], slice_get, Option, Some}
use Rattle.abs_tree.specs.Syntax.{Name, TypeTree, VariableTree, AtSlot, DeclTree, ExprTree, OwnCallOf, VariableOf, ExprTrees, NextExpr, SideTree, NewOf, ValueOf, SendOf, GetOf, CallOf, Tests, NoTest, NextTest, TargetTree, NoSide, SomeSide, Statement, BlockOf, SkipOf, SuspendOf, AwaitOf, ReturnOf, PrintOf, IfOf, WhileOf, DeclareOf, AssignOf, DoOf, MaybeStatements, NoElse, Else, Statements, NoStatement, NextStatement}
use Rattle.abs_tree.specs.declared.place.Place.{Place}
use Rattle.abs_tree.specs.declared.syntax.statement.Mode.{Mode}
use Rattle.abs_types.specs.Applications.{AllFit}
use Rattle.abs_types.specs.Endings.{are_empty}
use Rattle.abs_types.specs.HasType.{HasType, HaveTypes}
use Rattle.abs_types.specs.Methods.{call_type}
use Rattle.abs_types.specs.OperatorTypes.{bool_type}
use Rattle.abs_types.specs.PlainTypes.{PlainType, PlainString, PlainFut, PlainClass, plain}
use Rattle.abs_types.specs.SideTypes.{class_takes}
use Rattle.abs_types.specs.StatementOffences.{can_be_null, frame_after, target_type}
use Rattle.abs_types.specs.Subtyping.{Fits}
use Rattle.abs_types.specs.Typing.{Frame}

-- A right side has a type. A call on `this` has one here, as a whole right side.
pub data SideHasType (declarations : List DeclTree) (frame : Frame) : SideTree → PlainType → Type 0 where
  new_object : (place class_place : Place) (mode : Mode) (class : Name) (arguments : ExprTrees)
      (given takes : List PlainType) → HaveTypes declarations frame [] arguments given
      → class_takes declarations class ≡ Some takes → AllFit declarations given takes
      → SideHasType declarations frame (NewOf place mode class_place class arguments) (PlainClass class)
  value : (place : Place) (expr_tree : ExprTree) (type : PlainType) → HasType declarations frame [] expr_tree type
      → SideHasType declarations frame (ValueOf place expr_tree) type
  own_call : (place call_place : Place) (method class : Name) (arguments : ExprTrees) (given : List PlainType)
      (type : PlainType) → frame.this ≡ Some class → HaveTypes declarations frame [] arguments given
      → call_type declarations (PlainClass class) method given ≡ Some type
      → SideHasType declarations frame (ValueOf place (OwnCallOf call_place method arguments)) type
  sent : (place : Place) (method : Name) (receiver : ExprTree) (arguments : ExprTrees) (object : PlainType)
      (given : List PlainType) (type : PlainType) → HasType declarations frame [] receiver object
      → HaveTypes declarations frame [] arguments given → call_type declarations object method given ≡ Some type
      → SideHasType declarations frame (SendOf place method (NextExpr receiver arguments)) (PlainFut type)
  called : (place : Place) (method : Name) (receiver : ExprTree) (arguments : ExprTrees) (hidden : Option ℕ)
      (object : PlainType) (given : List PlainType) (type : PlainType) → HasType declarations frame [] receiver object
      → HaveTypes declarations frame [] arguments given → call_type declarations object method given ≡ Some type
      → SideHasType declarations frame (CallOf place method (NextExpr receiver arguments) hidden) type
  got : (place get_place variable_place : Place) (slot : ℕ) (type : PlainType)
      → slice_get frame.slots slot ≡ Some (Some (PlainFut type))
      → SideHasType declarations frame (GetOf place get_place (VariableOf variable_place (AtSlot slot))) type

-- A guard is well typed: a part with "?" is a parameter or a local of a `Fut` type, and one without it is a Bool.
pub data AreTests (declarations : List DeclTree) (frame : Frame) : Tests → Type 0 where
  no_test : AreTests declarations frame NoTest
  asked : (place variable_place : Place) (slot : ℕ) (type : PlainType) (others : Tests)
      → slice_get frame.slots slot ≡ Some (Some (PlainFut type)) → AreTests declarations frame others
      → AreTests declarations frame (NextTest place (VariableOf variable_place (AtSlot slot)) true others)
  held : (place : Place) (condition : ExprTree) (given : PlainType) (others : Tests)
      → HasType declarations frame [] condition given → Fits declarations given bool_type
      → AreTests declarations frame others → AreTests declarations frame (NextTest place condition false others)

mutual
  -- A statement is well typed, where it is the last one of a method's body or not.
  pub data IsTyped (declarations : List DeclTree) : Frame → Bool → Statement → Type 0 where
    block : (frame : Frame) (is_last : Bool) (place : Place) (statements : Statements)
        → AreTyped declarations frame is_last statements
        → IsTyped declarations frame is_last (BlockOf place statements)
    skip : (frame : Frame) (is_last : Bool) (index : ℕ) (place : Place)
        → IsTyped declarations frame is_last (SkipOf index place)
    suspend : (frame : Frame) (is_last : Bool) (index : ℕ) (place : Place)
        → IsTyped declarations frame is_last (SuspendOf index place)
    await : (frame : Frame) (is_last : Bool) (index : ℕ) (place : Place) (guard : Tests)
        → AreTests declarations frame guard → IsTyped declarations frame is_last (AwaitOf index place guard)
    return : (frame : Frame) (index : ℕ) (place : Place) (value : ExprTree) (given result : PlainType)
        → frame.task ≡ Some result → HasType declarations frame [] value given → Fits declarations given result
        → IsTyped declarations frame true (ReturnOf index place value)
    print : (frame : Frame) (is_last : Bool) (index : ℕ) (place : Place) (value : ExprTree) (given : PlainType)
        → HasType declarations frame [] value given → Fits declarations given PlainString
        → IsTyped declarations frame is_last (PrintOf index place value)
    if_else : (frame : Frame) (is_last : Bool) (index : ℕ) (place : Place) (condition : ExprTree) (first : Statements)
        (second : MaybeStatements) (given : PlainType) → HasType declarations frame [] condition given
        → Fits declarations given bool_type → AreTyped declarations frame false first
        → IsElseTyped declarations frame second
        → IsTyped declarations frame is_last (IfOf index place condition first second)
    while : (frame : Frame) (is_last : Bool) (index : ℕ) (place : Place) (condition : ExprTree) (body : Statements)
        (given : PlainType) → HasType declarations frame [] condition given → Fits declarations given bool_type
        → AreTyped declarations frame false body
        → IsTyped declarations frame is_last (WhileOf index place condition body)
    declare : (frame : Frame) (is_last : Bool) (index : ℕ) (place variable_place : Place) (type : TypeTree)
        (variable : VariableTree) → can_be_null (plain type) ≡ true
        → IsTyped declarations frame is_last (DeclareOf index place type variable_place variable NoSide)
    initialize : (frame : Frame) (is_last : Bool) (index : ℕ) (place variable_place : Place) (type : TypeTree)
        (variable : VariableTree) (side : SideTree) (given : PlainType) → SideHasType declarations frame side given
        → Fits declarations given (plain type)
        → IsTyped declarations frame is_last (DeclareOf index place type variable_place variable (SomeSide side))
    assign : (frame : Frame) (is_last : Bool) (index : ℕ) (place : Place) (target : TargetTree) (side : SideTree)
        (given type : PlainType) → target_type frame target ≡ Some type → SideHasType declarations frame side given
        → Fits declarations given type → IsTyped declarations frame is_last (AssignOf index place target side)
    do_side : (frame : Frame) (is_last : Bool) (index : ℕ) (place : Place) (side : SideTree) (given : PlainType)
        → SideHasType declarations frame side given → IsTyped declarations frame is_last (DoOf index place side)

  pub data IsElseTyped (declarations : List DeclTree) : Frame → MaybeStatements → Type 0 where
    no_else : (frame : Frame) → IsElseTyped declarations frame NoElse
    else_branch : (frame : Frame) (branch : Statements) → AreTyped declarations frame false branch
        → IsElseTyped declarations frame (Else branch)

  pub data AreTyped (declarations : List DeclTree) : Frame → Bool → Statements → Type 0 where
    no_statement : (frame : Frame) (is_last : Bool) → AreTyped declarations frame is_last NoStatement
    next_statement : (frame : Frame) (is_last : Bool) (first : Statement) (others : Statements)
        → IsTyped declarations frame (is_last && are_empty others) first
        → AreTyped declarations (frame_after frame first) is_last others
        → AreTyped declarations frame is_last (NextStatement first others)
