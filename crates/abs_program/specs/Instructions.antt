-- What the statements of a program do, one instruction for each statement that has an index.
--
--   `EffectTree`                           what happens with the values of a statement's expressions
--   `InstructionTree`                      a statement's place, its expressions, its effect, and where control goes
--   `waits_of`, `slot_of`                  the slots that a guard names, and the slot that an expression is
--   `side_expr_trees`, `side_effect`       the expressions and the effect of a right side
--   `expr_trees_of`, `effect_of`           those of a statement
--   `instruction_of`, `instructions`       the instruction of a point, and all of a program
use Rattle.std.specs.Prelude.{ℕ, List, [], ◌∷◌, map, Option, Some, None, if◌then◌else◌}
use Rattle.abs_program.specs.Control.{Goes, Point, program_points}
use Rattle.abs_program.specs.Slots.{is_this}
use Rattle.abs_tree.specs.Syntax.{Name, VariableTree, Unresolved, AtSlot, ExprTree, VariableOf, OwnCallOf, ExprTrees, NoExpr, NextExpr, SideTree, NewOf, ValueOf, SendOf, GetOf, CallOf, Tests, NoTest, NextTest, TargetTree, ToVariable, ToField, NoSide, SomeSide, Statement, BlockOf, SkipOf, SuspendOf, AwaitOf, ReturnOf, PrintOf, IfOf, WhileOf, DeclareOf, AssignOf, DoOf, SourceTree}
use Rattle.abs_tree.specs.SyntaxPlaces.{statement_place}
use Rattle.abs_tree.specs.declared.syntax.statement.Mode.{Mode}

-- What happens with the values of a statement's expressions. A target is a variable; a statement without one has none.
-- `Awaits` names the slots of the parts of a guard that a "?" follows, and `Gets` that of its future; a part that is no
-- slot names none.
pub data EffectTree : Type 0 where
  Skips : EffectTree
  Suspends : EffectTree
  Awaits : (slots : List (Option ℕ)) → EffectTree
  Chooses : EffectTree
  Returns : EffectTree
  Prints : EffectTree
  Clears : (target : VariableTree) → EffectTree
  Stores : (target : Option VariableTree) → EffectTree
  Makes : (mode : Mode) (class : Name) (target : Option VariableTree) → EffectTree
  Sends : (method : Name) (target : Option VariableTree) → EffectTree
  CallsOwn : (method : Name) (target : Option VariableTree) → EffectTree
  CallsOther : (method : Name) (slot : Option ℕ) (target : Option VariableTree) → EffectTree
  Gets : (slot : Option ℕ) (target : Option VariableTree) → EffectTree

-- A statement as it is executed: its offset in the source, the expressions that it evaluates, in this order, what
-- happens with their values, and where control goes.
pub record InstructionTree : Type 0 where
  pub place : ℕ
  pub expr_trees : ExprTrees
  pub effect : EffectTree
  pub goes : Goes

-- one expression
abbrev pub one_expr : ExprTree → ExprTrees
one_expr expr_tree = NextExpr expr_tree NoExpr

-- the slot that an expression is
abbrev pub slot_of : ExprTree → Option ℕ
slot_of (VariableOf place (AtSlot slot)) = Some slot
slot_of _ = None

-- the slots that a guard names: those of its parts that a "?" follows
abbrev pub waits_of : Tests → List (Option ℕ)
waits_of NoTest = []
waits_of (NextTest place value asks others) = if asks then slot_of value ∷ waits_of others else waits_of others

-- the variable that a target is
abbrev pub target_variable : TargetTree → VariableTree
target_variable (ToVariable place variable) = variable
target_variable (ToField place name_place name) = Unresolved name

-- the expressions of a right side: a receiver comes before its arguments, and `this` as a receiver is not evaluated
abbrev pub side_expr_trees : SideTree → ExprTrees
side_expr_trees (NewOf place mode class_place class arguments) = arguments
side_expr_trees (ValueOf place (OwnCallOf at method arguments)) = arguments
side_expr_trees (ValueOf place value) = one_expr value
side_expr_trees (SendOf place method operands) = operands
side_expr_trees (GetOf place get_place future) = NoExpr
side_expr_trees (CallOf place method NoExpr slot) = NoExpr
side_expr_trees (CallOf place method (NextExpr receiver arguments) slot) =
    if is_this receiver then arguments else NextExpr receiver arguments

-- the effect of a right side whose value goes to this target
abbrev pub side_effect : SideTree → Option VariableTree → EffectTree
side_effect (NewOf place mode class_place class arguments) target = Makes mode class target
side_effect (ValueOf place (OwnCallOf at method arguments)) target = CallsOwn method target
side_effect (ValueOf place value) target = Stores target
side_effect (SendOf place method operands) target = Sends method target
side_effect (GetOf place get_place future) target = Gets (slot_of future) target
side_effect (CallOf place method NoExpr slot) target = CallsOther method slot target
side_effect (CallOf place method (NextExpr receiver arguments) slot) target =
    if is_this receiver then CallsOwn method target else CallsOther method slot target

-- the expressions of a statement
abbrev pub expr_trees_of : Statement → ExprTrees
expr_trees_of (ReturnOf index place value) = one_expr value
expr_trees_of (PrintOf index place value) = one_expr value
expr_trees_of (IfOf index place condition first second) = one_expr condition
expr_trees_of (WhileOf index place condition body) = one_expr condition
expr_trees_of (DeclareOf index place type variable_place variable NoSide) = NoExpr
expr_trees_of (DeclareOf index place type variable_place variable (SomeSide side)) = side_expr_trees side
expr_trees_of (AssignOf index place target side) = side_expr_trees side
expr_trees_of (DoOf index place side) = side_expr_trees side
expr_trees_of _ = NoExpr

-- the effect of a statement; a block has no index, and none is asked for its effect
abbrev pub effect_of : Statement → EffectTree
effect_of (BlockOf place block) = Skips
effect_of (SkipOf index place) = Skips
effect_of (SuspendOf index place) = Suspends
effect_of (AwaitOf index place guard) = Awaits (waits_of guard)
effect_of (ReturnOf index place value) = Returns
effect_of (PrintOf index place value) = Prints
effect_of (IfOf index place condition first second) = Chooses
effect_of (WhileOf index place condition body) = Chooses
effect_of (DeclareOf index place type variable_place variable NoSide) = Clears variable
effect_of (DeclareOf index place type variable_place variable (SomeSide side)) = side_effect side (Some variable)
effect_of (AssignOf index place target side) = side_effect side (Some (target_variable target))
effect_of (DoOf index place side) = side_effect side None

-- the instruction of a statement with its successors
abbrev pub instruction_of : Point → InstructionTree
instruction_of point = record {
  place = (statement_place point.statement).offset;
  expr_trees = expr_trees_of point.statement;
  effect = effect_of point.statement;
  goes = point.goes;
}

-- the instructions of a program, in the order of the indices of its statements
unfoldable pub instructions : SourceTree → List InstructionTree
instructions program = map instruction_of (program_points program)
