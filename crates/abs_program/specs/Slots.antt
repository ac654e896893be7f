-- The slots of a body. Its parameters come first. Its locals follow in the order of the source, and so do slots without
-- a name for the results of calls by "." on other objects. The slot of a call comes before that of a local that the
-- same statement declares.
--
--   `is_this`                          an expression is `this`
--   `side_slots`, `maybe_side_slots`   the slot of a call on the right side of a statement, if it has one
--   `statement_slots`, ..              those of a statement
--   `param_slots`, `body_slots`        those of parameters, and of a body
use Rattle.std.specs.Prelude.{ℕ, Bool, true, false, List, [], ◌∷◌, ◌++◌, map, if◌then◌else◌}
use Rattle.std.specs.List.{range_with_len}
use Rattle.abs_tree.specs.Syntax.{ExprTree, ThisOf, NoExpr, NextExpr, SideTree, NewOf, ValueOf, SendOf, GetOf, CallOf, MaybeSide, NoSide, SomeSide, Statement, BlockOf, SkipOf, SuspendOf, AwaitOf, ReturnOf, PrintOf, IfOf, WhileOf, DeclareOf, AssignOf, DoOf, MaybeStatements, NoElse, Else, Statements, NoStatement, NextStatement}
use Rattle.abs_tree.specs.declared.syntax.slot.Slot.{Slot}
use Rattle.abs_tree.specs.declared.syntax.slot.Slot.TheVariants.{Parameter, Local, Hidden}

-- whether an expression is `this`, in parentheses or not
abbrev pub is_this : ExprTree → Bool
is_this (ThisOf place) = true
is_this _ = false

-- the slot of a call by "." on another object than `this`, which is part of the statement with this index
abbrev pub side_slots : ℕ → SideTree → List Slot
side_slots index (CallOf place method (NextExpr receiver arguments) slot) =
    if is_this receiver then [] else Hidden index ∷ []
side_slots index (CallOf place method NoExpr slot) = []
side_slots index (NewOf place mode class_place class arguments) = []
side_slots index (ValueOf place value) = []
side_slots index (SendOf place method operands) = []
side_slots index (GetOf place get_place future) = []

abbrev pub maybe_side_slots : ℕ → MaybeSide → List Slot
maybe_side_slots index NoSide = []
maybe_side_slots index (SomeSide side) = side_slots index side

abbrev mutual
  -- the slots of a statement
  pub statement_slots : Statement → List Slot
  statement_slots (BlockOf place block) = statements_slots block
  statement_slots (SkipOf index place) = []
  statement_slots (SuspendOf index place) = []
  statement_slots (AwaitOf index place guard) = []
  statement_slots (ReturnOf index place value) = []
  statement_slots (PrintOf index place value) = []
  statement_slots (IfOf index place condition first second) = statements_slots first ++ else_slots second
  statement_slots (WhileOf index place condition body) = statements_slots body
  statement_slots (DeclareOf index place type variable_place variable initial) =
      maybe_side_slots index initial ++ Local index ∷ []
  statement_slots (AssignOf index place target side) = side_slots index side
  statement_slots (DoOf index place side) = side_slots index side

  pub else_slots : MaybeStatements → List Slot
  else_slots NoElse = []
  else_slots (Else branch) = statements_slots branch

  pub statements_slots : Statements → List Slot
  statements_slots NoStatement = []
  statements_slots (NextStatement first others) = statement_slots first ++ statements_slots others

-- the slots of parameters, of which there are this many
abbrev pub param_slots : ℕ → List Slot
param_slots count = map Parameter (range_with_len 0 count)

-- the slots of a body with this many parameters
abbrev pub body_slots : ℕ → Statements → List Slot
body_slots count statements = param_slots count ++ statements_slots statements
