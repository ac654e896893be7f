-- The declared types of all slots of a body, by the recursion of its slots. A parameter and a local have the types that
-- they are declared with. The slot for the result of a call by "." on another object has none.
--
--   `no_types`                                 slots without declared types
--   `statement_slot_types`, ..                 those of the slots of statements
--   `slot_types`                               those of the slots of a body
use Rattle.std.specs.Prelude.{List, [], ◌∷◌, ◌++◌, map, Option, Some, None}
use Rattle.abs_program.specs.Slots.{side_slots, maybe_side_slots}
use Rattle.abs_tree.specs.Syntax.{TypeTree, ParamTree, Statement, BlockOf, IfOf, WhileOf, DeclareOf, AssignOf, DoOf, MaybeStatements, NoElse, Else, Statements, NoStatement, NextStatement}
use Rattle.abs_tree.specs.declared.syntax.slot.Slot.{Slot}

-- slots without declared types
abbrev pub no_types : List Slot → List (Option TypeTree)
no_types slots = map (λ slot. None) slots

unfoldable mutual
  -- the types of the slots of a statement
  pub statement_slot_types : Statement → List (Option TypeTree)
  statement_slot_types (BlockOf place block) = statements_slot_types block
  statement_slot_types (IfOf index place condition first second) =
      statements_slot_types first ++ else_slot_types second
  statement_slot_types (WhileOf index place condition body) = statements_slot_types body
  statement_slot_types (DeclareOf index place type variable_place variable initial) =
      no_types (maybe_side_slots index initial) ++ Some type ∷ []
  statement_slot_types (AssignOf index place target side) = no_types (side_slots index side)
  statement_slot_types (DoOf index place side) = no_types (side_slots index side)
  statement_slot_types _ = []

  pub else_slot_types : MaybeStatements → List (Option TypeTree)
  else_slot_types NoElse = []
  else_slot_types (Else branch) = statements_slot_types branch

  pub statements_slot_types : Statements → List (Option TypeTree)
  statements_slot_types NoStatement = []
  statements_slot_types (NextStatement first others) =
      statement_slot_types first ++ statements_slot_types others

-- the types of the slots of a body with these parameters
unfoldable pub slot_types : List ParamTree → Statements → List (Option TypeTree)
slot_types params statements = map (λ param. Some param.type_of) params ++ statements_slot_types statements
