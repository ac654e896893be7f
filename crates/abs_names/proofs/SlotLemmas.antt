-- Resolving keeps the slots of statements: each local and each hidden slot is still there.
use Rattle.std.proofs.Common.{◌≡◌, ◌≤◌, ℕ, ◌+◌, Bool, List, [], ◌∷◌, ◌++◌, refl, sym, ap, ◌∙◌, cond, length}
use Rattle.std.specs.Prelude.{Option, Some, None}
use Rattle.abs_tree.specs.Limits.{table_limit}
use Rattle.abs_program.specs.SlotViews.{BodyHasSlots}
use Rattle.abs_program.specs.Slots.{is_this, side_slots, maybe_side_slots, statement_slots, else_slots, statements_slots, param_slots, body_slots}
use Rattle.abs_tree.specs.SyntaxViews.{statements}
use Rattle.abs_tree.specs.declared.syntax.declaration.Body.{Body}
use Rattle.abs_tree.specs.declared.syntax.declaration.Param.{Param}
use Rattle.abs_tree.specs.Syntax.{Name, VariableTree, ExprTree, LetIn, IfElse, OperatorsOf, Prefixed, NumberOf, StringOf, NullOf, DestinyOf, ThisOf, FieldOf, OwnCallOf, VariableOf, ApplyOf, BuildOf, CaseOf, NoExpr, NextExpr, SideTree, NewOf, ValueOf, SendOf, GetOf, CallOf, MaybeSide, NoSide, SomeSide, Statement, BlockOf, SkipOf, SuspendOf, AwaitOf, ReturnOf, PrintOf, IfOf, WhileOf, DeclareOf, AssignOf, DoOf, MaybeStatements, NoElse, Else, Statements, NoStatement, NextStatement}
use Rattle.abs_tree.specs.declared.place.Place.{Place}
use Rattle.abs_tree.specs.declared.syntax.slot.Slot.{Slot}
use Rattle.abs_tree.specs.declared.syntax.slot.Slot.TheVariants.{Local, Hidden}
use Rattle.abs_names.specs.Resolution.{field_expr, resolved_expr, resolved_side, resolved_maybe_side, resolved_statement, resolved_else, resolved_statements}
use Rattle.abs_names.specs.Scopes.{Scope, field_of, statement_scope}

-- a field is not `this`
field_is_not : (place name_place : Place) (name : Name) (field : Option VariableTree)
    → is_this (field_expr place name_place name field) ≡ is_this (FieldOf place name_place name)
field_is_not place name_place name (Some variable) = refl
field_is_not place name_place name None = refl

-- an expression is `this` where the resolved one is
this_kept : (scope : Scope) (expr_tree : ExprTree) → is_this (resolved_expr scope expr_tree) ≡ is_this expr_tree
this_kept scope (LetIn place type variable_place variable value body) = refl
this_kept scope (IfElse place condition first second) = refl
this_kept scope (OperatorsOf place first operands) = refl
this_kept scope (Prefixed place prefix operand) = refl
this_kept scope (NumberOf place number) = refl
this_kept scope (StringOf place string) = refl
this_kept scope (NullOf place) = refl
this_kept scope (DestinyOf place) = refl
this_kept scope (ThisOf place) = refl
this_kept scope (FieldOf place name_place name) = field_is_not place name_place name (field_of scope name)
this_kept scope (OwnCallOf place method arguments) = refl
this_kept scope (VariableOf place variable) = refl
this_kept scope (ApplyOf place function arguments) = refl
this_kept scope (BuildOf place constructor arguments) = refl
this_kept scope (CaseOf place subject branches) = refl

-- a right side has the same hidden slot
side_kept : (scope : Scope) (next index : ℕ) (side : SideTree)
    → side_slots index (resolved_side scope next side) ≡ side_slots index side
side_kept scope next index (NewOf place mode class_place class arguments) = refl
side_kept scope next index (ValueOf place value) = refl
side_kept scope next index (SendOf place method operands) = refl
side_kept scope next index (GetOf place get_place future) = refl
side_kept scope next index (CallOf place method NoExpr slot) = refl
side_kept scope next index (CallOf place method (NextExpr receiver arguments) slot) =
    ap (λ (b : Bool). cond b [] (Hidden index ∷ [])) (this_kept scope receiver)

maybe_side_kept : (scope : Scope) (next index : ℕ) (side : MaybeSide)
    → maybe_side_slots index (resolved_maybe_side scope next side) ≡ maybe_side_slots index side
maybe_side_kept scope next index NoSide = refl
maybe_side_kept scope next index (SomeSide side) = side_kept scope next index side

mutual
  -- a statement has the same slots
  pub statement_kept : (scope : Scope) (next : ℕ) (tree : Statement)
      → statement_slots (resolved_statement scope next tree) ≡ statement_slots tree
  statement_kept scope next (BlockOf place block) = statements_kept scope next block
  statement_kept scope next (SkipOf index place) = refl
  statement_kept scope next (SuspendOf index place) = refl
  statement_kept scope next (AwaitOf index place guard) = refl
  statement_kept scope next (ReturnOf index place value) = refl
  statement_kept scope next (PrintOf index place value) = refl
  statement_kept scope next (IfOf index place condition first second) =
      let after = next + length (statements_slots first) in
      ap (λ (slots : List Slot). slots ++ else_slots (resolved_else scope after second))
      (statements_kept scope next first)
      ∙ ap (λ (slots : List Slot). statements_slots first ++ slots) (else_kept scope after second)
  statement_kept scope next (WhileOf index place condition body) = statements_kept scope next body
  statement_kept scope next (DeclareOf index place type variable_place variable initial) =
      ap (λ (slots : List Slot). slots ++ Local index ∷ []) (maybe_side_kept scope next index initial)
  statement_kept scope next (AssignOf index place target side) = side_kept scope next index side
  statement_kept scope next (DoOf index place side) = side_kept scope next index side

  pub else_kept : (scope : Scope) (next : ℕ) (branch : MaybeStatements)
      → else_slots (resolved_else scope next branch) ≡ else_slots branch
  else_kept scope next NoElse = refl
  else_kept scope next (Else branch) = statements_kept scope next branch

  -- so have statements
  pub statements_kept : (scope : Scope) (next : ℕ) (trees : Statements)
      → statements_slots (resolved_statements scope next trees) ≡ statements_slots trees
  statements_kept scope next NoStatement = refl
  statements_kept scope next (NextStatement first others) =
      let later = statement_scope scope next first in
      let after = next + length (statement_slots first) in
      ap (λ (slots : List Slot). slots ++ statements_slots (resolved_statements later after others))
      (statement_kept scope next first)
      ∙ ap (λ (slots : List Slot). statement_slots first ++ slots) (statements_kept later after others)

-- a method whose parameters and statements were resolved has its slots
pub method_has_slots : (before after : List Name) (params now : List Param) (old body : Body) (scope : Scope) (next : ℕ)
    → length now ≡ length params → statements after body.statements.items
    ≡ resolved_statements scope next (statements before old.statements.items)
    → body.slots.items ≡ body_slots (length params) (statements before old.statements.items)
    → length body.slots.items ≤ table_limit → BodyHasSlots after (length now) body
method_has_slots before after params now old body scope next count found are few =
    let trees = statements before old.statements.items in
    let kept : statements_slots (statements after body.statements.items) ≡ statements_slots trees =
    ap statements_slots found ∙ statements_kept scope next trees in
    record {
      are = are
          ∙ (ap (λ (n : ℕ). param_slots n ++ statements_slots trees) (sym count)
          ∙ ap (λ (slots : List Slot). param_slots (length now) ++ slots) (sym kept));
      few = few;
    }
