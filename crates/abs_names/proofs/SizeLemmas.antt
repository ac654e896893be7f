-- Resolving keeps the sizes of a source: its statements, its variables, and the fields of its classes.
use Rattle.std.proofs.Common.{◌≡◌, ℕ, ◌+◌, refl, ap, ◌∙◌, length}
use Rattle.std.specs.Prelude.{Option, Some, None}
use Rattle.abs_program.specs.Slots.{statement_slots, statements_slots}
use Rattle.abs_tree.specs.Syntax.{Name, VariableTree, PatternTree, AnyValue, Binds, SameNumber, SameString, Built, PatternTrees, NoPattern, NextPattern, ExprTree, LetIn, IfElse, OperatorsOf, Prefixed, NumberOf, StringOf, NullOf, DestinyOf, ThisOf, FieldOf, OwnCallOf, VariableOf, ApplyOf, BuildOf, CaseOf, ExprTrees, NoExpr, NextExpr, Operands, NoOperands, NextOperand, Branches, NoBranch, NextBranch, SideTree, NewOf, ValueOf, SendOf, GetOf, CallOf, Tests, NoTest, NextTest, NoSide, SomeSide, Statement, BlockOf, SkipOf, SuspendOf, AwaitOf, ReturnOf, PrintOf, IfOf, WhileOf, DeclareOf, AssignOf, DoOf, MaybeStatements, NoElse, Else, Statements, NoStatement, NextStatement}
use Rattle.abs_tree.specs.SyntaxSizes.{statement_count, count_of, count_of_else, pattern_variables, patterns_variables, expr_variables, exprs_variables, operand_variables, branch_variables, side_variables, test_variables, statement_variables, statements_variables}
use Rattle.abs_tree.specs.declared.place.Place.{Place}
use Rattle.abs_names.specs.Resolution.{field_expr, resolved_pattern, resolved_patterns, resolved_expr, resolved_exprs, resolved_operands, resolved_branches, resolved_side, resolved_tests, resolved_statement, resolved_else, resolved_statements}
use Rattle.abs_names.specs.Scopes.{Scope, field_of, with_bound, pattern_scope, statement_scope}

mutual
  -- a statement counts as many statements as before
  pub count_kept : (scope : Scope) (next : ℕ) (tree : Statement)
      → count_of (resolved_statement scope next tree) ≡ count_of tree
  count_kept scope next (BlockOf place block) = counts_kept scope next block
  count_kept scope next (SkipOf index place) = refl
  count_kept scope next (SuspendOf index place) = refl
  count_kept scope next (AwaitOf index place guard) = refl
  count_kept scope next (ReturnOf index place value) = refl
  count_kept scope next (PrintOf index place value) = refl
  count_kept scope next (IfOf index place condition first second) =
      let after = next + length (statements_slots first) in
      ap (λ (n : ℕ). 1 + n + count_of_else (resolved_else scope after second)) (counts_kept scope next first)
      ∙ ap (λ (n : ℕ). 1 + statement_count first + n) (else_count_kept scope after second)
  count_kept scope next (WhileOf index place condition body) = ap (λ (n : ℕ). 1 + n) (counts_kept scope next body)
  count_kept scope next (DeclareOf index place type variable_place variable initial) = refl
  count_kept scope next (AssignOf index place target side) = refl
  count_kept scope next (DoOf index place side) = refl

  pub else_count_kept : (scope : Scope) (next : ℕ) (branch : MaybeStatements)
      → count_of_else (resolved_else scope next branch) ≡ count_of_else branch
  else_count_kept scope next NoElse = refl
  else_count_kept scope next (Else branch) = counts_kept scope next branch

  -- so do statements
  pub counts_kept : (scope : Scope) (next : ℕ) (trees : Statements)
      → statement_count (resolved_statements scope next trees) ≡ statement_count trees
  counts_kept scope next NoStatement = refl
  counts_kept scope next (NextStatement first others) =
      let later = statement_scope scope next first in
      let after = next + length (statement_slots first) in
      ap (λ (n : ℕ). n + statement_count (resolved_statements later after others)) (count_kept scope next first)
      ∙ ap (λ (n : ℕ). count_of first + n) (counts_kept later after others)

mutual
  -- a pattern has as many variables as before
  pub pattern_vars : (scope : Scope) (tree : PatternTree)
      → pattern_variables (resolved_pattern scope tree) ≡ pattern_variables tree
  pattern_vars scope (AnyValue place) = refl
  pattern_vars scope (Binds place variable) = refl
  pattern_vars scope (SameNumber place number) = refl
  pattern_vars scope (SameString place string) = refl
  pattern_vars scope (Built place constructor arguments) = patterns_vars scope arguments

  pub patterns_vars : (scope : Scope) (trees : PatternTrees)
      → patterns_variables (resolved_patterns scope trees) ≡ patterns_variables trees
  patterns_vars scope NoPattern = refl
  patterns_vars scope (NextPattern first others) =
      let later = pattern_scope scope first in
      ap (λ (n : ℕ). n + patterns_variables (resolved_patterns later others)) (pattern_vars scope first)
      ∙ ap (λ (n : ℕ). pattern_variables first + n) (patterns_vars later others)

field_vars : (place name_place : Place) (name : Name) (field : Option VariableTree)
    → expr_variables (field_expr place name_place name field) ≡ 0
field_vars place name_place name (Some variable) = refl
field_vars place name_place name None = refl

mutual
  -- so has an expression
  pub expr_vars : (scope : Scope) (tree : ExprTree)
      → expr_variables (resolved_expr scope tree) ≡ expr_variables tree
  expr_vars scope (LetIn place type variable_place variable value body) =
      let inside = with_bound scope variable in
      ap (λ (n : ℕ). 1 + n + expr_variables (resolved_expr inside body)) (expr_vars scope value)
      ∙ ap (λ (n : ℕ). 1 + expr_variables value + n) (expr_vars inside body)
  expr_vars scope (IfElse place condition first second) =
      ap (λ (n : ℕ). n + expr_variables (resolved_expr scope first)
      + expr_variables (resolved_expr scope second)) (expr_vars scope condition)
      ∙ (ap (λ (n : ℕ). expr_variables condition + n + expr_variables (resolved_expr scope second))
      (expr_vars scope first)
      ∙ ap (λ (n : ℕ). expr_variables condition + expr_variables first + n) (expr_vars scope second))
  expr_vars scope (OperatorsOf place first operands) =
      ap (λ (n : ℕ). n + operand_variables (resolved_operands scope operands)) (expr_vars scope first)
      ∙ ap (λ (n : ℕ). expr_variables first + n) (operands_vars scope operands)
  expr_vars scope (Prefixed place prefix operand) = expr_vars scope operand
  expr_vars scope (NumberOf place number) = refl
  expr_vars scope (StringOf place string) = refl
  expr_vars scope (NullOf place) = refl
  expr_vars scope (DestinyOf place) = refl
  expr_vars scope (ThisOf place) = refl
  expr_vars scope (FieldOf place name_place name) = field_vars place name_place name (field_of scope name)
  expr_vars scope (OwnCallOf place method arguments) = exprs_vars scope arguments
  expr_vars scope (VariableOf place variable) = refl
  expr_vars scope (ApplyOf place function arguments) = exprs_vars scope arguments
  expr_vars scope (BuildOf place constructor arguments) = exprs_vars scope arguments
  expr_vars scope (CaseOf place subject branches) =
      ap (λ (n : ℕ). n + branch_variables (resolved_branches scope branches)) (expr_vars scope subject)
      ∙ ap (λ (n : ℕ). expr_variables subject + n) (branches_vars scope branches)

  pub exprs_vars : (scope : Scope) (trees : ExprTrees)
      → exprs_variables (resolved_exprs scope trees) ≡ exprs_variables trees
  exprs_vars scope NoExpr = refl
  exprs_vars scope (NextExpr first others) =
      ap (λ (n : ℕ). n + exprs_variables (resolved_exprs scope others)) (expr_vars scope first)
      ∙ ap (λ (n : ℕ). expr_variables first + n) (exprs_vars scope others)

  pub operands_vars : (scope : Scope) (trees : Operands)
      → operand_variables (resolved_operands scope trees) ≡ operand_variables trees
  operands_vars scope NoOperands = refl
  operands_vars scope (NextOperand operator right others) =
      ap (λ (n : ℕ). n + operand_variables (resolved_operands scope others)) (expr_vars scope right)
      ∙ ap (λ (n : ℕ). expr_variables right + n) (operands_vars scope others)

  pub branches_vars : (scope : Scope) (trees : Branches)
      → branch_variables (resolved_branches scope trees) ≡ branch_variables trees
  branches_vars scope NoBranch = refl
  branches_vars scope (NextBranch pattern value others) =
      let inside = pattern_scope scope pattern in
      ap (λ (n : ℕ). n + expr_variables (resolved_expr inside value)
      + branch_variables (resolved_branches scope others)) (pattern_vars scope pattern)
      ∙ (ap (λ (n : ℕ). pattern_variables pattern + n + branch_variables (resolved_branches scope others))
      (expr_vars inside value)
      ∙ ap (λ (n : ℕ). pattern_variables pattern + expr_variables value + n) (branches_vars scope others))

-- so have right sides and guards
pub side_vars : (scope : Scope) (next : ℕ) (side : SideTree)
    → side_variables (resolved_side scope next side) ≡ side_variables side
side_vars scope next (NewOf place mode class_place class arguments) = exprs_vars scope arguments
side_vars scope next (ValueOf place value) = expr_vars scope value
side_vars scope next (SendOf place method operands) = exprs_vars scope operands
side_vars scope next (GetOf place get_place future) = expr_vars scope future
side_vars scope next (CallOf place method operands slot) = exprs_vars scope operands

pub tests_vars : (scope : Scope) (tests : Tests) → test_variables (resolved_tests scope tests) ≡ test_variables tests
tests_vars scope NoTest = refl
tests_vars scope (NextTest place value asks others) =
    ap (λ (n : ℕ). n + test_variables (resolved_tests scope others)) (expr_vars scope value)
    ∙ ap (λ (n : ℕ). expr_variables value + n) (tests_vars scope others)

mutual
  -- so has a statement
  pub statement_vars : (scope : Scope) (next : ℕ) (tree : Statement)
      → statement_variables (resolved_statement scope next tree) ≡ statement_variables tree
  statement_vars scope next (BlockOf place block) = statements_vars scope next block
  statement_vars scope next (SkipOf index place) = refl
  statement_vars scope next (SuspendOf index place) = refl
  statement_vars scope next (AwaitOf index place guard) = tests_vars scope guard
  statement_vars scope next (ReturnOf index place value) = expr_vars scope value
  statement_vars scope next (PrintOf index place value) = expr_vars scope value
  statement_vars scope next (IfOf index place condition first NoElse) =
      ap (λ (n : ℕ). n + statements_variables (resolved_statements scope next first)) (expr_vars scope condition)
      ∙ ap (λ (n : ℕ). expr_variables condition + n) (statements_vars scope next first)
  statement_vars scope next (IfOf index place condition first (Else second)) =
      let after = next + length (statements_slots first) in
      ap (λ (n : ℕ). n + statements_variables (resolved_statements scope next first)
      + statements_variables (resolved_statements scope after second)) (expr_vars scope condition)
      ∙ (ap (λ (n : ℕ). expr_variables condition + n
      + statements_variables (resolved_statements scope after second)) (statements_vars scope next first)
      ∙ ap (λ (n : ℕ). expr_variables condition + statements_variables first + n)
      (statements_vars scope after second))
  statement_vars scope next (WhileOf index place condition body) =
      ap (λ (n : ℕ). n + statements_variables (resolved_statements scope next body)) (expr_vars scope condition)
      ∙ ap (λ (n : ℕ). expr_variables condition + n) (statements_vars scope next body)
  statement_vars scope next (DeclareOf index place type variable_place variable NoSide) = refl
  statement_vars scope next (DeclareOf index place type variable_place variable (SomeSide side)) =
      ap (λ (n : ℕ). 1 + n) (side_vars scope next side)
  statement_vars scope next (AssignOf index place target side) = side_vars scope next side
  statement_vars scope next (DoOf index place side) = side_vars scope next side

  pub statements_vars : (scope : Scope) (next : ℕ) (trees : Statements)
      → statements_variables (resolved_statements scope next trees) ≡ statements_variables trees
  statements_vars scope next NoStatement = refl
  statements_vars scope next (NextStatement first others) =
      let later = statement_scope scope next first in
      let after = next + length (statement_slots first) in
      ap (λ (n : ℕ). n + statements_variables (resolved_statements later after others))
      (statement_vars scope next first)
      ∙ ap (λ (n : ℕ). statement_variables first + n) (statements_vars later after others)
