-- A statement has no more variables than its forest has leaves, for any forest. A declaration has a variable of its
-- own, whose name is a leaf.
use Rattle.std.proofs.Common.{◌≡◌, ◌≤◌, ℕ, ◌+◌, refl, arith}
use Rattle.abs_tree.specs.declared.place.Place.{Place}
use Rattle.abs_tree.specs.Syntax.{Name, Unresolved, ExprTree, ThisOf, TypeTree, VariableTree, MaybeSide, NoSide, SomeSide, Statement, BlockOf, IfOf, DeclareOf, MaybeStatements, NoElse, Else, Statements}
use Rattle.abs_tree.specs.SyntaxSizes.{count_of, statement_count, expr_variables, side_variables, statement_variables, statements_variables}
use Rattle.abs_lexer.specs.declared.lexeme.Keyword.TheVariants as keyword
use Rattle.abs_parser.specs.TokenKinds.{Mark, TokenKind, LowerName, LocalName, KeywordKind, place_of_mark, token_kind}
use Rattle.abs_parser.specs.Readings.{Forest, Empty, Leaf, Node}
use Rattle.abs_parser.specs.TreesOf.{written, place_in, type_in, expr_in, named, member, arguments_maybe, initial_in, after_variable, after_field, after_this, branch_of, statement_in, statement_by, else_in, block_in, statements_in}
use Rattle.abs_parser.proofs.sizes.LeafLemmas.{leaves}
use Rattle.abs_parser.proofs.sizes.ExprSizes.{named_variables, member_variables_are, arguments_maybe_few, expr_few, rhs_few, rest_few, guard_few}

-- the variables of an initial value that may be missing
abbrev initial_variables : MaybeSide → ℕ
initial_variables NoSide = 0
initial_variables (SomeSide side) = side_variables side

-- a declaration has the variables of its initial value and its own
declared_variables : (index : ℕ) (place : Place) (type : TypeTree) (name_place : Place) (variable : VariableTree)
    (initial : MaybeSide)
    → statement_variables (DeclareOf index place type name_place variable initial) ≡ 1 + initial_variables initial
declared_variables index place type name_place variable NoSide = refl
declared_variables index place type name_place variable (SomeSide side) = refl

-- an initial value has no more variables than its forest has leaves
initial_few : (forest : Forest) → initial_variables (initial_in forest) ≤ leaves forest
initial_few (Node _ (Leaf equals _ (Node _ rhs _)) _) = omega (arith, rhs_few rhs)
initial_few _ = omega arith

-- a statement that begins with a variable has no more variables than the forest after it has leaves
after_variable_few : (index : ℕ) (place : Place) (name : Name) (forest : Forest)
    → statement_variables (after_variable index place name forest) ≤ leaves forest
after_variable_few index place name (Leaf equals _ (Node _ rhs _)) = omega (arith, rhs_few rhs)
after_variable_few index place name (Node _ arguments (Node _ rest _)) =
    omega (
      arith,
      named_variables place name (arguments_maybe arguments),
      arguments_maybe_few arguments,
      rest_few place (named place name (arguments_maybe arguments)) rest,
    )
after_variable_few index place name _ = omega arith

-- the same for one that begins with a field
after_field_few : (index : ℕ) (place name_place : Place) (name : Name) (forest : Forest)
    → statement_variables (after_field index place name_place name forest) ≤ leaves forest
after_field_few index place name_place name (Leaf equals _ (Node _ rhs _)) = omega (arith, rhs_few rhs)
after_field_few index place name_place name (Node _ arguments (Node _ rest _)) =
    omega (
      arith,
      member_variables_are place name_place name (arguments_maybe arguments),
      arguments_maybe_few arguments,
      rest_few place (member place name_place name (arguments_maybe arguments)) rest,
    )
after_field_few index place name_place name _ = omega arith

-- the same for one that begins with "this"
after_this_few : (index : ℕ) (place : Place) (forest : Forest)
    → statement_variables (after_this index place forest) ≤ leaves forest
after_this_few index place (Leaf dot _ (Leaf name _ (Node _ after _))) =
    omega (arith, after_field_few index place (place_of_mark name) (written name) after)
after_this_few index place (Node _ rest _) = omega (arith, rest_few place (ThisOf place) rest)
after_this_few index place _ = omega arith

-- the statements of a branch have the variables of the statement that was read for it
branch_variables_are : (statement : Statement)
    → statements_variables (branch_of statement) ≡ statement_variables statement
branch_variables_are (BlockOf place statements) = refl
branch_variables_are _ = omega arith

-- the variables of a branch that may be missing
abbrev else_variables : MaybeStatements → ℕ
else_variables NoElse = 0
else_variables (Else statements) = statements_variables statements

-- an "if" has the variables of its condition and of its branches
if_variables : (index : ℕ) (place : Place) (test : ExprTree) (first : Statements) (second : MaybeStatements)
    → statement_variables (IfOf index place test first second)
    ≡ expr_variables test + statements_variables first + else_variables second
if_variables index place test first NoElse = omega arith
if_variables index place test first (Else second) = refl

mutual
  -- a statement has no more variables than its forest has leaves
  pub statement_few : (index : ℕ) (forest : Forest) → statement_variables (statement_in index forest) ≤ leaves forest
  statement_few index (Leaf mark _ others) = omega (arith, statement_by_few index (token_kind mark) mark others)
  statement_few index (Node _ block Empty) = omega (arith, block_few index block)
  statement_few index (Node _ type (Leaf name _ (Node _ initial _))) =
      omega (
        arith,
        declared_variables index (place_in type) (type_in type) (place_of_mark name) (Unresolved (written name))
            (initial_in initial),
        initial_few initial,
      )
  statement_few index (Node _ rhs _) = omega (arith, rhs_few rhs)
  statement_few index Empty = omega arith

  -- the same for a statement, by its first token, which is one more leaf
  statement_by_few : (index : ℕ) (kind : TokenKind) (mark : Mark) (others : Forest)
      → statement_variables (statement_by index kind mark others) ≤ 1 + leaves others
  statement_by_few index (KeywordKind keyword.Suspend) mark others = omega arith
  statement_by_few index (KeywordKind keyword.Await) mark (Node _ guard _) = omega (arith, guard_few guard)
  statement_by_few index (KeywordKind keyword.Return) mark (Node _ expr _) = omega (arith, expr_few expr)
  statement_by_few index (KeywordKind keyword.Println) mark (Leaf opening _ (Node _ expr _)) =
      omega (arith, expr_few expr)
  statement_by_few index (KeywordKind keyword.If) mark
      (Leaf opening _ (Node _ test (Leaf closing _ (Node _ first (Node _ other _))))) =
      omega (
        arith,
        if_variables index (place_of_mark mark) (expr_in test) (branch_of (statement_in (index + 1) first))
            (else_in (index + 1 + statement_count (branch_of (statement_in (index + 1) first))) other),
        expr_few test,
        branch_variables_are (statement_in (index + 1) first),
        statement_few (index + 1) first,
        else_few (index + 1 + statement_count (branch_of (statement_in (index + 1) first))) other,
      )
  statement_by_few index (KeywordKind keyword.While) mark
      (Leaf opening _ (Node _ test (Leaf closing _ (Node _ body _)))) =
      omega (arith, expr_few test, branch_variables_are (statement_in (index + 1) body), statement_few (index + 1) body)
  statement_by_few index (KeywordKind keyword.This) mark (Node _ after _) =
      omega (arith, after_this_few index (place_of_mark mark) after)
  statement_by_few index LowerName mark (Node _ after _) =
      omega (arith, after_variable_few index (place_of_mark mark) (written mark) after)
  statement_by_few index LocalName mark (Node _ after _) =
      omega (arith, after_variable_few index (place_of_mark mark) (written mark) after)
  statement_by_few index _ mark others = omega arith

  -- the same for a branch after "else"
  else_few : (index : ℕ) (forest : Forest) → else_variables (else_in index forest) ≤ leaves forest
  else_few index (Node _ (Leaf mark _ (Node _ other _)) _) =
      omega (arith, branch_variables_are (statement_in index other), statement_few index other)
  else_few index _ = omega arith

  -- the same for a block
  pub block_few : (index : ℕ) (forest : Forest) → statements_variables (block_in index forest) ≤ leaves forest
  block_few index (Leaf opening _ (Node _ statements _)) = omega (arith, statements_few index statements)
  block_few index _ = omega arith

  -- the same for a list of statements
  statements_few : (index : ℕ) (forest : Forest) → statements_variables (statements_in index forest) ≤ leaves forest
  statements_few index (Node _ statement (Node _ others _)) =
      omega (
        arith,
        statement_few index statement,
        statements_few (index + count_of (statement_in index statement))
            others,
      )
  statements_few index _ = omega arith
