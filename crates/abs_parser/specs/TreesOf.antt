-- The tree of what was read, with a clause for each alternative of the grammar. Each function is given the inside of a
-- nonterminal, or a part that may be left out or repeated, as in a reading. Any other forest gives some tree, which
-- does not matter.
--
--   `type_in`                                          types
--   `pattern_in`                                       patterns
--   `expr_in`, `or_in` .. `mul_in`, `unary_in`, `primary_in`  expressions, by the precedences of their operators
--   `named`, `member`, `built`                         names with arguments or without
--   `rhs_in`, `rest_in`                                right sides, from their beginning or after the first operand
--   `guard_in`                                         guards
--   `statement_in`, `block_in`                         statements
--   `decls_in`, `members_in`                           declarations and members
--   `tree_of`                                          a program
use Rattle.std.specs.Prelude.{ℕ, ◌+◌, pos, neg_ℤ, Bool, true, false, List, [], ◌∷◌, Option, Some, None, drop, ◌==◌, if◌then◌else◌}
use Rattle.std.specs.Str.Parse.{digits_value}
use Rattle.abs_tree.specs.declared.place.Place.{Place}
use Rattle.abs_tree.specs.Places.{start}
use Rattle.abs_tree.specs.Syntax.{Name, Unresolved, TypeTree, UnresolvedType, TypeTrees, NoType, NextType, PatternTree, AnyValue, Binds, SameNumber, SameString, Built, PatternTrees, NoPattern, NextPattern, ExprTree, LetIn, IfElse, OperatorsOf, Prefixed, NumberOf, StringOf, NullOf, DestinyOf, ThisOf, FieldOf, OwnCallOf, VariableOf, ApplyOf, BuildOf, CaseOf, ExprTrees, NoExpr, NextExpr, Operands, NoOperands, NextOperand, Branches, NoBranch, NextBranch, SideTree, NewOf, ValueOf, SendOf, GetOf, CallOf, Tests, NoTest, NextTest, ToVariable, ToField, MaybeSide, NoSide, SomeSide, Statement, BlockOf, SkipOf, SuspendOf, AwaitOf, ReturnOf, PrintOf, IfOf, WhileOf, DeclareOf, AssignOf, DoOf, MaybeStatements, NoElse, Else, Statements, NoStatement, NextStatement, ParamTree, DeclaredTree, ConstructorTree, SignatureTree, NoValue, Value, MemberTree, FieldTree, MethodTree, DeclTree, DataTree, FunctionTree, InterfaceTree, ClassTree, SourceTree}
use Rattle.abs_tree.specs.SyntaxSizes.{count_of, statement_count, member_statements, decl_statements}
use Rattle.abs_tree.specs.declared.syntax.expression.Operator.{Operator}
use Rattle.abs_tree.specs.declared.syntax.expression.Operator.TheVariants as operator
use Rattle.abs_tree.specs.declared.syntax.expression.Prefix.{Prefix}
use Rattle.abs_tree.specs.declared.syntax.expression.Prefix.TheVariants as prefix
use Rattle.abs_tree.specs.declared.syntax.statement.Mode.{Mode}
use Rattle.abs_tree.specs.declared.syntax.statement.Mode.TheVariants as mode
use Rattle.abs_lexer.specs.declared.lexeme.Keyword.TheVariants as keyword
use Rattle.abs_lexer.specs.declared.lexeme.Punctuator.TheVariants as punctuator
use Rattle.abs_parser.specs.TokenKinds.{Mark, Token, TextEnd, TokenKind, LowerName, LocalName, UpperName, AbsName, StdLibName, Number, Text, KeywordKind, PunctuatorKind, place_of_mark, token_kind}
use Rattle.abs_parser.specs.Readings.{Forest, Empty, Leaf, Node}

-- the bytes of a token; the end of the source has none
abbrev pub written : Mark → List ℕ
written (Token token) = token.bytes
written (TextEnd place) = []

-- the value of a string literal: an escape gives its byte, and any other byte gives itself, up to the closing quote
abbrev pub escaped_byte : ℕ → ℕ
escaped_byte byte = if byte == 110 then 10 else (if byte == 116 then 9 else (if byte == 114 then 13 else byte))

abbrev pub unescaped : List ℕ → List ℕ
unescaped [] = []
unescaped (byte ∷ []) = if byte == 34 then [] else byte ∷ []
unescaped (byte ∷ next ∷ others) =
    if byte == 92 then escaped_byte next ∷ unescaped others
    else (if byte == 34 then [] else byte ∷ unescaped (next ∷ others))

abbrev pub text_of : Mark → List ℕ
text_of mark = unescaped (drop 1 (written mark))

abbrev pub number_of : Mark → ℕ
number_of mark = digits_value 10 (written mark)

-- the place of the first token that was read; where there is none, the given place
abbrev pub first_place : Forest → Place → Place
first_place Empty after = after
first_place (Leaf mark depth others) after = place_of_mark mark
first_place (Node goal inside others) after = first_place inside (first_place others after)

abbrev pub place_in : Forest → Place
place_in forest = first_place forest start

-- Types
abbrev mutual
  -- Type: a name, and perhaps arguments
  pub type_in : Forest → TypeTree
  type_in (Leaf name _ (Node _ arguments _)) =
      UnresolvedType (place_of_mark name) (written name) (type_arguments arguments)
  type_in _ = UnresolvedType start [] NoType

  -- perhaps "<", types, ">"
  pub type_arguments : Forest → TypeTrees
  type_arguments (Node _ (Leaf less _ (Node _ types _)) others) = types_in types
  type_arguments _ = NoType

  -- a type, and others after commas
  pub types_in : Forest → TypeTrees
  types_in (Node _ first (Node _ others _)) = NextType (type_in first) (more_types others)
  types_in _ = NoType

  pub more_types : Forest → TypeTrees
  more_types (Node _ (Leaf comma _ (Node _ type _)) (Node _ others _)) = NextType (type_in type) (more_types others)
  more_types _ = NoType

-- Patterns
abbrev mutual
  pub pattern_in : Forest → PatternTree
  pattern_in (Leaf mark _ others) = pattern_by (token_kind mark) mark others
  pattern_in _ = AnyValue start

  -- a pattern, by its first token
  pub pattern_by : TokenKind → Mark → Forest → PatternTree
  pattern_by LowerName mark others = Binds (place_of_mark mark) (Unresolved (written mark))
  pattern_by LocalName mark others = Binds (place_of_mark mark) (Unresolved (written mark))
  pattern_by Number mark others = SameNumber (place_of_mark mark) (pos (number_of mark))
  pattern_by (PunctuatorKind punctuator.Minus) mark (Leaf number _ _) =
      SameNumber (place_of_mark mark) (neg_ℤ (pos (number_of number)))
  pattern_by Text mark others = SameString (place_of_mark mark) (text_of mark)
  pattern_by UpperName mark (Node _ arguments _) =
      Built (place_of_mark mark) (written mark) (pattern_arguments arguments)
  pattern_by AbsName mark (Node _ arguments _) = Built (place_of_mark mark) (written mark) (pattern_arguments arguments)
  pattern_by StdLibName mark (Node _ arguments _) =
      Built (place_of_mark mark) (written mark) (pattern_arguments arguments)
  pattern_by _ mark others = AnyValue (place_of_mark mark)

  -- perhaps "(", perhaps patterns, ")"
  pub pattern_arguments : Forest → PatternTrees
  pattern_arguments (Node _ (Leaf opening _ (Node _ patterns _)) others) = patterns_maybe patterns
  pattern_arguments _ = NoPattern

  pub patterns_maybe : Forest → PatternTrees
  patterns_maybe (Node _ patterns _) = patterns_in patterns
  patterns_maybe _ = NoPattern

  pub patterns_in : Forest → PatternTrees
  patterns_in (Node _ first (Node _ others _)) = NextPattern (pattern_in first) (more_patterns others)
  patterns_in _ = NoPattern

  pub more_patterns : Forest → PatternTrees
  more_patterns (Node _ (Leaf comma _ (Node _ pattern _)) (Node _ others _)) =
      NextPattern (pattern_in pattern) (more_patterns others)
  more_patterns _ = NoPattern

-- Expressions

-- a first operand with the operators after it; without any it is the operand itself
abbrev pub with_operators : Place → ExprTree → Operands → ExprTree
with_operators place first NoOperands = first
with_operators place first (NextOperand operator right others) =
    OperatorsOf place first (NextOperand operator right others)

-- the operator of a punctuator
abbrev pub operator_of : TokenKind → Operator
operator_of (PunctuatorKind punctuator.Or) = operator.Or
operator_of (PunctuatorKind punctuator.And) = operator.And
operator_of (PunctuatorKind punctuator.Equal) = operator.Equal
operator_of (PunctuatorKind punctuator.NotEqual) = operator.NotEqual
operator_of (PunctuatorKind punctuator.Less) = operator.Less
operator_of (PunctuatorKind punctuator.LessEqual) = operator.LessEqual
operator_of (PunctuatorKind punctuator.Greater) = operator.Greater
operator_of (PunctuatorKind punctuator.GreaterEqual) = operator.GreaterEqual
operator_of (PunctuatorKind punctuator.Plus) = operator.Plus
operator_of (PunctuatorKind punctuator.Minus) = operator.Minus
operator_of (PunctuatorKind punctuator.Star) = operator.Times
operator_of (PunctuatorKind punctuator.Slash) = operator.Divide
operator_of (PunctuatorKind punctuator.Percent) = operator.Remainder
operator_of _ = operator.Equal

abbrev pub prefix_of : TokenKind → Prefix
prefix_of (PunctuatorKind punctuator.Not) = prefix.Not
prefix_of (PunctuatorKind punctuator.Tilde) = prefix.Tilde
prefix_of (PunctuatorKind punctuator.Minus) = prefix.Minus
prefix_of _ = prefix.Not

-- a name that begins with a lower-case letter: a variable, or with arguments the application of a function
abbrev pub named : Place → Name → Option ExprTrees → ExprTree
named place name None = VariableOf place (Unresolved name)
named place name (Some arguments) = ApplyOf place name arguments

-- a name after "this" and ".": a field, or with arguments a call of a method
abbrev pub member : Place → Place → Name → Option ExprTrees → ExprTree
member place name_place name None = FieldOf place name_place name
member place name_place name (Some arguments) = OwnCallOf place name arguments

-- a constructor, which may have arguments
abbrev pub built : Place → Name → Option ExprTrees → ExprTree
built place name None = BuildOf place name NoExpr
built place name (Some arguments) = BuildOf place name arguments

abbrev mutual
  -- Expr
  pub expr_in : Forest → ExprTree
  expr_in (Leaf mark _ (Leaf opening _
      (Node _ type (Leaf name _ (Leaf closing _ (Leaf equals _ (Node _ value (Leaf in_token _ (Node _ body _))))))))) =
      LetIn (place_of_mark mark) (type_in type) (place_of_mark name) (Unresolved (written name)) (expr_in value)
      (expr_in body)
  expr_in (Leaf mark _ (Node _ test (Leaf then_token _ (Node _ first (Leaf else_token _ (Node _ second _)))))) =
      IfElse (place_of_mark mark) (expr_in test) (expr_in first) (expr_in second)
  expr_in (Node _ or _) = or_in or
  expr_in _ = NullOf start

  -- Or, And, Equal, Compare, Sum, Mul: a first operand, and the operators after it
  pub or_in : Forest → ExprTree
  or_in (Node _ first (Node _ others _)) = with_operators (place_in first) (and_in first) (or_operands others)
  or_in _ = NullOf start

  pub or_operands : Forest → Operands
  or_operands (Node _ (Leaf mark _ (Node _ right _)) (Node _ others _)) =
      NextOperand (operator_of (token_kind mark)) (and_in right) (or_operands others)
  or_operands _ = NoOperands

  pub and_in : Forest → ExprTree
  and_in (Node _ first (Node _ others _)) = with_operators (place_in first) (equal_in first) (and_operands others)
  and_in _ = NullOf start

  pub and_operands : Forest → Operands
  and_operands (Node _ (Leaf mark _ (Node _ right _)) (Node _ others _)) =
      NextOperand (operator_of (token_kind mark)) (equal_in right) (and_operands others)
  and_operands _ = NoOperands

  pub equal_in : Forest → ExprTree
  equal_in (Node _ first (Node _ other _)) = with_operators (place_in first) (compare_in first) (equal_operand other)
  equal_in _ = NullOf start

  pub equal_operand : Forest → Operands
  equal_operand (Node _ (Leaf mark _ (Node _ right _)) _) =
      NextOperand (operator_of (token_kind mark)) (compare_in right) NoOperands
  equal_operand _ = NoOperands

  pub compare_in : Forest → ExprTree
  compare_in (Node _ first (Node _ other _)) = with_operators (place_in first) (sum_in first) (compare_operand other)
  compare_in _ = NullOf start

  pub compare_operand : Forest → Operands
  compare_operand (Node _ (Leaf mark _ (Node _ right _)) _) =
      NextOperand (operator_of (token_kind mark)) (sum_in right) NoOperands
  compare_operand _ = NoOperands

  pub sum_in : Forest → ExprTree
  sum_in (Node _ first (Node _ others _)) = with_operators (place_in first) (mul_in first) (sum_operands others)
  sum_in _ = NullOf start

  pub sum_operands : Forest → Operands
  sum_operands (Node _ (Leaf mark _ (Node _ right _)) (Node _ others _)) =
      NextOperand (operator_of (token_kind mark)) (mul_in right) (sum_operands others)
  sum_operands _ = NoOperands

  pub mul_in : Forest → ExprTree
  mul_in (Node _ first (Node _ others _)) = with_operators (place_in first) (unary_in first) (mul_operands others)
  mul_in _ = NullOf start

  pub mul_operands : Forest → Operands
  mul_operands (Node _ (Leaf mark _ (Node _ right _)) (Node _ others _)) =
      NextOperand (operator_of (token_kind mark)) (unary_in right) (mul_operands others)
  mul_operands _ = NoOperands

  -- Unary
  pub unary_in : Forest → ExprTree
  unary_in (Leaf mark _ (Node _ operand _)) =
      Prefixed (place_of_mark mark) (prefix_of (token_kind mark)) (unary_in operand)
  unary_in (Node _ primary _) = primary_in primary
  unary_in _ = NullOf start

  -- Primary, by its first token
  pub primary_in : Forest → ExprTree
  primary_in (Leaf mark _ others) = primary_by (token_kind mark) mark others
  primary_in _ = NullOf start

  pub primary_by : TokenKind → Mark → Forest → ExprTree
  primary_by Number mark others = NumberOf (place_of_mark mark) (pos (number_of mark))
  primary_by Text mark others = StringOf (place_of_mark mark) (text_of mark)
  primary_by (KeywordKind keyword.Null) mark others = NullOf (place_of_mark mark)
  primary_by (KeywordKind keyword.Destiny) mark others = DestinyOf (place_of_mark mark)
  primary_by (KeywordKind keyword.This) mark (Node _ tail _) = this_in (place_of_mark mark) tail
  primary_by LowerName mark (Node _ arguments _) = named (place_of_mark mark) (written mark) (arguments_maybe arguments)
  primary_by LocalName mark (Node _ arguments _) = named (place_of_mark mark) (written mark) (arguments_maybe arguments)
  primary_by UpperName mark (Node _ arguments _) = built (place_of_mark mark) (written mark) (arguments_maybe arguments)
  primary_by AbsName mark (Node _ arguments _) = built (place_of_mark mark) (written mark) (arguments_maybe arguments)
  primary_by StdLibName mark (Node _ arguments _) =
      built (place_of_mark mark) (written mark) (arguments_maybe arguments)
  primary_by (KeywordKind keyword.Case) mark
      (Node _ subject (Leaf opening _ (Node _ first (Node _ others (Leaf closing _ _))))) =
      CaseOf (place_of_mark mark) (expr_in subject) (branch_in first (branches_in others))
  primary_by (PunctuatorKind punctuator.OpenParen) mark (Node _ inside _) = expr_in inside
  primary_by _ mark others = NullOf (place_of_mark mark)

  -- after "this": perhaps ".", a name, and perhaps arguments
  pub this_in : Place → Forest → ExprTree
  this_in place (Node _ (Leaf dot _ (Leaf name _ (Node _ arguments _))) _) =
      member place (place_of_mark name) (written name) (arguments_maybe arguments)
  this_in place _ = ThisOf place

  -- perhaps arguments
  pub arguments_maybe : Forest → Option ExprTrees
  arguments_maybe (Node _ arguments _) = Some (arguments_in arguments)
  arguments_maybe _ = None

  -- "(", perhaps expressions, ")"
  pub arguments_in : Forest → ExprTrees
  arguments_in (Leaf opening _ (Node _ args _)) = args_maybe args
  arguments_in _ = NoExpr

  pub args_maybe : Forest → ExprTrees
  args_maybe (Node _ args _) = args_in args
  args_maybe _ = NoExpr

  pub args_in : Forest → ExprTrees
  args_in (Node _ first (Node _ others _)) = NextExpr (expr_in first) (more_args others)
  args_in _ = NoExpr

  pub more_args : Forest → ExprTrees
  more_args (Node _ (Leaf comma _ (Node _ expr _)) (Node _ others _)) = NextExpr (expr_in expr) (more_args others)
  more_args _ = NoExpr

  -- Branch, before others
  pub branch_in : Forest → Branches → Branches
  branch_in (Node _ pattern (Leaf arrow _ (Node _ expr (Leaf semicolon _ _)))) others =
      NextBranch (pattern_in pattern) (expr_in expr) others
  branch_in _ others = others

  pub branches_in : Forest → Branches
  branches_in (Node _ branch (Node _ others _)) = branch_in branch (branches_in others)
  branches_in _ = NoBranch

-- Right sides

-- perhaps "cog" or "local"
abbrev pub mode_by : TokenKind → Place → Mode
mode_by (KeywordKind keyword.Cog) place = mode.Cog
mode_by LocalName place = mode.Local place
mode_by _ place = mode.Plain

abbrev pub mode_in : Forest → Mode
mode_in (Node _ (Leaf mark _ _) _) = mode_by (token_kind mark) (place_of_mark mark)
mode_in _ = mode.Plain

-- an expression with what follows its ".": "get", or a name and arguments. The call has its receiver before the
-- arguments.
abbrev pub selected_in : Place → ExprTree → Forest → SideTree
selected_in place first (Leaf name _ (Node _ arguments _)) =
    CallOf place (written name) (NextExpr first (arguments_in arguments)) None
selected_in place first (Leaf get _ _) = GetOf place (place_of_mark get) first
selected_in place first _ = ValueOf place first

-- an expression with what follows it: "!", a name and arguments; or "." and what follows that; or nothing
abbrev pub tail_in : Place → ExprTree → Forest → SideTree
tail_in place first (Node _ (Leaf bang _ (Leaf name _ (Node _ arguments _))) _) =
    SendOf place (written name) (NextExpr first (arguments_in arguments))
tail_in place first (Node _ (Leaf dot _ (Node _ selected _)) _) = selected_in place first selected
tail_in place first _ = ValueOf place first

abbrev pub rhs_in : Forest → SideTree
rhs_in (Leaf mark _ (Node _ where_made (Leaf name _ (Node _ arguments _)))) =
    NewOf (place_of_mark mark) (mode_in where_made) (place_of_mark name) (written name) (arguments_in arguments)
rhs_in (Node _ expr (Node _ tail _)) = tail_in (place_in expr) (expr_in expr) tail
rhs_in _ = ValueOf start (NullOf start)

-- a right side whose first operand is given, by what follows this operand
abbrev pub rest_in : Place → ExprTree → Forest → SideTree
rest_in place first (Node _ muls
    (Node _ sums (Node _ compared (Node _ equal (Node _ ands (Node _ ors (Node _ tail _))))))) =
    let product = with_operators place first (mul_operands muls) in
    let sum = with_operators place product (sum_operands sums) in
    let comparison = with_operators place sum (compare_operand compared) in
    let equality = with_operators place comparison (equal_operand equal) in
    let conjunction = with_operators place equality (and_operands ands) in
    tail_in place (with_operators place conjunction (or_operands ors)) tail
rest_in place first _ = ValueOf place first

-- Guards

-- whether a "?" was read
abbrev pub is_asked : Forest → Bool
is_asked Empty = false
is_asked _ = true

abbrev pub test_in : Forest → Tests → Tests
test_in (Node _ equal (Node _ question _)) others =
    NextTest (place_in equal) (equal_in equal) (is_asked question) others
test_in _ others = others

abbrev pub more_tests : Forest → Tests
more_tests (Node _ (Leaf mark _ (Node _ test _)) (Node _ others _)) = test_in test (more_tests others)
more_tests _ = NoTest

abbrev pub guard_in : Forest → Tests
guard_in (Node _ first (Node _ others _)) = test_in first (more_tests others)
guard_in _ = NoTest

-- Statements

-- perhaps "=" and a right side
abbrev pub initial_in : Forest → MaybeSide
initial_in (Node _ (Leaf equals _ (Node _ rhs _)) _) = SomeSide (rhs_in rhs)
initial_in _ = NoSide

-- a statement with this index that begins with a variable, by what follows: "=" and a right side, or the rest of one
abbrev pub after_variable : ℕ → Place → Name → Forest → Statement
after_variable index place name (Leaf equals _ (Node _ rhs _)) =
    AssignOf index place (ToVariable place (Unresolved name)) (rhs_in rhs)
after_variable index place name (Node _ arguments (Node _ rest _)) =
    DoOf index place (rest_in place (named place name (arguments_maybe arguments)) rest)
after_variable index place name _ = SkipOf index place

-- a statement with this index that begins with "this", "." and a name, by what follows: "=" and a right side, or the
-- rest of one
abbrev pub after_field : ℕ → Place → Place → Name → Forest → Statement
after_field index place name_place name (Leaf equals _ (Node _ rhs _)) =
    AssignOf index place (ToField place name_place name) (rhs_in rhs)
after_field index place name_place name (Node _ arguments (Node _ rest _)) =
    DoOf index place (rest_in place (member place name_place name (arguments_maybe arguments)) rest)
after_field index place name_place name _ = SkipOf index place

abbrev pub after_this : ℕ → Place → Forest → Statement
after_this index place (Leaf dot _ (Leaf name _ (Node _ after _))) =
    after_field index place (place_of_mark name) (written name) after
after_this index place (Node _ rest _) = DoOf index place (rest_in place (ThisOf place) rest)
after_this index place _ = SkipOf index place

-- the statements of a branch: those of its block, or the one statement that was read for it
abbrev pub branch_of : Statement → Statements
branch_of (BlockOf place statements) = statements
branch_of statement = NextStatement statement NoStatement

-- a statement whose first index is this one
abbrev mutual
  pub statement_in : ℕ → Forest → Statement
  statement_in index (Leaf mark _ others) = statement_by index (token_kind mark) mark others
  statement_in index (Node _ block Empty) = BlockOf (place_in block) (block_in index block)
  statement_in index (Node _ type (Leaf name _ (Node _ initial _))) =
      DeclareOf index (place_in type) (type_in type) (place_of_mark name) (Unresolved (written name))
      (initial_in initial)
  statement_in index (Node _ rhs _) = DoOf index (place_in rhs) (rhs_in rhs)
  statement_in index Empty = SkipOf index start

  -- a statement, by its first token
  pub statement_by : ℕ → TokenKind → Mark → Forest → Statement
  statement_by index (KeywordKind keyword.Skip) mark others = SkipOf index (place_of_mark mark)
  statement_by index (KeywordKind keyword.Suspend) mark others = SuspendOf index (place_of_mark mark)
  statement_by index (KeywordKind keyword.Await) mark (Node _ guard _) =
      AwaitOf index (place_of_mark mark) (guard_in guard)
  statement_by index (KeywordKind keyword.Return) mark (Node _ expr _) =
      ReturnOf index (place_of_mark mark) (expr_in expr)
  statement_by index (KeywordKind keyword.Println) mark (Leaf opening _ (Node _ expr _)) =
      PrintOf index (place_of_mark mark) (expr_in expr)
  statement_by index (KeywordKind keyword.If) mark
      (Leaf opening _ (Node _ test (Leaf closing _ (Node _ first (Node _ other _))))) =
      let branch = branch_of (statement_in (index + 1) first) in
      IfOf index (place_of_mark mark) (expr_in test) branch (else_in (index + 1 + statement_count branch) other)
  statement_by index (KeywordKind keyword.While) mark (Leaf opening _ (Node _ test (Leaf closing _ (Node _ body _)))) =
      WhileOf index (place_of_mark mark) (expr_in test) (branch_of (statement_in (index + 1) body))
  statement_by index (KeywordKind keyword.This) mark (Node _ after _) = after_this index (place_of_mark mark) after
  statement_by index LowerName mark (Node _ after _) = after_variable index (place_of_mark mark) (written mark) after
  statement_by index LocalName mark (Node _ after _) = after_variable index (place_of_mark mark) (written mark) after
  statement_by index _ mark others = SkipOf index (place_of_mark mark)

  -- perhaps "else" and a statement
  pub else_in : ℕ → Forest → MaybeStatements
  else_in index (Node _ (Leaf mark _ (Node _ other _)) _) = Else (branch_of (statement_in index other))
  else_in index _ = NoElse

  pub block_in : ℕ → Forest → Statements
  block_in index (Leaf opening _ (Node _ statements _)) = statements_in index statements
  block_in index _ = NoStatement

  -- the indices of each statement continue where those of the one before it end
  pub statements_in : ℕ → Forest → Statements
  statements_in index (Node _ statement (Node _ others _)) =
      let first = statement_in index statement in
      NextStatement first (statements_in (index + count_of first) others)
  statements_in index _ = NoStatement

-- the place of the brace that closes a block
abbrev pub block_end : Forest → Place
block_end (Leaf opening _ (Node _ statements (Leaf closing _ _))) = place_of_mark closing
block_end _ = start

-- Declarations
abbrev pub declared : Mark → DeclaredTree
declared mark = record { place = place_of_mark mark; name = written mark }

-- names after commas
abbrev pub more_names : Forest → List DeclaredTree
more_names (Node _ (Leaf comma _ (Leaf name _ _)) (Node _ others _)) = declared name ∷ more_names others
more_names _ = []

-- perhaps a keyword or a punctuator, a name, and others after commas
abbrev pub names_maybe : Forest → List DeclaredTree
names_maybe (Node _ (Leaf first _ (Leaf name _ (Node _ others _))) _) = declared name ∷ more_names others
names_maybe _ = []

-- a parameter, before others
abbrev pub param_in : Forest → List ParamTree → List ParamTree
param_in (Node _ type (Leaf name _ _)) others =
    record { type_of = type_in type; place = place_of_mark name; variable = Unresolved (written name) } ∷ others
param_in _ others = others

abbrev pub more_params : Forest → List ParamTree
more_params (Node _ (Leaf comma _ (Node _ param _)) (Node _ others _)) = param_in param (more_params others)
more_params _ = []

-- a parameter, and others after commas
abbrev pub params_in : Forest → List ParamTree
params_in (Node _ first (Node _ others _)) = param_in first (more_params others)
params_in _ = []

-- perhaps parameters
abbrev pub params_maybe : Forest → List ParamTree
params_maybe (Node _ params _) = params_in params
params_maybe _ = []

-- perhaps "(", perhaps parameters, ")"
abbrev pub class_params_maybe : Forest → List ParamTree
class_params_maybe (Node _ (Leaf opening _ (Node _ params _)) _) = params_maybe params
class_params_maybe _ = []

-- perhaps types
abbrev pub types_maybe : Forest → TypeTrees
types_maybe (Node _ types _) = types_in types
types_maybe _ = NoType

-- perhaps "(", perhaps types, ")"
abbrev pub constructor_types : Forest → TypeTrees
constructor_types (Node _ (Leaf opening _ (Node _ types _)) _) = types_maybe types
constructor_types _ = NoType

-- a constructor, before others
abbrev pub constructor_in : Forest → List ConstructorTree → List ConstructorTree
constructor_in (Leaf name _ (Node _ types _)) others =
    record { name = declared name; types = constructor_types types } ∷ others
constructor_in _ others = others

abbrev pub more_constructors : Forest → List ConstructorTree
more_constructors (Node _ (Leaf bar _ (Node _ constructor _)) (Node _ others _)) =
    constructor_in constructor (more_constructors others)
more_constructors _ = []

-- a method of an interface, before others
abbrev pub signature_in : Forest → List SignatureTree → List SignatureTree
signature_in (Node _ type (Leaf name _ (Leaf opening _ (Node _ params _)))) others =
    record { result = type_in type; name = declared name; params = params_maybe params } ∷ others
signature_in _ others = others

abbrev pub signatures_in : Forest → List SignatureTree
signatures_in (Node _ signature (Node _ others _)) = signature_in signature (signatures_in others)
signatures_in _ = []

-- a member, by what follows its type and name: ";", a value, or parameters and a body, whose first index is this one
abbrev pub member_by : ℕ → TypeTree → DeclaredTree → Forest → MemberTree
member_by index type name (Leaf opening _ (Node _ params (Leaf closing _ (Node _ block _)))) =
    MethodTree (record { result = type; name = name; params = params_maybe params }) (block_end block)
    (block_in index block)
member_by index type name (Leaf equals _ (Node _ expr (Leaf semicolon _ _))) =
    FieldTree type name (Value (expr_in expr))
member_by index type name _ = FieldTree type name NoValue

-- a member, before others
abbrev pub member_in : ℕ → Forest → List MemberTree → List MemberTree
member_in index (Node _ type (Leaf name _ (Node _ tail _))) others =
    member_by index (type_in type) (declared name) tail ∷ others
member_in index _ others = others

abbrev pub members_in : ℕ → Forest → List MemberTree
members_in index (Node _ member (Node _ others _)) =
    member_in index member (members_in (index + member_statements (member_in index member [])) others)
members_in index _ = []

-- a declaration by its first token, before others
abbrev pub decl_by : ℕ → TokenKind → Place → Forest → List DeclTree → List DeclTree
decl_by index (KeywordKind keyword.Data) place
    (Leaf name _ (Node _ parameters (Leaf equals _ (Node _ first (Node _ more _))))) others =
    DataTree place (declared name) (names_maybe parameters) (constructor_in first (more_constructors more)) ∷ others
decl_by index (KeywordKind keyword.Def) place
    (Node _ type (Leaf name _ (Node _ parameters
    (Leaf opening _ (Node _ params (Leaf closing _ (Leaf equals _ (Node _ expr _)))))))) others =
    FunctionTree place (type_in type) (declared name) (names_maybe parameters) (params_maybe params) (expr_in expr)
    ∷ others
decl_by index (KeywordKind keyword.Interface) place
    (Leaf name _ (Node _ extended (Leaf opening _ (Node _ signatures _)))) others =
    InterfaceTree place (declared name) (names_maybe extended) (signatures_in signatures) ∷ others
decl_by index (KeywordKind keyword.Class) place
    (Leaf name _ (Node _ params (Node _ implemented (Leaf opening _ (Node _ members _))))) others =
    ClassTree place (declared name) (class_params_maybe params) (names_maybe implemented) (members_in index members)
    ∷ others
decl_by index _ place forest others = others

-- a declaration, before others
abbrev pub decl_in : ℕ → Forest → List DeclTree → List DeclTree
decl_in index (Leaf mark _ inside) others = decl_by index (token_kind mark) (place_of_mark mark) inside others
decl_in index _ others = others

abbrev pub decls_in : ℕ → Forest → List DeclTree
decls_in index (Node _ decl (Node _ more _)) =
    decl_in index decl (decls_in (index + decl_statements (decl_in index decl [])) more)
decls_in index _ = []

-- Program: the "module" and "import" lines leave nothing, and the indices of the main block follow those of the classes
abbrev pub text_in : Forest → SourceTree
text_in (Node _ heading (Node _ imported (Node _ decls (Node _ block _)))) =
    let declarations = decls_in 0 decls in
    record { declarations = declarations; main = block_in (decl_statements declarations) block; end = block_end block }
text_in _ = record { declarations = []; main = NoStatement; end = start }

-- the tree of a source, from its one reading
abbrev pub tree_of : Forest → SourceTree
tree_of (Node _ program _) = text_in program
tree_of _ = text_in Empty
