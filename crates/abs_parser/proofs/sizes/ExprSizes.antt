-- Patterns, expressions, right sides and guards have no more variables than their forest has leaves, since the name of
-- each variable is a leaf. This holds for any forest. What follows a first operand adds no more than that.
use Rattle.std.proofs.Common.{◌≡◌, ◌≤◌, ℕ, ◌+◌, Option, Some, None, refl, arith}
use Rattle.abs_tree.specs.declared.place.Place.{Place}
use Rattle.abs_tree.specs.Syntax.{Name, ExprTree, ExprTrees, Operands, NoOperands, NextOperand, Branches, Tests}
use Rattle.abs_tree.specs.SyntaxSizes.{pattern_variables, patterns_variables, expr_variables, exprs_variables, operand_variables, branch_variables, side_variables, test_variables}
use Rattle.abs_lexer.specs.declared.lexeme.Keyword.TheVariants as keyword
use Rattle.abs_lexer.specs.declared.lexeme.Punctuator.TheVariants as punctuator
use Rattle.abs_parser.specs.TokenKinds.{Mark, TokenKind, LowerName, LocalName, UpperName, AbsName, StdLibName, KeywordKind, PunctuatorKind, place_of_mark, token_kind}
use Rattle.abs_parser.specs.Readings.{Forest, Leaf, Node}
use Rattle.abs_parser.specs.TreesOf.{written, pattern_in, pattern_by, pattern_arguments, patterns_maybe, patterns_in, more_patterns, place_in, with_operators, named, member, built, expr_in, or_in, or_operands, and_in, and_operands, equal_in, equal_operand, compare_in, compare_operand, sum_in, sum_operands, mul_in, mul_operands, unary_in, primary_in, primary_by, this_in, arguments_maybe, arguments_in, args_maybe, args_in, more_args, branch_in, branches_in, selected_in, tail_in, rhs_in, rest_in, test_in, more_tests, guard_in}
use Rattle.abs_parser.proofs.sizes.LeafLemmas.{leaves}

mutual
  -- a pattern has no more variables than its forest has leaves
  pattern_few : (forest : Forest) → pattern_variables (pattern_in forest) ≤ leaves forest
  pattern_few (Leaf mark _ others) = omega (arith, pattern_by_few (token_kind mark) mark others)
  pattern_few _ = omega arith

  -- the same for a pattern, by its first token, which is one more leaf
  pattern_by_few : (kind : TokenKind) (mark : Mark) (others : Forest)
      → pattern_variables (pattern_by kind mark others) ≤ 1 + leaves others
  pattern_by_few (PunctuatorKind punctuator.Minus) mark (Leaf number _ _) = omega arith
  pattern_by_few UpperName mark (Node _ arguments _) = omega (arith, pattern_arguments_few arguments)
  pattern_by_few AbsName mark (Node _ arguments _) = omega (arith, pattern_arguments_few arguments)
  pattern_by_few StdLibName mark (Node _ arguments _) = omega (arith, pattern_arguments_few arguments)
  pattern_by_few _ mark others = omega arith

  -- the same for the patterns of a constructor
  pattern_arguments_few : (forest : Forest) → patterns_variables (pattern_arguments forest) ≤ leaves forest
  pattern_arguments_few (Node _ (Leaf opening _ (Node _ patterns _)) others) =
      omega (arith, patterns_maybe_few patterns)
  pattern_arguments_few _ = omega arith

  -- the same for patterns that may be left out
  patterns_maybe_few : (forest : Forest) → patterns_variables (patterns_maybe forest) ≤ leaves forest
  patterns_maybe_few (Node _ patterns _) = omega (arith, patterns_few patterns)
  patterns_maybe_few _ = omega arith

  -- the same for patterns with commas between them
  patterns_few : (forest : Forest) → patterns_variables (patterns_in forest) ≤ leaves forest
  patterns_few (Node _ first (Node _ others _)) = omega (arith, pattern_few first, more_patterns_few others)
  patterns_few _ = omega arith

  -- the same for the patterns after the first
  more_patterns_few : (forest : Forest) → patterns_variables (more_patterns forest) ≤ leaves forest
  more_patterns_few (Node _ (Leaf comma _ (Node _ pattern _)) (Node _ others _)) =
      omega (arith, pattern_few pattern, more_patterns_few others)
  more_patterns_few _ = omega arith

-- an operator list has the variables of its first operand and those of the others
operator_variables : (place : Place) (first : ExprTree) (others : Operands)
    → expr_variables (with_operators place first others) ≡ expr_variables first + operand_variables others
operator_variables place first NoOperands = omega arith
operator_variables place first (NextOperand operator right others) = refl

-- the variables of arguments that may be left out
abbrev pub optional_variables : Option ExprTrees → ℕ
optional_variables None = 0
optional_variables (Some arguments) = exprs_variables arguments

-- a name has the variables of the arguments after it
pub named_variables : (place : Place) (name : Name) (arguments : Option ExprTrees)
    → expr_variables (named place name arguments) ≡ optional_variables arguments
named_variables place name None = refl
named_variables place name (Some arguments) = refl

-- the same for a name after "this"
pub member_variables_are : (place name_place : Place) (name : Name) (arguments : Option ExprTrees)
    → expr_variables (member place name_place name arguments) ≡ optional_variables arguments
member_variables_are place name_place name None = refl
member_variables_are place name_place name (Some arguments) = refl

-- the same for a constructor
built_variables : (place : Place) (name : Name) (arguments : Option ExprTrees)
    → expr_variables (built place name arguments) ≡ optional_variables arguments
built_variables place name None = refl
built_variables place name (Some arguments) = refl

mutual
  -- an expression has no more variables than its forest has leaves
  pub expr_few : (forest : Forest) → expr_variables (expr_in forest) ≤ leaves forest
  expr_few (Leaf mark _ (Leaf opening _
      (Node _ type (Leaf name _ (Leaf closing _ (Leaf equals _ (Node _ value (Leaf in_token _ (Node _ body _))))))))) =
      omega (arith, expr_few value, expr_few body)
  expr_few (Leaf mark _ (Node _ test (Leaf then_token _ (Node _ first (Leaf else_token _ (Node _ second _)))))) =
      omega (arith, expr_few test, expr_few first, expr_few second)
  expr_few (Node _ or _) = omega (arith, or_few or)
  expr_few _ = omega arith

  -- the same for operands with "||" between them
  or_few : (forest : Forest) → expr_variables (or_in forest) ≤ leaves forest
  or_few (Node _ first (Node _ others _)) =
      omega (
        arith,
        operator_variables (place_in first) (and_in first) (or_operands others),
        and_few first,
        or_operands_few others,
      )
  or_few _ = omega arith

  -- the same for the operands after the first
  or_operands_few : (forest : Forest) → operand_variables (or_operands forest) ≤ leaves forest
  or_operands_few (Node _ (Leaf mark _ (Node _ right _)) (Node _ others _)) =
      omega (arith, and_few right, or_operands_few others)
  or_operands_few _ = omega arith

  -- the same for operands with "&&" between them
  and_few : (forest : Forest) → expr_variables (and_in forest) ≤ leaves forest
  and_few (Node _ first (Node _ others _)) =
      omega (
        arith,
        operator_variables (place_in first) (equal_in first) (and_operands others),
        equal_few first,
        and_operands_few others,
      )
  and_few _ = omega arith

  -- the same for the operands after the first
  and_operands_few : (forest : Forest) → operand_variables (and_operands forest) ≤ leaves forest
  and_operands_few (Node _ (Leaf mark _ (Node _ right _)) (Node _ others _)) =
      omega (arith, equal_few right, and_operands_few others)
  and_operands_few _ = omega arith

  -- the same for operands with "==" or "!=" between them
  equal_few : (forest : Forest) → expr_variables (equal_in forest) ≤ leaves forest
  equal_few (Node _ first (Node _ other _)) =
      omega (
        arith,
        operator_variables (place_in first) (compare_in first) (equal_operand other),
        compare_few first,
        equal_operand_few other,
      )
  equal_few _ = omega arith

  -- the same for the operand after the first
  equal_operand_few : (forest : Forest) → operand_variables (equal_operand forest) ≤ leaves forest
  equal_operand_few (Node _ (Leaf mark _ (Node _ right _)) _) = omega (arith, compare_few right)
  equal_operand_few _ = omega arith

  -- the same for operands that are compared
  compare_few : (forest : Forest) → expr_variables (compare_in forest) ≤ leaves forest
  compare_few (Node _ first (Node _ other _)) =
      omega (
        arith,
        operator_variables (place_in first) (sum_in first) (compare_operand other),
        sum_few first,
        compare_operand_few other,
      )
  compare_few _ = omega arith

  -- the same for the operand after the first
  compare_operand_few : (forest : Forest) → operand_variables (compare_operand forest) ≤ leaves forest
  compare_operand_few (Node _ (Leaf mark _ (Node _ right _)) _) = omega (arith, sum_few right)
  compare_operand_few _ = omega arith

  -- the same for the operands of a sum
  sum_few : (forest : Forest) → expr_variables (sum_in forest) ≤ leaves forest
  sum_few (Node _ first (Node _ others _)) =
      omega (
        arith,
        operator_variables (place_in first) (mul_in first) (sum_operands others),
        mul_few first,
        sum_operands_few others,
      )
  sum_few _ = omega arith

  -- the same for the operands after the first
  sum_operands_few : (forest : Forest) → operand_variables (sum_operands forest) ≤ leaves forest
  sum_operands_few (Node _ (Leaf mark _ (Node _ right _)) (Node _ others _)) =
      omega (arith, mul_few right, sum_operands_few others)
  sum_operands_few _ = omega arith

  -- the same for the operands of a product
  mul_few : (forest : Forest) → expr_variables (mul_in forest) ≤ leaves forest
  mul_few (Node _ first (Node _ others _)) =
      omega (
        arith,
        operator_variables (place_in first) (unary_in first) (mul_operands others),
        unary_few first,
        mul_operands_few others,
      )
  mul_few _ = omega arith

  -- the same for the operands after the first
  mul_operands_few : (forest : Forest) → operand_variables (mul_operands forest) ≤ leaves forest
  mul_operands_few (Node _ (Leaf mark _ (Node _ right _)) (Node _ others _)) =
      omega (arith, unary_few right, mul_operands_few others)
  mul_operands_few _ = omega arith

  -- the same for an operand with prefix operators before it, or without
  unary_few : (forest : Forest) → expr_variables (unary_in forest) ≤ leaves forest
  unary_few (Leaf mark _ (Node _ operand _)) = omega (arith, unary_few operand)
  unary_few (Node _ primary _) = omega (arith, primary_few primary)
  unary_few _ = omega arith

  -- the same for a primary
  primary_few : (forest : Forest) → expr_variables (primary_in forest) ≤ leaves forest
  primary_few (Leaf mark _ others) = omega (arith, primary_by_few (token_kind mark) mark others)
  primary_few _ = omega arith

  -- the same for a primary, by its first token, which is one more leaf
  primary_by_few : (kind : TokenKind) (mark : Mark) (others : Forest)
      → expr_variables (primary_by kind mark others) ≤ 1 + leaves others
  primary_by_few (KeywordKind keyword.This) mark (Node _ tail _) = omega (arith, this_few (place_of_mark mark) tail)
  primary_by_few LowerName mark (Node _ arguments _) =
      omega (
        arith,
        named_variables (place_of_mark mark) (written mark) (arguments_maybe arguments),
        arguments_maybe_few
            arguments,
      )
  primary_by_few LocalName mark (Node _ arguments _) =
      omega (
        arith,
        named_variables (place_of_mark mark) (written mark) (arguments_maybe arguments),
        arguments_maybe_few
            arguments,
      )
  primary_by_few UpperName mark (Node _ arguments _) =
      omega (
        arith,
        built_variables (place_of_mark mark) (written mark) (arguments_maybe arguments),
        arguments_maybe_few
            arguments,
      )
  primary_by_few AbsName mark (Node _ arguments _) =
      omega (
        arith,
        built_variables (place_of_mark mark) (written mark) (arguments_maybe arguments),
        arguments_maybe_few
            arguments,
      )
  primary_by_few StdLibName mark (Node _ arguments _) =
      omega (
        arith,
        built_variables (place_of_mark mark) (written mark) (arguments_maybe arguments),
        arguments_maybe_few
            arguments,
      )
  primary_by_few (KeywordKind keyword.Case) mark
      (Node _ subject (Leaf opening _ (Node _ first (Node _ others (Leaf closing _ _))))) =
      omega (arith, expr_few subject, branch_few first (branches_in others), branches_few others)
  primary_by_few (PunctuatorKind punctuator.OpenParen) mark (Node _ inside _) = omega (arith, expr_few inside)
  primary_by_few _ mark others = omega arith

  -- the same for "this" with what follows it
  this_few : (place : Place) (forest : Forest) → expr_variables (this_in place forest) ≤ leaves forest
  this_few place (Node _ (Leaf dot _ (Leaf name _ (Node _ arguments _))) _) =
      omega (
        arith,
        member_variables_are place (place_of_mark name) (written name) (arguments_maybe arguments),
        arguments_maybe_few arguments,
      )
  this_few place _ = omega arith

  -- the same for arguments that may be left out
  pub arguments_maybe_few : (forest : Forest) → optional_variables (arguments_maybe forest) ≤ leaves forest
  arguments_maybe_few (Node _ arguments _) = omega (arith, arguments_few arguments)
  arguments_maybe_few _ = omega arith

  -- the same for arguments in parentheses
  arguments_few : (forest : Forest) → exprs_variables (arguments_in forest) ≤ leaves forest
  arguments_few (Leaf opening _ (Node _ args _)) = omega (arith, args_maybe_few args)
  arguments_few _ = omega arith

  -- the same for expressions that may be left out
  args_maybe_few : (forest : Forest) → exprs_variables (args_maybe forest) ≤ leaves forest
  args_maybe_few (Node _ args _) = omega (arith, args_few args)
  args_maybe_few _ = omega arith

  -- the same for expressions with commas between them
  args_few : (forest : Forest) → exprs_variables (args_in forest) ≤ leaves forest
  args_few (Node _ first (Node _ others _)) = omega (arith, expr_few first, more_args_few others)
  args_few _ = omega arith

  -- the same for the expressions after the first
  more_args_few : (forest : Forest) → exprs_variables (more_args forest) ≤ leaves forest
  more_args_few (Node _ (Leaf comma _ (Node _ expr _)) (Node _ others _)) =
      omega (arith, expr_few expr, more_args_few others)
  more_args_few _ = omega arith

  -- a branch of a "case", before others, adds no more variables than its forest has leaves
  branch_few : (forest : Forest) (others : Branches)
      → branch_variables (branch_in forest others) ≤ leaves forest + branch_variables others
  branch_few (Node _ pattern (Leaf arrow _ (Node _ expr (Leaf semicolon _ _)))) others =
      omega (arith, pattern_few pattern, expr_few expr)
  branch_few _ others = omega arith

  -- the branches of a "case" have no more variables than their forest has leaves
  branches_few : (forest : Forest) → branch_variables (branches_in forest) ≤ leaves forest
  branches_few (Node _ branch (Node _ others _)) =
      omega (arith, branch_few branch (branches_in others), branches_few others)
  branches_few _ = omega arith

-- what follows the "." after an expression adds no more variables than its forest has leaves
selected_few : (place : Place) (first : ExprTree) (forest : Forest)
    → side_variables (selected_in place first forest) ≤ expr_variables first + leaves forest
selected_few place first (Leaf name _ (Node _ arguments _)) = omega (arith, arguments_few arguments)
selected_few place first (Leaf get _ _) = omega arith
selected_few place first _ = omega arith

-- the same for all that follows an expression in a right side
tail_few : (place : Place) (first : ExprTree) (forest : Forest)
    → side_variables (tail_in place first forest) ≤ expr_variables first + leaves forest
tail_few place first (Node _ (Leaf bang _ (Leaf name _ (Node _ arguments _))) _) =
    omega (arith, arguments_few arguments)
tail_few place first (Node _ (Leaf dot _ (Node _ selected _)) _) = omega (arith, selected_few place first selected)
tail_few place first _ = omega arith

-- a right side has no more variables than its forest has leaves
pub rhs_few : (forest : Forest) → side_variables (rhs_in forest) ≤ leaves forest
rhs_few (Leaf mark _ (Node _ where_made (Leaf name _ (Node _ arguments _)))) = omega (arith, arguments_few arguments)
rhs_few (Node _ expr (Node _ tail _)) = omega (arith, expr_few expr, tail_few (place_in expr) (expr_in expr) tail)
rhs_few _ = omega arith

-- what follows the first operand of a right side adds no more variables than its forest has leaves
pub rest_few : (place : Place) (first : ExprTree) (forest : Forest)
    → side_variables (rest_in place first forest) ≤ expr_variables first + leaves forest
rest_few place first (Node _ muls
    (Node _ sums (Node _ compared (Node _ equal (Node _ ands (Node _ ors (Node _ tail _))))))) =
    let product = with_operators place first (mul_operands muls) in
    let sum = with_operators place product (sum_operands sums) in
    let comparison = with_operators place sum (compare_operand compared) in
    let equality = with_operators place comparison (equal_operand equal) in
    let conjunction = with_operators place equality (and_operands ands) in
    omega (
      arith,
      operator_variables place first (mul_operands muls),
      mul_operands_few muls,
      operator_variables place product (sum_operands sums),
      sum_operands_few sums,
      operator_variables place sum (compare_operand compared),
      compare_operand_few compared,
      operator_variables place comparison (equal_operand equal),
      equal_operand_few equal,
      operator_variables place equality (and_operands ands),
      and_operands_few ands,
      operator_variables place conjunction (or_operands ors),
      or_operands_few ors,
      tail_few place (with_operators place conjunction (or_operands ors)) tail,
    )
rest_few place first _ = omega arith

-- a part of a guard, before others, adds no more variables than its forest has leaves
test_few : (forest : Forest) (others : Tests)
    → test_variables (test_in forest others) ≤ leaves forest + test_variables others
test_few (Node _ equal (Node _ question _)) others = omega (arith, equal_few equal)
test_few _ others = omega arith

-- the parts of a guard after the first have no more variables than their forest has leaves
more_tests_few : (forest : Forest) → test_variables (more_tests forest) ≤ leaves forest
more_tests_few (Node _ (Leaf mark _ (Node _ test _)) (Node _ others _)) =
    omega (arith, test_few test (more_tests others), more_tests_few others)
more_tests_few _ = omega arith

-- the same for a whole guard
pub guard_few : (forest : Forest) → test_variables (guard_in forest) ≤ leaves forest
guard_few (Node _ first (Node _ others _)) = omega (arith, test_few first (more_tests others), more_tests_few others)
guard_few _ = omega arith
