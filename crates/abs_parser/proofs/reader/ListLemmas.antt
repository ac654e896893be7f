-- Which nonterminals are lists with a separator, which trees these have, and which nonterminals are such lists in
-- parentheses.
use Rattle.std.proofs.Common.{◌≡◌, false, refl}
use Rattle.abs_lexer.specs.declared.lexeme.Punctuator.TheVariants as punctuator
use Rattle.abs_tree.specs.Syntax.{TypeTree, TypeTrees, NoType, NextType, PatternTree, PatternTrees, NoPattern, NextPattern, ExprTree, ExprTrees, NoExpr, NextExpr, Tests, NoTest, NextTest}
use Rattle.abs_tree.specs.SyntaxViews.{type_tree, type_trees, pattern_tree, pattern_trees, expr_tree, expr_trees, tests}
use Rattle.abs_tree.specs.declared.syntax.expression.Expr as code_expr
use Rattle.abs_tree.specs.declared.syntax.pattern.Pattern as code_pattern
use Rattle.abs_tree.specs.declared.syntax.statement.Test as code_test
use Rattle.abs_tree.specs.declared.syntax.types.TypeTerm.{TypeTerm}
use Rattle.abs_parser.specs.TokenKinds.{PunctuatorKind}
use Rattle.abs_parser.specs.Productions.{Type', Types, CommaType, Pattern, PatternArguments, Patterns, CommaPattern, Expr, Arguments, Args, CommaExpr, Guard, Test, AndTest, begins, begins_within}
use Rattle.abs_parser.specs.Readings.{Forest, Empty, Leaf, Node}
use Rattle.abs_parser.specs.TreesOf.{type_in, types_in, more_types, pattern_in, patterns_in, more_patterns, expr_in, args_in, more_args, test_in, guard_in, more_tests}
use Rattle.abs_parser.proofs.reader.ListSteps.{SeparatedList, ListTrees, InParentheses}

-- Types

-- types are a list
abbrev pub list_of_types : SeparatedList
list_of_types = record {
  separator = punctuator.Comma;
  list = Types;
  one = Type';
  next = CommaType;
  list_is = refl;
  list_counts = refl;
  next_is = refl;
  next_counts = refl;
}

-- the trees of a list of types
abbrev pub trees_of_types : ListTrees TypeTerm TypeTree TypeTrees
trees_of_types = record {
  tree = type_tree;
  trees = type_trees;
  none = NoType;
  more = NextType;
  trees_none = λ names. refl;
  trees_more = λ names first others. refl;
  one_in = type_in;
  list_in = types_in;
  others_in = more_types;
  list_is = λ one after first others. refl;
  others_none = refl;
  others_more = λ next one after mark depth first others. refl;
}

-- Patterns

-- patterns are a list
abbrev pub list_of_patterns : SeparatedList
list_of_patterns = record {
  separator = punctuator.Comma;
  list = Patterns;
  one = Pattern;
  next = CommaPattern;
  list_is = refl;
  list_counts = refl;
  next_is = refl;
  next_counts = refl;
}

-- the trees of a list of patterns
abbrev pub trees_of_patterns : ListTrees code_pattern.Pattern PatternTree PatternTrees
trees_of_patterns = record {
  tree = pattern_tree;
  trees = pattern_trees;
  none = NoPattern;
  more = NextPattern;
  trees_none = λ names. refl;
  trees_more = λ names first others. refl;
  one_in = pattern_in;
  list_in = patterns_in;
  others_in = more_patterns;
  list_is = λ one after first others. refl;
  others_none = refl;
  others_more = λ next one after mark depth first others. refl;
}

-- no pattern begins with a closing parenthesis
pub no_pattern_closes : begins Pattern (PunctuatorKind punctuator.CloseParen) ≡ false
unfolding begins begins_within
no_pattern_closes = refl

-- the arguments of a pattern are patterns in parentheses
abbrev pub pattern_arguments : InParentheses list_of_patterns
pattern_arguments = record {
  nonterminal = PatternArguments;
  nonterminal_is = refl;
  nonterminal_counts =
      refl;
  none_closes = no_pattern_closes;
}

-- Expressions

-- expressions are a list
abbrev pub list_of_expressions : SeparatedList
list_of_expressions = record {
  separator = punctuator.Comma;
  list = Args;
  one = Expr;
  next = CommaExpr;
  list_is = refl;
  list_counts = refl;
  next_is = refl;
  next_counts = refl;
}

-- the trees of a list of expressions
abbrev pub trees_of_expressions : ListTrees code_expr.Expr ExprTree ExprTrees
trees_of_expressions = record {
  tree = expr_tree;
  trees = expr_trees;
  none = NoExpr;
  more = NextExpr;
  trees_none = λ names. refl;
  trees_more = λ names first others. refl;
  one_in = expr_in;
  list_in = args_in;
  others_in = more_args;
  list_is = λ one after first others. refl;
  others_none = refl;
  others_more = λ next one after mark depth first others. refl;
}

-- no expression begins with a closing parenthesis
pub no_expression_closes : begins Expr (PunctuatorKind punctuator.CloseParen) ≡ false
unfolding begins begins_within
no_expression_closes = refl

-- arguments are expressions in parentheses
abbrev pub arguments : InParentheses list_of_expressions
arguments = record {
  nonterminal = Arguments;
  nonterminal_is = refl;
  nonterminal_counts = refl;
  none_closes =
      no_expression_closes;
}

-- Guards

-- a guard is a list of tests
abbrev pub list_of_tests : SeparatedList
list_of_tests = record {
  separator = punctuator.And;
  list = Guard;
  one = Test;
  next = AndTest;
  list_is = refl;
  list_counts = refl;
  next_is = refl;
  next_counts = refl;
}

-- the tree of one test, followed by others
abbrev test_before : Tests → Tests → Tests
test_before (NextTest place value asks _) others = NextTest place value asks others
test_before NoTest others = others

-- the tree of a test that is followed by others is its own tree, followed by them
pub test_in_front : (inside : Forest) (others : Tests)
    → test_in inside others ≡ test_before (test_in inside NoTest) others
test_in_front Empty others = refl
test_in_front (Leaf mark depth after) others = refl
test_in_front (Node equal inside Empty) others = refl
test_in_front (Node equal inside (Leaf mark depth after)) others = refl
test_in_front (Node equal inside (Node question asks after)) others = refl

-- the trees of a list of tests
abbrev pub trees_of_tests : ListTrees code_test.Test Tests Tests
trees_of_tests = record {
  tree = λ names test. NextTest test.place (expr_tree names test.value.value) test.asks NoTest;
  trees = tests;
  none = NoTest;
  more = test_before;
  trees_none = λ names. refl;
  trees_more = λ names first others. refl;
  one_in = λ inside. test_in inside NoTest;
  list_in = guard_in;
  others_in = more_tests;
  list_is = λ one after first others. test_in_front first (more_tests others);
  others_none = refl;
  others_more = λ next one after mark depth first others. test_in_front first (more_tests others);
}
