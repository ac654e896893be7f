-- The precedences of operators between operands, from `||`, which binds least, to `*`, with the nonterminals of each.
--
--   `nonterminal_of`, `operand_nonterminal`            the nonterminals of a precedence and of its operands
--   `tail_nonterminal`                                 the nonterminal of an operator with its right operand
--   `rank`, `looser`                                   the order of the precedences
--   `repeats`, `rest_of`                               whether operators repeat, and what follows the first operand
--   `precedence_in`, `operand_in`, `operands_in`       the trees of a precedence, an operand and the operators after it
--   `precedence_of`, `punctuator_of`                   the precedence and the punctuator of an operator
--   `prefix_punctuator`                                the punctuator of a prefix operator
use Rattle.std.specs.Prelude.{ℕ, Bool, true, false}
use Rattle.abs_tree.specs.Syntax.{ExprTree, Operands}
use Rattle.abs_tree.specs.declared.syntax.expression.Operator.{Operator}
use Rattle.abs_tree.specs.declared.syntax.expression.Operator.TheVariants as operator
use Rattle.abs_tree.specs.declared.syntax.expression.Prefix.{Prefix}
use Rattle.abs_tree.specs.declared.syntax.expression.Prefix.TheVariants as prefix
use Rattle.abs_lexer.specs.declared.lexeme.Punctuator.{Punctuator}
use Rattle.abs_lexer.specs.declared.lexeme.Punctuator.TheVariants as punctuator
use Rattle.abs_parser.specs.declared.operators.Precedence.{Precedence}
use Rattle.abs_parser.specs.declared.operators.Precedence.TheVariants as precedence
use Rattle.abs_parser.specs.Productions.{Nonterminal, Or, OrTail, And, AndTail, Equal, EqualTail, Compare, CompareTail, Sum, SumTail, Mul, MulTail, Unary}
use Rattle.abs_parser.specs.Readings.{Goal, Optional, Repeated, Forest}
use Rattle.abs_parser.specs.TreesOf.{or_in, or_operands, and_in, and_operands, equal_in, equal_operand, compare_in, compare_operand, sum_in, sum_operands, mul_in, mul_operands, unary_in}

abbrev pub nonterminal_of : Precedence → Nonterminal
nonterminal_of precedence.Or = Or
nonterminal_of precedence.And = And
nonterminal_of precedence.Equal = Equal
nonterminal_of precedence.Compare = Compare
nonterminal_of precedence.Sum = Sum
nonterminal_of precedence.Mul = Mul

-- the operands of a precedence are read as the next one that binds more, and those of the last one as Unary
abbrev pub operand_nonterminal : Precedence → Nonterminal
operand_nonterminal precedence.Or = And
operand_nonterminal precedence.And = Equal
operand_nonterminal precedence.Equal = Compare
operand_nonterminal precedence.Compare = Sum
operand_nonterminal precedence.Sum = Mul
operand_nonterminal precedence.Mul = Unary

-- the number of precedences that bind more than this one
abbrev pub rank : Precedence → ℕ
rank precedence.Or = 5
rank precedence.And = 4
rank precedence.Equal = 3
rank precedence.Compare = 2
rank precedence.Sum = 1
rank precedence.Mul = 0

-- the next precedence that binds less; `||`, for which there is none, gives itself
abbrev pub looser : Precedence → Precedence
looser precedence.Or = precedence.Or
looser precedence.And = precedence.Or
looser precedence.Equal = precedence.And
looser precedence.Compare = precedence.Equal
looser precedence.Sum = precedence.Compare
looser precedence.Mul = precedence.Sum

abbrev pub tail_nonterminal : Precedence → Nonterminal
tail_nonterminal precedence.Or = OrTail
tail_nonterminal precedence.And = AndTail
tail_nonterminal precedence.Equal = EqualTail
tail_nonterminal precedence.Compare = CompareTail
tail_nonterminal precedence.Sum = SumTail
tail_nonterminal precedence.Mul = MulTail

-- whether a further operator may follow: for equality and comparison it may not
abbrev pub repeats : Precedence → Bool
repeats precedence.Equal = false
repeats precedence.Compare = false
repeats _ = true

-- what is to be read after the first operand
abbrev pub rest_of : Precedence → Goal
rest_of precedence.Or = Repeated OrTail
rest_of precedence.And = Repeated AndTail
rest_of precedence.Equal = Optional EqualTail
rest_of precedence.Compare = Optional CompareTail
rest_of precedence.Sum = Repeated SumTail
rest_of precedence.Mul = Repeated MulTail

-- the tree of a precedence
abbrev pub precedence_in : Precedence → Forest → ExprTree
precedence_in precedence.Or = or_in
precedence_in precedence.And = and_in
precedence_in precedence.Equal = equal_in
precedence_in precedence.Compare = compare_in
precedence_in precedence.Sum = sum_in
precedence_in precedence.Mul = mul_in

-- the tree of an operand
abbrev pub operand_in : Precedence → Forest → ExprTree
operand_in precedence.Or = and_in
operand_in precedence.And = equal_in
operand_in precedence.Equal = compare_in
operand_in precedence.Compare = sum_in
operand_in precedence.Sum = mul_in
operand_in precedence.Mul = unary_in

-- the operators after the first operand, with their right operands
abbrev pub operands_in : Precedence → Forest → Operands
operands_in precedence.Or = or_operands
operands_in precedence.And = and_operands
operands_in precedence.Equal = equal_operand
operands_in precedence.Compare = compare_operand
operands_in precedence.Sum = sum_operands
operands_in precedence.Mul = mul_operands

abbrev pub precedence_of : Operator → Precedence
precedence_of operator.Or = precedence.Or
precedence_of operator.And = precedence.And
precedence_of operator.Equal = precedence.Equal
precedence_of operator.NotEqual = precedence.Equal
precedence_of operator.Less = precedence.Compare
precedence_of operator.LessEqual = precedence.Compare
precedence_of operator.Greater = precedence.Compare
precedence_of operator.GreaterEqual = precedence.Compare
precedence_of operator.Plus = precedence.Sum
precedence_of operator.Minus = precedence.Sum
precedence_of operator.Times = precedence.Mul
precedence_of operator.Divide = precedence.Mul
precedence_of operator.Remainder = precedence.Mul

-- the punctuator of an operator
abbrev pub punctuator_of : Operator → Punctuator
punctuator_of operator.Or = punctuator.Or
punctuator_of operator.And = punctuator.And
punctuator_of operator.Equal = punctuator.Equal
punctuator_of operator.NotEqual = punctuator.NotEqual
punctuator_of operator.Less = punctuator.Less
punctuator_of operator.LessEqual = punctuator.LessEqual
punctuator_of operator.Greater = punctuator.Greater
punctuator_of operator.GreaterEqual = punctuator.GreaterEqual
punctuator_of operator.Plus = punctuator.Plus
punctuator_of operator.Minus = punctuator.Minus
punctuator_of operator.Times = punctuator.Star
punctuator_of operator.Divide = punctuator.Slash
punctuator_of operator.Remainder = punctuator.Percent

-- the punctuator of a prefix operator
abbrev pub prefix_punctuator : Prefix → Punctuator
prefix_punctuator prefix.Not = punctuator.Not
prefix_punctuator prefix.Tilde = punctuator.Tilde
prefix_punctuator prefix.Minus = punctuator.Minus
