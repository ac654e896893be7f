-- Values of which the tests say how they are printed and how large they are, and expressions of which they say what
-- they give. Each part of an expression is at the start of a source.
--
--   `names`, `library`, `scope`        the names of a program, its one function, and values that can be read
--   `just`, `cons`, `nil`, `pair`, `unit`  values
--   `sum_of_products`, ..              the expressions, each after its text
use Rattle.std.specs.Prelude.{ℕ, pos, negsuc, List, [], ◌∷◌, codes, Some}
use Rattle.abs_tree.specs.Places.{start}
use Rattle.abs_values.specs.Scopes.{Library, Scope}
use Rattle.abs_tree.specs.Syntax.{Name, AtSlot, AtBound, IntType, AnyValue, Binds, SameNumber, Built, PatternTree, PatternTrees, NoPattern, NextPattern, ExprTree, LetIn, IfElse, OperatorsOf, Prefixed, NumberOf, StringOf, ThisOf, VariableOf, ApplyOf, BuildOf, CaseOf, ExprTrees, NoExpr, NextExpr, Operands, NoOperands, NextOperand, NoBranch, NextBranch}
use Rattle.abs_values.specs.ValueTrees.{ValueTree, IntValue, BuiltValue, ValueTrees, NoPart, NextPart}
use Rattle.abs_tree.specs.declared.syntax.expression.Operator.{Operator}
use Rattle.abs_tree.specs.declared.syntax.expression.Operator.TheVariants as operator
use Rattle.abs_tree.specs.declared.syntax.expression.Prefix.TheVariants as prefix

-- the names of a program; the number of a constructor is the index of its name
abbrev pub names : List Name
names = codes "True" ∷ codes "False" ∷ codes "Nil" ∷ codes "Cons" ∷ codes "Just" ∷ codes "Pair" ∷ codes "Unit" ∷ []

abbrev pub one_part : ValueTree → ValueTrees
one_part value = NextPart value NoPart

abbrev pub two_parts : ValueTree → ValueTree → ValueTrees
two_parts first second = NextPart first (one_part second)

abbrev pub just : ValueTree → ValueTree
just value = BuiltValue 4 (one_part value)

abbrev pub cons : ValueTree → ValueTree → ValueTree
cons first rest = BuiltValue 3 (two_parts first rest)

abbrev pub nil : ValueTree
nil = BuiltValue 2 NoPart

abbrev pub pair : ValueTree → ValueTree → ValueTree
pair first second = BuiltValue 5 (two_parts first second)

abbrev pub unit : ValueTree
unit = BuiltValue 6 NoPart

-- parts of expressions
abbrev number : ℕ → ExprTree
number value = NumberOf start (pos value)

abbrev slot : ℕ → ExprTree
slot index = VariableOf start (AtSlot index)

abbrev bound_at : ℕ → ExprTree
bound_at depth = VariableOf start (AtBound depth)

abbrev operators : ExprTree → Operands → ExprTree
operators first operands = OperatorsOf start first operands

abbrev one : Operator → ExprTree → Operands
one operation right = NextOperand operation right NoOperands

abbrev build : Name → ExprTrees → ExprTree
build name arguments = BuildOf start name arguments

abbrev expr_tree : ExprTree → ExprTrees
expr_tree argument = NextExpr argument NoExpr

abbrev minus : ExprTree → ExprTree
minus operand = Prefixed start prefix.Minus operand

abbrev division : ExprTree
division = operators (number 1) (one operator.Divide (number 0))

-- def Int double(Int n) = n + n;
abbrev pub library : Library
library = record {
  functions = record {
    name = codes "double";
    arity = 1;
    value = operators (slot 0) (one operator.Plus (slot 0));
  } ∷ [];
  names = names;
}

-- the own object is object 9, and the one slot has the number 5
abbrev pub scope : Scope
scope = record { this = Some 9; slots = IntValue (pos 5) ∷ []; fields = []; bound = [] }

-- 1 + 2 * 3 - 4
abbrev pub sum_of_products : ExprTree
sum_of_products = operators (number 1) (NextOperand operator.Plus (operators (number 2) (one operator.Times (number 3)))
    (one operator.Minus (number 4)))

-- -17 / 5
abbrev pub quotient : ExprTree
quotient = operators (minus (number 17)) (one operator.Divide (number 5))

-- the least number
abbrev least : ExprTree
least = operators (minus (number 170141183460469231731687303715884105727)) (one operator.Minus (number 1))

-- the least number % -1, and the same / -1
abbrev pub least_remainder : ExprTree
least_remainder = operators least (one operator.Remainder (minus (number 1)))

abbrev pub overflow : ExprTree
overflow = operators least (one operator.Divide (minus (number 1)))

-- 1 / 0
abbrev pub zero_divisor : ExprTree
zero_divisor = division

-- case 5 { 4 => 1; } + 1 / 0
abbrev pub first_fault : ExprTree
first_fault = operators (CaseOf start (number 5) (NextBranch (SameNumber start (pos 4)) (number 1) NoBranch))
    (one operator.Plus division)

abbrev truth : ExprTree
truth = build (codes "True") NoExpr

abbrev falsehood : ExprTree
falsehood = build (codes "False") NoExpr

-- True && False && 1 / 0
abbrev pub decided : ExprTree
decided = operators truth (NextOperand operator.And falsehood (one operator.And division))

-- False || 1 / 0
abbrev pub undecided : ExprTree
undecided = operators falsehood (one operator.Or division)

-- if 1 then 2 else 3
abbrev pub mistyped_condition : ExprTree
mistyped_condition = IfElse start (number 1) (number 2) (number 3)

-- let (Int x) = 4 in let (Int y) = x * x in y - x
abbrev pub bound : ExprTree
bound = LetIn start (IntType start) start (AtBound 0) (number 4)
    (LetIn start (IntType start) start (AtBound 1) (operators (bound_at 0) (one operator.Times (bound_at 0)))
    (operators (bound_at 1) (one operator.Minus (bound_at 0))))

abbrev pattern : PatternTree → PatternTrees
pattern argument = NextPattern argument NoPattern

-- case Pair(3, Just(4)) { Pair(a, Just(b)) => a * b; _ => 0; }
abbrev pub matched_pair : ExprTree
matched_pair = CaseOf start (build (codes "Pair") (NextExpr (number 3) (expr_tree (build (codes "Just") (expr_tree (number 4))))))
    (NextBranch (Built start (codes "Pair") (NextPattern (Binds start (AtBound 0))
    (pattern (Built start (codes "Just") (pattern (Binds start (AtBound 1)))))))
    (operators (bound_at 0) (one operator.Times (bound_at 1)))
    (NextBranch (AnyValue start) (number 0) NoBranch))

-- case Just(5) { Just(4) => 0; }
abbrev pub no_branch : ExprTree
no_branch = CaseOf start (build (codes "Just") (expr_tree (number 5)))
    (NextBranch (Built start (codes "Just") (pattern (SameNumber start (pos 4)))) (number 0) NoBranch)

-- double(double(x)), where x is the one slot
abbrev pub twice_applied : ExprTree
twice_applied = ApplyOf start (codes "double") (expr_tree (ApplyOf start (codes "double") (expr_tree (slot 0))))

-- double()
abbrev pub wrong_arity : ExprTree
wrong_arity = ApplyOf start (codes "double") NoExpr

-- toString(Just("x"))
abbrev pub string_of_data : ExprTree
string_of_data =
    ApplyOf start (codes "toString") (expr_tree (build (codes "Just") (expr_tree (StringOf start (codes "x")))))

-- if 1 == 1 then 5 else 1 / 0
abbrev pub chosen : ExprTree
chosen = IfElse start (operators (number 1) (one operator.Equal (number 1))) (number 5) division

-- Cons(1, Nil) == Cons(1, Nil)
abbrev list : ExprTree
list = build (codes "Cons") (NextExpr (number 1) (expr_tree (build (codes "Nil") NoExpr)))

abbrev pub equal_lists : ExprTree
equal_lists = operators list (one operator.Equal list)

-- Just(this)
abbrev pub own_object : ExprTree
own_object = build (codes "Just") (expr_tree (ThisOf start))

-- a slot that is not there
abbrev pub unknown_slot : ExprTree
unknown_slot = slot 1
