-- Expressions of which the tests say what type they have, and statements of which they say where they offend. Each part
-- of an expression is at the start of a source; statements and their right sides have places of their own.
--
--   `maybe`                    a data type: `data Maybe<A> = Nothing | Just(A);`
--   `worker`, `job_worker`     a class: `class Worker { Int work(Int days) { return days; } }`, also with `implements
--                              Job`
--   `job`, `task`              interfaces with a method `work` of this result type: `Job`, and `Task` that extends it
--   `function_frame`           what is around the value of a function without parameters
--   `worker_frame`             what is around the body of `work`
--   `sum`, `comparison`, ..    the expressions
--   `at`                       the place of the byte with this index, in a source of one line
--   `inner_return`, ..         the statements
--   `work`, `program`          a signature, and a program with these declarations
use Rattle.std.specs.Prelude.{ℕ, ◌+◌, pos, List, [], ◌∷◌, codes, Some, None}
use Rattle.abs_tree.specs.Places.{start}
use Rattle.abs_tree.specs.Syntax.{Name, AtSlot, AtBound, TypeTree, IntType, FutType, ParameterType, NoType, NextType, Binds, Built, NoPattern, NextPattern, ExprTree, LetIn, IfElse, OperatorsOf, Prefixed, NumberOf, StringOf, NullOf, DestinyOf, ThisOf, VariableOf, ApplyOf, BuildOf, CaseOf, NoExpr, NextExpr, NoOperands, NextOperand, NoBranch, NextBranch, DeclaredTree, SendOf, NoSide, BlockOf, SkipOf, ReturnOf, DeclareOf, DoOf, Statements, NoStatement, NextStatement, SignatureTree, MemberTree, MethodTree, DeclTree, DataTree, InterfaceTree, ClassTree, SourceTree}
use Rattle.abs_tree.specs.declared.place.Place.{Place}
use Rattle.abs_tree.specs.declared.syntax.expression.Operator.TheVariants as operator
use Rattle.abs_tree.specs.declared.syntax.expression.Prefix.TheVariants as prefix
use Rattle.abs_types.specs.PlainTypes.{PlainType, PlainInt, PlainData, PlainApplied}
use Rattle.abs_types.specs.Typing.{Frame}

abbrev declared : Name → DeclaredTree
declared name = record { place = start; name = name }

-- data Maybe<A> = Nothing | Just(A);
abbrev pub maybe : DeclTree
maybe = DataTree start (declared (codes "Maybe")) (declared (codes "A") ∷ [])
    (record { name = declared (codes "Nothing"); types = NoType }
    ∷ record { name = declared (codes "Just"); types = NextType (ParameterType start 0) NoType } ∷ [])

-- R work(Int days), where R is a type
abbrev pub work : TypeTree → SignatureTree
work result = record {
  result = result;
  name = declared (codes "work");
  params = record { type_of = IntType start; place = start; variable = AtSlot 0 } ∷ [];
}

-- { Int work(Int days) { return days; } }
abbrev members : List MemberTree
members = MethodTree (work (IntType start)) start
    (NextStatement (ReturnOf 0 start (VariableOf start (AtSlot 0))) NoStatement) ∷ []

-- class Worker { Int work(Int days) { return days; } }
abbrev pub worker : DeclTree
worker = ClassTree start (declared (codes "Worker")) [] [] members

-- class Worker implements Job { Int work(Int days) { return days; } }
abbrev pub job_worker : DeclTree
job_worker = ClassTree start (declared (codes "Worker")) [] (declared (codes "Job") ∷ []) members

-- interface Job { R work(Int days); }
abbrev pub job : TypeTree → DeclTree
job result = InterfaceTree start (declared (codes "Job")) [] (work result ∷ [])

-- interface Task extends Job { R work(Int days); }
abbrev pub task : TypeTree → DeclTree
task result = InterfaceTree start (declared (codes "Task")) (declared (codes "Job") ∷ []) (work result ∷ [])

abbrev pub function_frame : Frame
function_frame = record { slots = []; fields = []; this = None; task = None }

abbrev pub worker_frame : Frame
worker_frame = record {
  slots = Some PlainInt ∷ [];
  fields = [];
  this = Some (codes "Worker");
  task = Some PlainInt;
}

abbrev one : ExprTree
one = NumberOf start (pos 1)

-- 1 + 1 * 1
abbrev pub sum : ExprTree
sum = OperatorsOf start one
    (NextOperand operator.Plus (OperatorsOf start one (NextOperand operator.Times one NoOperands)) NoOperands)

-- "a" == "b"
abbrev pub comparison : ExprTree
comparison = OperatorsOf start (StringOf start (codes "a"))
    (NextOperand operator.Equal (StringOf start (codes "b")) NoOperands)

-- !(1 < 1)
abbrev pub negation : ExprTree
negation = Prefixed start prefix.Not (OperatorsOf start one (NextOperand operator.Less one NoOperands))

-- let (Int x) = 1 in x
abbrev pub local_value : ExprTree
local_value = LetIn start (IntType start) start (AtBound 0) one (VariableOf start (AtBound 0))

-- if "a" == "b" then null else destiny
abbrev pub choice : ExprTree
choice = IfElse start comparison (NullOf start) (DestinyOf start)

-- Just(1)
abbrev pub just : ExprTree
just = BuildOf start (codes "Just") (NextExpr one NoExpr)

-- Nothing
abbrev pub nothing : ExprTree
nothing = BuildOf start (codes "Nothing") NoExpr

-- case Just(1) { Just(y) => y; Nothing => 1; }
abbrev pub match_just : ExprTree
match_just = CaseOf start just
    (NextBranch (Built start (codes "Just") (NextPattern (Binds start (AtBound 0)) NoPattern))
    (VariableOf start (AtBound 0)) (NextBranch (Built start (codes "Nothing") NoPattern) one NoBranch))

-- toString(this)
abbrev pub own_text : ExprTree
own_text = ApplyOf start (codes "toString") (NextExpr (ThisOf start) NoExpr)

-- 1 + "a"
abbrev pub wrong_sum : ExprTree
wrong_sum = OperatorsOf start one (NextOperand operator.Plus (StringOf start (codes "a")) NoOperands)

-- case 1 { Just(y) => y; }
abbrev pub wrong_pattern : ExprTree
wrong_pattern = CaseOf start one
    (NextBranch (Built start (codes "Just") (NextPattern (Binds start (AtBound 0)) NoPattern))
    (VariableOf start (AtBound 0)) NoBranch)

-- Maybe of a type
abbrev pub maybe_of : PlainType → PlainType
maybe_of type = PlainApplied (PlainData (codes "Maybe")) type

-- the place of the byte with this index, in a source of one line
abbrev pub at : ℕ → Place
at offset = record { offset = offset; line = 1; column = offset + 1 }

-- { return 1; } { }
abbrev pub inner_return : Statements
inner_return = NextStatement (BlockOf (at 0) (NextStatement (ReturnOf 0 (at 2) one) NoStatement))
    (NextStatement (BlockOf (at 14) NoStatement) NoStatement)

-- return 1; skip;
abbrev pub early_return : Statements
early_return = NextStatement (ReturnOf 0 (at 0) one) (NextStatement (SkipOf 1 (at 10)) NoStatement)

-- Int x; Fut<Int> f;
abbrev pub without_values : Statements
without_values = NextStatement (DeclareOf 0 (at 0) (IntType (at 0)) (at 4) (AtSlot 0) NoSide)
    (NextStatement (DeclareOf 1 (at 7) (FutType (at 7) (IntType (at 11))) (at 16) (AtSlot 1) NoSide) NoStatement)

-- this!rest(1); this!work("a");
abbrev pub wrong_calls : Statements
wrong_calls = NextStatement (DoOf 0 (at 0) (SendOf (at 0) (codes "rest")
    (NextExpr (ThisOf (at 0)) (NextExpr (NumberOf (at 10) (pos 1)) NoExpr))))
    (NextStatement (DoOf 1 (at 14) (SendOf (at 14) (codes "work")
    (NextExpr (ThisOf (at 14)) (NextExpr (StringOf (at 24) (codes "a")) NoExpr)))) NoStatement)

-- these declarations with an empty main block
abbrev pub program : List DeclTree → SourceTree
program declarations = record { declarations = declarations; main = NoStatement; end = start }
