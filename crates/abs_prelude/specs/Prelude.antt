-- The prelude: what is declared before each source. Its trees are those of its text, with the places that they have
-- there.
--
--   `prelude`              its declarations, in order
--   `prelude_names`        its names and those that are built in, in the order of first appearance
--   `at`                   a place in its text
use Rattle.std.specs.Prelude.{ℕ, pos, ◌+◌, ◌-◌, List, [], ◌∷◌, codes, get_or}
use Rattle.abs_tree.specs.Syntax.{Name, Unresolved, TypeTree, UnresolvedType, TypeTrees, NoType, NextType, PatternTree, Binds, Built, NoPattern, NextPattern, ExprTree, IfElse, OperatorsOf, NumberOf, VariableOf, ApplyOf, BuildOf, CaseOf, NoExpr, NextExpr, NoOperands, NextOperand, NoBranch, NextBranch, ParamTree, DeclaredTree, ConstructorTree, DeclTree, DataTree, FunctionTree}
use Rattle.abs_tree.specs.declared.place.Place.{Place}
use Rattle.abs_tree.specs.declared.syntax.expression.Operator.TheVariants as operator

-- where the lines of the text begin
abbrev line_starts : List ℕ
line_starts = 0 ∷ 18 ∷ 44 ∷ 83 ∷ 118 ∷ 148 ∷ 204 ∷ 266 ∷ 345 ∷ 427 ∷ 509 ∷ 614 ∷ 675 ∷ 736 ∷ []

-- the place of a line and a column, both from 1
abbrev pub at : ℕ → ℕ → Place
at line column = record { offset = get_or line_starts (line - 1) 0 + (column - 1); line = line; column = column }

-- the parts of a declaration, at a line and a column
abbrev pub declared : ℕ → ℕ → Name → DeclaredTree
declared line column name = record { place = at line column; name = name }

abbrev pub type : ℕ → ℕ → Name → TypeTree
type line column name = UnresolvedType (at line column) name NoType

abbrev pub applied : ℕ → ℕ → Name → TypeTrees → TypeTree
applied line column name arguments = UnresolvedType (at line column) name arguments

abbrev pub constructor : DeclaredTree → TypeTrees → ConstructorTree
constructor name types = record { name = name; types = types }

abbrev pub param : TypeTree → ℕ → ℕ → Name → ParamTree
param type line column name = record { type_of = type; place = at line column; variable = Unresolved name }

abbrev pub variable : ℕ → ℕ → Name → ExprTree
variable line column name = VariableOf (at line column) (Unresolved name)

abbrev pub binds : ℕ → ℕ → Name → PatternTree
binds line column name = Binds (at line column) (Unresolved name)

-- data Unit = Unit;
abbrev pub unit_data : DeclTree
unit_data =
    DataTree (at 1 1) (declared 1 6 (codes "Unit")) [] (constructor (declared 1 13 (codes "Unit")) NoType ∷ [])

-- data Bool = True | False;
abbrev pub bool_data : DeclTree
bool_data =
    DataTree (at 2 1) (declared 2 6 (codes "Bool")) [] (constructor (declared 2 13 (codes "True")) NoType ∷ constructor
    (declared 2 20 (codes "False")) NoType ∷ [])

-- data List<A> = Nil | Cons(A, List<A>);
abbrev pub list_data : DeclTree
list_data =
    DataTree (at 3 1) (declared 3 6 (codes "List")) ((declared 3 11 (codes "A")) ∷ []) (constructor (declared 3 16
    (codes "Nil")) NoType ∷ constructor (declared 3 22 (codes "Cons")) (NextType (type 3 27 (codes "A"))
    (NextType (applied 3 30 (codes "List") (NextType (type 3 35 (codes "A")) NoType)) NoType)) ∷ [])

-- data Maybe<A> = Nothing | Just(A);
abbrev pub maybe_data : DeclTree
maybe_data =
    DataTree (at 4 1) (declared 4 6 (codes "Maybe")) ((declared 4 12 (codes "A")) ∷ []) (constructor (declared 4 17
    (codes "Nothing")) NoType ∷ constructor (declared 4 27 (codes "Just")) (NextType (type 4 32 (codes "A")) NoType)
    ∷ [])

-- data Pair<A, B> = Pair(A, B);
abbrev pub pair_data : DeclTree
pair_data =
    DataTree (at 5 1) (declared 5 6 (codes "Pair")) ((declared 5 11 (codes "A")) ∷ (declared 5 14 (codes "B")) ∷ [])
    (constructor (declared 5 19 (codes "Pair")) (NextType (type 5 24 (codes "A")) (NextType (type 5 27 (codes "B")) NoType))
    ∷ [])

-- def A head<A>(List<A> l) = case l { Cons(x, r) => x; };
abbrev pub head_function : DeclTree
head_function =
    FunctionTree (at 6 1) (type 6 5 (codes "A")) (declared 6 7 (codes "head")) ((declared 6 12 (codes "A")) ∷ [])
    (param (applied 6 15 (codes "List") (NextType (type 6 20 (codes "A")) NoType)) 6 23 (codes "l") ∷ [])
    (CaseOf (at 6 28) (variable 6 33 (codes "l")) (NextBranch (Built (at 6 37) (codes "Cons") (NextPattern
    (binds 6 42 (codes "x")) (NextPattern (binds 6 45 (codes "r")) NoPattern))) (variable 6 51 (codes "x")) NoBranch))

-- def List<A> tail<A>(List<A> l) = case l { Cons(x, r) => r; };
abbrev pub tail_function : DeclTree
tail_function =
    FunctionTree (at 7 1) (applied 7 5 (codes "List") (NextType (type 7 10 (codes "A")) NoType)) (declared 7 13
    (codes "tail")) ((declared 7 18 (codes "A")) ∷ []) (param (applied 7 21 (codes "List") (NextType (type 7 26
    (codes "A")) NoType)) 7 29 (codes "l") ∷ []) (CaseOf (at 7 34) (variable 7 39 (codes "l")) (NextBranch
    (Built (at 7 43) (codes "Cons") (NextPattern (binds 7 48 (codes "x")) (NextPattern (binds 7 51 (codes "r")) NoPattern)))
    (variable 7 57 (codes "r")) NoBranch))

-- def Bool isEmpty<A>(List<A> l) = case l { Nil => True; Cons(x, r) => False; };
abbrev pub is_empty_function : DeclTree
is_empty_function =
    FunctionTree (at 8 1) (type 8 5 (codes "Bool")) (declared 8 10 (codes "isEmpty")) ((declared 8 18 (codes "A")) ∷ [])
    (param (applied 8 21 (codes "List") (NextType (type 8 26 (codes "A")) NoType)) 8 29 (codes "l") ∷ [])
    (CaseOf (at 8 34) (variable 8 39 (codes "l")) (NextBranch (Built (at 8 43) (codes "Nil") NoPattern) (BuildOf
    (at 8 50) (codes "True") NoExpr) (NextBranch (Built (at 8 56) (codes "Cons") (NextPattern (binds 8 61
    (codes "x")) (NextPattern (binds 8 64 (codes "r")) NoPattern))) (BuildOf (at 8 70) (codes "False") NoExpr) NoBranch)))

-- def Int length<A>(List<A> l) = case l { Nil => 0; Cons(x, r) => 1 + length(r); };
abbrev pub length_function : DeclTree
length_function =
    FunctionTree (at 9 1) (type 9 5 (codes "Int")) (declared 9 9 (codes "length")) ((declared 9 16 (codes "A")) ∷ [])
    (param (applied 9 19 (codes "List") (NextType (type 9 24 (codes "A")) NoType)) 9 27 (codes "l") ∷ [])
    (CaseOf (at 9 32) (variable 9 37 (codes "l")) (NextBranch (Built (at 9 41) (codes "Nil") NoPattern)
    (NumberOf (at 9 48) (pos 0)) (NextBranch (Built (at 9 51) (codes "Cons") (NextPattern (binds 9 56 (codes "x"))
    (NextPattern (binds 9 59 (codes "r")) NoPattern))) (OperatorsOf (at 9 65) (NumberOf (at 9 65) (pos 1))
    (NextOperand operator.Plus (ApplyOf (at 9 69) (codes "length") (NextExpr (variable 9 76 (codes "r")) NoExpr)) NoOperands)) NoBranch)))

-- def A nth<A>(List<A> l, Int n) = if n == 0 then head(l) else nth(tail(l), n - 1);
abbrev pub nth_function : DeclTree
nth_function =
    FunctionTree (at 10 1) (type 10 5 (codes "A")) (declared 10 7 (codes "nth")) ((declared 10 11 (codes "A")) ∷ [])
    (param (applied 10 14 (codes "List") (NextType (type 10 19 (codes "A")) NoType)) 10 22 (codes "l") ∷ param
    (type 10 25 (codes "Int")) 10 29 (codes "n") ∷ []) (IfElse (at 10 34) (OperatorsOf (at 10 37) (variable 10 37
    (codes "n")) (NextOperand operator.Equal (NumberOf (at 10 42) (pos 0)) NoOperands)) (ApplyOf (at 10 49) (codes "head")
    (NextExpr (variable 10 54 (codes "l")) NoExpr)) (ApplyOf (at 10 62) (codes "nth") (NextExpr (ApplyOf
    (at 10 66) (codes "tail") (NextExpr (variable 10 71 (codes "l")) NoExpr)) (NextExpr (OperatorsOf (at 10 75)
    (variable 10 75 (codes "n")) (NextOperand operator.Minus (NumberOf (at 10 79) (pos 1)) NoOperands)) NoExpr))))

-- def List<A> append<A>(List<A> l, List<A> m) = case l { Nil => m; Cons(x, r) => Cons(x, append(r, m)); };
abbrev pub append_function : DeclTree
append_function =
    FunctionTree (at 11 1) (applied 11 5 (codes "List") (NextType (type 11 10 (codes "A")) NoType)) (declared 11 13
    (codes "append")) ((declared 11 20 (codes "A")) ∷ []) (param (applied 11 23 (codes "List") (NextType (type 11 28
    (codes "A")) NoType)) 11 31 (codes "l") ∷ param (applied 11 34 (codes "List") (NextType (type 11 39 (codes "A")) NoType)) 11 42
    (codes "m") ∷ []) (CaseOf (at 11 47) (variable 11 52 (codes "l")) (NextBranch (Built (at 11 56) (codes "Nil") NoPattern)
    (variable 11 63 (codes "m")) (NextBranch (Built (at 11 66) (codes "Cons") (NextPattern (binds 11 71 (codes "x"))
    (NextPattern (binds 11 74 (codes "r")) NoPattern))) (BuildOf (at 11 80) (codes "Cons") (NextExpr (variable 11 85
    (codes "x")) (NextExpr (ApplyOf (at 11 88) (codes "append") (NextExpr (variable 11 95 (codes "r"))
    (NextExpr (variable 11 98 (codes "m")) NoExpr))) NoExpr))) NoBranch)))

-- def A fst<A, B>(Pair<A, B> p) = case p { Pair(a, b) => a; };
abbrev pub fst_function : DeclTree
fst_function =
    FunctionTree (at 12 1) (type 12 5 (codes "A")) (declared 12 7 (codes "fst")) ((declared 12 11 (codes "A")) ∷
    (declared 12 14 (codes "B")) ∷ []) (param (applied 12 17 (codes "Pair") (NextType (type 12 22 (codes "A"))
    (NextType (type 12 25 (codes "B")) NoType))) 12 28 (codes "p") ∷ []) (CaseOf (at 12 33) (variable 12 38
    (codes "p")) (NextBranch (Built (at 12 42) (codes "Pair") (NextPattern (binds 12 47 (codes "a"))
    (NextPattern (binds 12 50 (codes "b")) NoPattern))) (variable 12 56 (codes "a")) NoBranch))

-- def B snd<A, B>(Pair<A, B> p) = case p { Pair(a, b) => b; };
abbrev pub snd_function : DeclTree
snd_function =
    FunctionTree (at 13 1) (type 13 5 (codes "B")) (declared 13 7 (codes "snd")) ((declared 13 11 (codes "A")) ∷
    (declared 13 14 (codes "B")) ∷ []) (param (applied 13 17 (codes "Pair") (NextType (type 13 22 (codes "A"))
    (NextType (type 13 25 (codes "B")) NoType))) 13 28 (codes "p") ∷ []) (CaseOf (at 13 33) (variable 13 38
    (codes "p")) (NextBranch (Built (at 13 42) (codes "Pair") (NextPattern (binds 13 47 (codes "a"))
    (NextPattern (binds 13 50 (codes "b")) NoPattern))) (variable 13 56 (codes "b")) NoBranch))

-- def A fromJust<A>(Maybe<A> m) = case m { Just(x) => x; };
abbrev pub from_just_function : DeclTree
from_just_function =
    FunctionTree (at 14 1) (type 14 5 (codes "A")) (declared 14 7 (codes "fromJust")) ((declared 14 16 (codes "A"))
    ∷ []) (param (applied 14 19 (codes "Maybe") (NextType (type 14 25 (codes "A")) NoType)) 14 28 (codes "m") ∷ [])
    (CaseOf (at 14 33) (variable 14 38 (codes "m")) (NextBranch (Built (at 14 42) (codes "Just") (NextPattern
    (binds 14 47 (codes "x")) NoPattern)) (variable 14 53 (codes "x")) NoBranch))

-- the declarations, in order
unfoldable pub prelude : List DeclTree
prelude =
    unit_data ∷ bool_data ∷ list_data ∷ maybe_data ∷ pair_data ∷ head_function ∷ tail_function ∷ is_empty_function ∷ length_function
    ∷ nth_function ∷ append_function ∷ fst_function ∷ snd_function ∷ from_just_function ∷ []

-- the names of the text, then those of the built-in function and of futures, each once
unfoldable pub prelude_names : List Name
prelude_names =
    codes "Unit" ∷ codes "Bool" ∷ codes "True" ∷ codes "False" ∷ codes "List" ∷ codes "A" ∷ codes "Nil" ∷ codes "Cons"
    ∷ codes "Maybe" ∷ codes "Nothing" ∷ codes "Just" ∷ codes "Pair" ∷ codes "B" ∷ codes "head" ∷ codes "l" ∷ codes "x"
    ∷ codes "r" ∷ codes "tail" ∷ codes "isEmpty" ∷ codes "Int" ∷ codes "length" ∷ codes "nth" ∷ codes "n" ∷ codes "append"
    ∷ codes "m" ∷ codes "fst" ∷ codes "p" ∷ codes "a" ∷ codes "b" ∷ codes "snd" ∷ codes "fromJust" ∷ codes "String"
    ∷ codes "toString" ∷ codes "Fut" ∷ []
