-- The parts of the code and their trees: what is taken of the trees are the trees of what is taken.
use Rattle.std.proofs.Common.{◌≡◌, ℕ, ◌+◌, ◌-◌, ◌<◌, List, [], ◌∷◌, ◌++◌, Option, Some, None, refl, sym, ap, ◌∙◌, length, map, take, drop, get_or, unwrap_or, arith}
use Rattle.std.specs.Prelude.{option_to_list}
use Rattle.std.proofs.Math.ListN as list
use Rattle.std.proofs.lemmas.List.{length-append, length-map, map-append, take-map, drop-map}
use Rattle.std.specs.declared.alloc.Global.{Global}
use Rattle.std.specs.declared.boxed.Box.{Box}
use Rattle.std.specs.declared.vec.Vec.{Vec}
use Rattle.abs_tree.proofs.SyntaxLemmas.{type_tree-unresolved, pattern_tree-built, expr_tree-apply, expr_tree-build, expr_tree-operators, expr_tree-case}
use Rattle.abs_tree.specs.Names.{name_of}
use Rattle.abs_tree.specs.SyntaxViews.{type_tree, type_trees, pattern_tree, pattern_trees, expr_tree, expr_trees, operand_trees, branches}
use Rattle.abs_tree.specs.declared.place.Place.{Place}
use Rattle.abs_tree.specs.declared.symbol.Symbol.{Symbol}
use Rattle.abs_tree.specs.declared.syntax.types.TypeTerm as code_type
use Rattle.abs_tree.specs.declared.syntax.pattern.Pattern as code_pattern
use Rattle.abs_tree.specs.declared.syntax.expression.Expr as code_expr
use Rattle.abs_tree.specs.declared.syntax.expression.Operand.{Operand}
use Rattle.abs_tree.specs.declared.syntax.expression.Operator.{Operator}
use Rattle.abs_tree.specs.declared.syntax.types.TypeTerm.{TypeTerm}
use Rattle.abs_tree.specs.declared.syntax.pattern.Pattern.{Pattern}
use Rattle.abs_tree.specs.declared.syntax.expression.Expr.{Expr}
use Rattle.abs_tree.specs.declared.syntax.expression.Branch.{Branch}
use Rattle.abs_tree.specs.Syntax.{UnresolvedType, TypeTree, TypeTrees, NextType, PatternTree, PatternTrees, Built, NextPattern, ExprTree, ExprTrees, IfElse, OperatorsOf, ApplyOf, BuildOf, CaseOf, NextExpr, NoOperands, NextOperand, Branches, NextBranch, ParamTree, DeclaredTree, ConstructorTree, DeclTree, FunctionTree}
use Rattle.abs_prelude.specs.Codes.{Parts, BranchTree, left, last, final, types_of, patterns_of, expr_trees_of, branches_of}
use Rattle.abs_prelude.specs.PartViews.{branch_tree}

-- what is taken of the trees, and what is left of them
pub left-map : {A B : Type 0} (f : A → B) (count : ℕ) (parts : List A)
    → left count (map f parts) ≡ map f (left count parts)
unfolding left
left-map f count parts =
    ap (λ (size : ℕ). take (size - count) (map f parts)) (length-map parts f)
    ∙ take-map f (length parts - count) parts

pub last-map : {A B : Type 0} (f : A → B) (count : ℕ) (parts : List A)
    → last count (map f parts) ≡ map f (last count parts)
unfolding last
last-map f count parts =
    ap (λ (size : ℕ). drop (size - count) (map f parts)) (length-map parts f)
    ∙ drop-map f (length parts - count) parts

pub final-map : {A B : Type 0} (f : A → B) (missing : A) (parts : List A)
    → final (f missing) (map f parts) ≡ f (final missing parts)
unfolding final
final-map f missing parts =
    ap (λ (size : ℕ). get_or (map f parts) (size - 1) (f missing)) (length-map parts f)
    ∙ list.get_or-map f parts (length parts - 1) missing

-- a list of trees as the parts of a tree
pub types_of-map : (names : List (List ℕ)) (types : List TypeTerm)
    → types_of (map (type_tree names) types) ≡ type_trees names types
types_of-map names [] = refl
types_of-map names (type ∷ others) = ap (NextType (type_tree names type)) (types_of-map names others)

pub patterns_of-map : (names : List (List ℕ)) (patterns : List Pattern)
    → patterns_of (map (pattern_tree names) patterns) ≡ pattern_trees names patterns
patterns_of-map names [] = refl
patterns_of-map names (pattern ∷ others) = ap (NextPattern (pattern_tree names pattern)) (patterns_of-map names others)

pub expr_trees_of-map : (names : List (List ℕ)) (expressions : List Expr)
    → expr_trees_of (map (expr_tree names) expressions) ≡ expr_trees names expressions
expr_trees_of-map names [] = refl
expr_trees_of-map names (expression ∷ others) = ap (NextExpr (expr_tree names expression)) (expr_trees_of-map names others)

pub branches_of-map : (names : List (List ℕ)) (cases : List Branch)
    → branches_of (map (branch_tree names) cases) ≡ branches names cases
branches_of-map names [] = refl
branches_of-map names (one ∷ others) =
    ap (NextBranch (branch_tree names one).pattern (branch_tree names one).value) (branches_of-map names others)

-- a function of two equal arguments
pub both : {A B C : Type 0} (f : A → B → C) {a b : A} {c d : B} → a ≡ b → c ≡ d → f a c ≡ f b d
both f {a} {b} {c} {d} one other = ap (λ x. f x c) one ∙ ap (f b) other

-- the part that a list gives from its end
pub popped_part : {A : Type 0} (parts rest : List A) (popped : Option A) (missing : A) (size : ℕ) → size ≡ length parts
    → (0 < size → popped ≡ Some (get_or parts (size - 1) missing)) → parts ≡ rest ++ option_to_list popped
    → unwrap_or popped missing ≡ final missing parts
unfolding final
popped_part [] rest None missing size is value shape = refl
popped_part (part ∷ parts) rest None missing size is value shape =
    let there : 0 < size = omega (arith, is) in
    let some = value there in
    cc
popped_part {A} parts rest (Some part) missing size is value shape =
    let longer = ap (λ (list : List A). length list) shape in
    let there : 0 < size = omega (arith, is, longer, length-append rest (part ∷ [])) in
    let same = value there in
    let found : part ≡ get_or parts (size - 1) missing = cc in
    found ∙ ap (λ (count : ℕ). get_or parts (count - 1) missing) is

-- the trees after one more part
pub map-one_more : {A B : Type 0} (f : A → B) (parts more : List A) (part : A) (tree : B) → more ≡ parts ++ part ∷ []
    → f part ≡ tree → map f more ≡ map f parts ++ tree ∷ []
map-one_more {A} {B} f parts more part tree is one =
    ap (map f) is ∙ (map-append f parts (part ∷ []) ∙ ap (λ (end : B). map f parts ++ end ∷ []) one)

-- the trees of what is left, and the tree of what is taken
pub map-left : {A B : Type 0} (f : A → B) (count : ℕ) (parts rest : List A) → rest ≡ left count parts
    → map f rest ≡ left count (map f parts)
map-left f count parts rest is = ap (map f) is ∙ sym (left-map f count parts)

pub tree-final : {A B : Type 0} (f : A → B) (missing : A) (parts : List A) (part : A) → part ≡ final missing parts
    → f part ≡ final (f missing) (map f parts)
tree-final f missing parts part is = ap f is ∙ sym (final-map f missing parts)

-- the trees after a part that takes others of its sort
pub map-remade : {A B : Type 0} (f : A → B) (count : ℕ) (parts rest more : List A) (part : A) (tree : B)
    → rest ≡ left count parts → more ≡ rest ++ part ∷ [] → f part ≡ tree
    → map f more ≡ left count (map f parts) ++ tree ∷ []
map-remade {A} {B} f count parts rest more part tree was is one =
    map-one_more f rest more part tree is one
    ∙ ap (λ (before : List B). before ++ tree ∷ []) (map-left f count parts rest was)

-- the tree of a part that consists of several others
pub types_taken : (names : List (List ℕ)) (count : ℕ) (parts taken : List TypeTerm) → taken ≡ last count parts
    → type_trees names taken ≡ types_of (last count (map (type_tree names) parts))
types_taken names count parts taken is =
    ap (type_trees names) is
    ∙ (sym (types_of-map names (last count parts)) ∙ ap types_of (sym (last-map (type_tree names) count parts)))

pub patterns_taken : (names : List (List ℕ)) (count : ℕ) (parts taken : List Pattern) → taken ≡ last count parts
    → pattern_trees names taken ≡ patterns_of (last count (map (pattern_tree names) parts))
patterns_taken names count parts taken is =
    ap (pattern_trees names) is
    ∙ (sym (patterns_of-map names (last count parts)) ∙ ap patterns_of (sym (last-map (pattern_tree names) count parts)))

pub exprs_taken : (names : List (List ℕ)) (count : ℕ) (parts taken : List Expr) → taken ≡ last count parts
    → expr_trees names taken ≡ expr_trees_of (last count (map (expr_tree names) parts))
exprs_taken names count parts taken is =
    ap (expr_trees names) is
    ∙ (sym (expr_trees_of-map names (last count parts)) ∙ ap expr_trees_of (sym (last-map (expr_tree names) count parts)))

pub branches_taken : (names : List (List ℕ)) (count : ℕ) (parts taken : List Branch) → taken ≡ last count parts
    → branches names taken ≡ branches_of (last count (map (branch_tree names) parts))
branches_taken names count parts taken is =
    ap (branches names) is
    ∙ (sym (branches_of-map names (last count parts)) ∙ ap branches_of (sym (last-map (branch_tree names) count parts)))

pub type_made : (names : List (List ℕ)) (place : Place) (symbol : Symbol) (taken : Vec TypeTerm Global) (count : ℕ)
    (parts : List TypeTerm) → taken.items ≡ last count parts
    → type_tree names (code_type.Unresolved place symbol taken)
    ≡ UnresolvedType place (name_of names symbol) (types_of (last count (map (type_tree names) parts)))
type_made names place symbol taken count parts is =
    type_tree-unresolved names place symbol taken
    ∙ ap (UnresolvedType place (name_of names symbol)) (types_taken names count parts taken.items is)

pub pattern_made : (names : List (List ℕ)) (place : Place) (symbol : Symbol) (taken : Vec Pattern Global) (count : ℕ)
    (parts : List Pattern) → taken.items ≡ last count parts
    → pattern_tree names (code_pattern.Built place symbol taken)
    ≡ Built place (name_of names symbol) (patterns_of (last count (map (pattern_tree names) parts)))
pattern_made names place symbol taken count parts is =
    pattern_tree-built names place symbol taken
    ∙ ap (Built place (name_of names symbol)) (patterns_taken names count parts taken.items is)

pub apply_made : (names : List (List ℕ)) (place : Place) (symbol : Symbol) (taken : Vec Expr Global) (count : ℕ)
    (parts : List Expr) → taken.items ≡ last count parts
    → expr_tree names (code_expr.Apply place symbol taken)
    ≡ ApplyOf place (name_of names symbol) (expr_trees_of (last count (map (expr_tree names) parts)))
apply_made names place symbol taken count parts is =
    expr_tree-apply names place symbol taken
    ∙ ap (ApplyOf place (name_of names symbol)) (exprs_taken names count parts taken.items is)

pub build_made : (names : List (List ℕ)) (place : Place) (symbol : Symbol) (taken : Vec Expr Global) (count : ℕ)
    (parts : List Expr) → taken.items ≡ last count parts
    → expr_tree names (code_expr.Build place symbol taken)
    ≡ BuildOf place (name_of names symbol) (expr_trees_of (last count (map (expr_tree names) parts)))
build_made names place symbol taken count parts is =
    expr_tree-build names place symbol taken
    ∙ ap (BuildOf place (name_of names symbol)) (exprs_taken names count parts taken.items is)

pub operators_made : (names : List (List ℕ)) (place : Place) (operator : Operator) (first : Box Expr Global)
    (operands : Vec Operand Global) (right : Expr) (one other : ExprTree)
    → operands.items ≡ record { operator = operator; right = right } ∷ [] → expr_tree names first.value ≡ one
    → expr_tree names right ≡ other
    → expr_tree names (code_expr.Operators place first operands)
    ≡ OperatorsOf place one (NextOperand operator other NoOperands)
operators_made names place operator first operands right one other is one_is other_is =
    expr_tree-operators names place first operands
    ∙ (ap (λ (list : List Operand). OperatorsOf place (expr_tree names first.value) (operand_trees names list)) is
    ∙ both (λ (left_tree right_tree : ExprTree). OperatorsOf place left_tree (NextOperand operator right_tree NoOperands))
    one_is other_is)

pub if_made : (names : List (List ℕ)) (place : Place) (condition first second : Box Expr Global) (one two three : ExprTree)
    → expr_tree names condition.value ≡ one → expr_tree names first.value ≡ two → expr_tree names second.value ≡ three
    → expr_tree names (code_expr.If place condition first second) ≡ IfElse place one two three
if_made names place condition first second one two three one_is two_is three_is =
    both (λ (a b : ExprTree). IfElse place a b (expr_tree names second.value)) one_is two_is
    ∙ ap (IfElse place one two) three_is

pub case_made : (names : List (List ℕ)) (place : Place) (subject : Box Expr Global) (taken : Vec Branch Global)
    (count : ℕ) (parts : List Branch) (one : ExprTree) → expr_tree names subject.value ≡ one → taken.items ≡ last count parts
    → expr_tree names (code_expr.Case place subject taken)
    ≡ CaseOf place one (branches_of (last count (map (branch_tree names) parts)))
case_made names place subject taken count parts one one_is is =
    expr_tree-case names place subject taken
    ∙ both (λ (tree : ExprTree) (list : Branches). CaseOf place tree list) one_is
    (branches_taken names count parts taken.items is)

-- parts are equal if those of each sort are
abbrev all_parts : List TypeTree → List DeclaredTree → List ConstructorTree → List ParamTree → List PatternTree
    → List ExprTree → List BranchTree → List DeclTree → Parts
all_parts types type_params constructors params patterns expressions branches declarations = record {
  types = types;
  type_params = type_params;
  constructors = constructors;
  params = params;
  patterns = patterns;
  expressions = expressions;
  branches = branches;
  declarations = declarations;
}

pub equal_parts : (one other : Parts) → one.types ≡ other.types → one.type_params ≡ other.type_params
    → one.constructors ≡ other.constructors → one.params ≡ other.params → one.patterns ≡ other.patterns
    → one.expressions ≡ other.expressions → one.branches ≡ other.branches → one.declarations ≡ other.declarations
    → one ≡ other
equal_parts one other types type_params constructors params patterns expressions branches declarations =
    both (λ (a : List TypeTree) (b : List DeclaredTree).
    all_parts a b one.constructors one.params one.patterns one.expressions one.branches one.declarations) types
    type_params
    ∙ (both (λ (a : List ConstructorTree) (b : List ParamTree).
    all_parts other.types other.type_params a b one.patterns one.expressions one.branches one.declarations) constructors
    params
    ∙ (both (λ (a : List PatternTree) (b : List ExprTree).
    all_parts other.types other.type_params other.constructors other.params a b one.branches one.declarations) patterns
    expressions
    ∙ both (λ (a : List BranchTree) (b : List DeclTree).
    all_parts other.types other.type_params other.constructors other.params other.patterns other.expressions a b)
    branches declarations))

-- a list of parts that gets empty
pub emptied : {A B : Type 0} (f : A → B) (new empty : Vec A Global) → new ≡ empty → empty.items ≡ [] → map f new.items ≡ []
emptied {A} f new empty is none = ap (λ (parts : Vec A Global). map f parts.items) is ∙ ap (map f) none

-- equal functions, of equal parts
pub equal_functions : (place : Place) (name : DeclaredTree) {type other_type : TypeTree}
    {type_params other_type_params : List DeclaredTree} {params other_params : List ParamTree} {value other_value : ExprTree}
    → type ≡ other_type → type_params ≡ other_type_params → params ≡ other_params → value ≡ other_value
    → FunctionTree place type name type_params params value
    ≡ FunctionTree place other_type name other_type_params other_params other_value
equal_functions place name {type} {other_type} {type_params} {other_type_params} {params} {other_params} {value} one two
    three four =
    both (λ (a : TypeTree) (b : List DeclaredTree). FunctionTree place a name b params value) one two
    ∙ both (λ (a : List ParamTree) (b : ExprTree). FunctionTree place other_type name other_type_params a b) three four
