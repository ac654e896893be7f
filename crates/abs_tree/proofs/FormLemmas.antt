-- Types, patterns and expressions that hold others: the tree of one from the parts that a match finds in memory.
use Rattle.std.proofs.Common.{List, ◌≡◌, ap, ◌∙◌, sym, length, refl, ◌∷◌, arith, []}
use Rattle.abs_tree.specs.Syntax.{Name, UnresolvedType, DataType, Built, OperatorsOf, CaseOf, OwnCallOf, ApplyOf, BuildOf}
use Rattle.abs_tree.specs.declared.syntax.types.TypeTerm.{TypeTerm}
use Rattle.abs_tree.specs.declared.place.Place.{Place}
use Rattle.abs_tree.specs.declared.symbol.Symbol.{Symbol}
use Rattle.std.specs.declared.vec.Vec.{Vec}
use Rattle.std.specs.declared.alloc.Global.{Global}
use Rattle.abs_tree.specs.SyntaxViews.{type_tree, type_trees, pattern_trees, pattern_tree, expr_tree, operand_trees, branches, expr_trees}
use Rattle.abs_tree.specs.Names.{name_of}
use Rattle.abs_tree.proofs.SyntaxLemmas.{type_tree-unresolved, type_tree-data, pattern_tree-built, expr_tree-operators, expr_tree-case, expr_tree-own_call, expr_tree-apply, expr_tree-build}
use Rattle.abs_tree.specs.declared.syntax.pattern.Pattern.{Pattern}
use Rattle.abs_tree.specs.SyntaxCounts.{count_patterns, count_exprs}
use Rattle.abs_tree.specs.declared.syntax.expression.Expr.{Expr}
use Rattle.std.specs.declared.boxed.Box.{Box}
use Rattle.abs_tree.specs.declared.syntax.expression.Operand.{Operand}
use Rattle.abs_tree.specs.declared.syntax.expression.Branch.{Branch}
use Rattle.std.specs.declared.sync.Arc.{Arc}
use Rattle.abs_tree.specs.declared.syntax.types.TypeTerm as code_type
use Rattle.abs_tree.specs.declared.syntax.pattern.Pattern as code_pattern
use Rattle.abs_tree.specs.declared.syntax.expression.Expr as code_expr

-- the trees of a type that is written as a name, and of a data type
pub unresolved_tree : (names : List Name) (term : TypeTerm) (place : Place) (name : Symbol)
    (arguments : Vec TypeTerm Global) (items : List TypeTerm) → term ≡ code_type.Unresolved place name arguments
    → items ≡ arguments.items
    → type_tree names term ≡ UnresolvedType place (name_of names name) (type_trees names items)
unresolved_tree names term place name arguments items is items_are =
    ap (type_tree names) is
    ∙ (type_tree-unresolved names place name arguments
    ∙ ap (λ (ts : List TypeTerm). UnresolvedType place (name_of names name) (type_trees names ts)) (sym items_are))

pub data_tree : (names : List Name) (term : TypeTerm) (place : Place) (name : Symbol)
    (arguments : Vec TypeTerm Global) (items : List TypeTerm) → term ≡ code_type.Data place name arguments
    → items ≡ arguments.items → type_tree names term ≡ DataType place (name_of names name) (type_trees names items)
data_tree names term place name arguments items is items_are =
    ap (type_tree names) is
    ∙ (type_tree-data names place name arguments
    ∙ ap (λ (ts : List TypeTerm). DataType place (name_of names name) (type_trees names ts)) (sym items_are))

-- a list has as many patterns as trees
pub patterns_counted : (names : List Name) (parts : List Pattern)
    → count_patterns (pattern_trees names parts) ≡ length parts
patterns_counted names [] = refl
patterns_counted names (one ∷ others) = omega (arith, patterns_counted names others)

-- the tree of a pattern with a constructor
pub built_tree : (names : List Name) (pattern : Pattern) (place : Place) (constructor : Symbol)
    (arguments : Vec Pattern Global) (parts : List Pattern) → pattern ≡ code_pattern.Built place constructor arguments
    → parts ≡ arguments.items
    → pattern_tree names pattern ≡ Built place (name_of names constructor) (pattern_trees names parts)
built_tree names pattern place constructor arguments parts is parts_are =
    ap (pattern_tree names) is
    ∙ (pattern_tree-built names place constructor arguments
    ∙ ap (λ (ps : List Pattern). Built place (name_of names constructor) (pattern_trees names ps)) (sym parts_are))

-- the tree of operators of one precedence
pub operators_tree : (names : List Name) (expr : Expr) (place : Place) (first : Box Expr Global)
    (operands : Vec Operand Global) (value : Expr) (items : List Operand)
    → expr ≡ code_expr.Operators place first operands
    → value ≡ first.value → items ≡ operands.items
    → expr_tree names expr ≡ OperatorsOf place (expr_tree names value) (operand_trees names items)
operators_tree names expr place first operands value items is value_is items_are =
    ap (expr_tree names) is
    ∙ (expr_tree-operators names place first operands
    ∙ (ap (λ (e : Expr). OperatorsOf place (expr_tree names e) (operand_trees names operands.items)) (sym value_is)
    ∙ ap (λ (os : List Operand). OperatorsOf place (expr_tree names value) (operand_trees names os)) (sym items_are)))

-- the tree of a `case`
pub case_tree : (names : List Name) (expr : Expr) (place : Place) (subject : Box Expr Global) (arms : Vec Branch Global)
    (value : Expr) (items : List Branch) → expr ≡ code_expr.Case place subject arms → value ≡ subject.value
    → items ≡ arms.items → expr_tree names expr ≡ CaseOf place (expr_tree names value) (branches names items)
case_tree names expr place subject arms value items is value_is items_are =
    ap (expr_tree names) is
    ∙ (expr_tree-case names place subject arms
    ∙ (ap (λ (e : Expr). CaseOf place (expr_tree names e) (branches names arms.items)) (sym value_is)
    ∙ ap (λ (bs : List Branch). CaseOf place (expr_tree names value) (branches names bs)) (sym items_are)))

-- the trees of a call on `this`, of a function and of a constructor
pub own_call_tree : (names : List Name) (expr : Expr) (place : Place) (method : Symbol)
    (arguments : Arc (Vec Expr Global) Global) (items : List Expr) → expr ≡ code_expr.OwnCall place method arguments
    → items ≡ arguments.value.items → expr_tree names expr ≡ OwnCallOf place (name_of names method) (expr_trees names items)
own_call_tree names expr place method arguments items is items_are =
    ap (expr_tree names) is
    ∙ (expr_tree-own_call names place method arguments
    ∙ ap (λ (es : List Expr). OwnCallOf place (name_of names method) (expr_trees names es)) (sym items_are))

pub apply_tree : (names : List Name) (expr : Expr) (place : Place) (function : Symbol) (arguments : Vec Expr Global)
    (items : List Expr) → expr ≡ code_expr.Apply place function arguments → items ≡ arguments.items
    → expr_tree names expr ≡ ApplyOf place (name_of names function) (expr_trees names items)
apply_tree names expr place function arguments items is items_are =
    ap (expr_tree names) is
    ∙ (expr_tree-apply names place function arguments
    ∙ ap (λ (es : List Expr). ApplyOf place (name_of names function) (expr_trees names es)) (sym items_are))

pub build_tree : (names : List Name) (expr : Expr) (place : Place) (constructor : Symbol)
    (arguments : Vec Expr Global) (items : List Expr) → expr ≡ code_expr.Build place constructor arguments
    → items ≡ arguments.items → expr_tree names expr ≡ BuildOf place (name_of names constructor) (expr_trees names items)
build_tree names expr place constructor arguments items is items_are =
    ap (expr_tree names) is
    ∙ (expr_tree-build names place constructor arguments
    ∙ ap (λ (es : List Expr). BuildOf place (name_of names constructor) (expr_trees names es)) (sym items_are))

-- a list has as many expressions as trees
pub exprs_counted : (names : List Name) (exprs : List Expr) → count_exprs (expr_trees names exprs) ≡ length exprs
exprs_counted names [] = refl
exprs_counted names (one ∷ others) = omega (arith, exprs_counted names others)
