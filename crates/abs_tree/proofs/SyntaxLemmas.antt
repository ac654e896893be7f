-- The trees of the parts inside a type, a pattern or an expression in memory are those of its vector.
use Rattle.std.proofs.Common.{◌≡◌, ℕ, List, refl, ap, ◌∙◌}
use Rattle.std.specs.declared.alloc.Global.{Global}
use Rattle.std.specs.declared.sync.Arc.{Arc}
use Rattle.std.specs.declared.vec.Vec.{Vec}
use Rattle.abs_tree.specs.declared.place.Place.{Place}
use Rattle.abs_tree.specs.declared.symbol.Symbol.{Symbol}
use Rattle.abs_tree.specs.declared.syntax.types.TypeTerm as code_type
use Rattle.abs_tree.specs.declared.syntax.types.TypeTerm.{TypeTerm, Unresolved', Data', Row_of-TypeTerm, end_of-TypeTerm, more_of-TypeTerm, items-the_row-TypeTerm, items_hidden-the_row-TypeTerm-0}
use Rattle.abs_tree.specs.declared.syntax.pattern.Pattern as code_pattern
use Rattle.abs_tree.specs.declared.syntax.pattern.Pattern.{Pattern, Built', Row_of-Pattern, end_of-Pattern, more_of-Pattern, items-the_row-Pattern, items_hidden-the_row-Pattern-0}
use Rattle.abs_tree.specs.declared.syntax.expression.Expr as code_expr
use Rattle.abs_tree.specs.declared.syntax.expression.Expr.{Expr, Operators', OwnCall', Apply', Build', Case', Row_of-Expr, end_of-Expr, more_of-Expr, items-the_row-Expr, items_hidden-the_row-Expr-1, Row_of-Operand, end_of-Operand, more_of-Operand, items-the_row-Operand, items_hidden-the_row-Operand-0, Row_of-Branch, end_of-Branch, more_of-Branch, items-the_row-Branch, items_hidden-the_row-Branch-2}
use Rattle.abs_tree.specs.declared.syntax.expression.Operand.{Operand}
use Rattle.abs_tree.specs.declared.syntax.expression.Branch.{Branch}
use Rattle.std.specs.declared.boxed.Box.{Box}
use Rattle.abs_tree.specs.Syntax.{UnresolvedType, DataType, NextType, Built, NextPattern, OperatorsOf, OwnCallOf, ApplyOf, BuildOf, CaseOf, NextExpr, NextOperand, NextBranch}
use Rattle.abs_tree.specs.SyntaxViews.{type_tree, type_row, type_trees, pattern_tree, pattern_row, pattern_trees, expr_tree, expr_row, expr_trees, operand_row, operand_trees, branch_row, branches}
use Rattle.abs_tree.specs.Names.{name_of}
use mathlib.Core.Former.{Count}

-- the types in a row in memory
types_in_row : (names : List (List ℕ)) (n : _) (row : Row_of-TypeTerm n)
    → type_row names row ≡ type_trees names (items-the_row-TypeTerm n row)
types_in_row names n end_of-TypeTerm = refl
types_in_row names n (more_of-TypeTerm type others) = ap (NextType (type_tree names type)) (types_in_row names _ others)

-- how many arguments a type has, and the row of them
abbrev row_of : TypeTerm → (n : Count) × Row_of-TypeTerm n
row_of (Unresolved' _ _ _ row) = (_, row)
row_of (Data' _ _ _ row) = (_, row)
row_of _ = (_, end_of-TypeTerm)

-- the arguments of a type are those of its vector
pub type_tree-unresolved : (names : List (List ℕ)) (place : Place) (symbol : Symbol) (arguments : Vec TypeTerm Global)
    → type_tree names (code_type.Unresolved place symbol arguments)
    ≡ UnresolvedType place (name_of names symbol) (type_trees names arguments.items)
type_tree-unresolved names place symbol arguments =
    let row = row_of (code_type.Unresolved place symbol arguments) in
    ap (UnresolvedType place (name_of names symbol))
    (types_in_row names row.0 row.1 ∙ ap (type_trees names) (items_hidden-the_row-TypeTerm-0 arguments))

pub type_tree-data : (names : List (List ℕ)) (place : Place) (symbol : Symbol) (arguments : Vec TypeTerm Global)
    → type_tree names (code_type.Data place symbol arguments)
    ≡ DataType place (name_of names symbol) (type_trees names arguments.items)
type_tree-data names place symbol arguments =
    let row = row_of (code_type.Data place symbol arguments) in
    ap (DataType place (name_of names symbol))
    (types_in_row names row.0 row.1 ∙ ap (type_trees names) (items_hidden-the_row-TypeTerm-0 arguments))

-- the patterns in a row in memory
patterns_in_row : (names : List (List ℕ)) (n : _) (row : Row_of-Pattern n)
    → pattern_row names row ≡ pattern_trees names (items-the_row-Pattern n row)
patterns_in_row names n end_of-Pattern = refl
patterns_in_row names n (more_of-Pattern pattern others) =
    ap (NextPattern (pattern_tree names pattern)) (patterns_in_row names _ others)

-- how many parts a pattern has, and the row of them
abbrev parts_of : Pattern → (n : Count) × Row_of-Pattern n
parts_of (Built' _ _ _ row) = (_, row)
parts_of _ = (_, end_of-Pattern)

-- the parts of a pattern are those of its vector
pub pattern_tree-built : (names : List (List ℕ)) (place : Place) (symbol : Symbol) (parts : Vec Pattern Global)
    → pattern_tree names (code_pattern.Built place symbol parts)
    ≡ Built place (name_of names symbol) (pattern_trees names parts.items)
pattern_tree-built names place symbol parts =
    let row = parts_of (code_pattern.Built place symbol parts) in
    ap (Built place (name_of names symbol))
    (patterns_in_row names row.0 row.1 ∙ ap (pattern_trees names) (items_hidden-the_row-Pattern-0 parts))

-- the expressions in a row in memory
exprs_in_row : (names : List (List ℕ)) (n : _) (row : Row_of-Expr n)
    → expr_row names row ≡ expr_trees names (items-the_row-Expr n row)
exprs_in_row names n end_of-Expr = refl
exprs_in_row names n (more_of-Expr expr others) = ap (NextExpr (expr_tree names expr)) (exprs_in_row names _ others)

-- how many arguments an expression has, and the row of them
abbrev arguments_of : Expr → (n : Count) × Row_of-Expr n
arguments_of (OwnCall' _ _ _ _ row) = (_, row)
arguments_of (Apply' _ _ _ row) = (_, row)
arguments_of (Build' _ _ _ row) = (_, row)
arguments_of _ = (_, end_of-Expr)

-- the arguments of a call on `this`, of a function and of a constructor are those of their vector
pub expr_tree-own_call : (names : List (List ℕ)) (place : Place) (symbol : Symbol)
    (arguments : Arc (Vec Expr Global) Global)
    → expr_tree names (code_expr.OwnCall place symbol arguments)
    ≡ OwnCallOf place (name_of names symbol) (expr_trees names arguments.value.items)
expr_tree-own_call names place symbol arguments =
    let row = arguments_of (code_expr.OwnCall place symbol arguments) in
    ap (OwnCallOf place (name_of names symbol))
    (exprs_in_row names row.0 row.1 ∙ ap (expr_trees names) (items_hidden-the_row-Expr-1 arguments.value))

pub expr_tree-apply : (names : List (List ℕ)) (place : Place) (symbol : Symbol) (arguments : Vec Expr Global)
    → expr_tree names (code_expr.Apply place symbol arguments)
    ≡ ApplyOf place (name_of names symbol) (expr_trees names arguments.items)
expr_tree-apply names place symbol arguments =
    let row = arguments_of (code_expr.Apply place symbol arguments) in
    ap (ApplyOf place (name_of names symbol))
    (exprs_in_row names row.0 row.1 ∙ ap (expr_trees names) (items_hidden-the_row-Expr-1 arguments))

pub expr_tree-build : (names : List (List ℕ)) (place : Place) (symbol : Symbol) (arguments : Vec Expr Global)
    → expr_tree names (code_expr.Build place symbol arguments)
    ≡ BuildOf place (name_of names symbol) (expr_trees names arguments.items)
expr_tree-build names place symbol arguments =
    let row = arguments_of (code_expr.Build place symbol arguments) in
    ap (BuildOf place (name_of names symbol))
    (exprs_in_row names row.0 row.1 ∙ ap (expr_trees names) (items_hidden-the_row-Expr-1 arguments))

-- the operators in a row in memory
operands_in_row : (names : List (List ℕ)) (n : _) (row : Row_of-Operand n)
    → operand_row names row ≡ operand_trees names (items-the_row-Operand n row)
operands_in_row names n end_of-Operand = refl
operands_in_row names n (more_of-Operand operator right others) =
    ap (NextOperand operator (expr_tree names right)) (operands_in_row names _ others)

-- how many operators an expression has, and the row of them
abbrev operands_of : Expr → (n : Count) × Row_of-Operand n
operands_of (Operators' _ _ _ _ row) = (_, row)
operands_of _ = (_, end_of-Operand)

-- the operators of one precedence are those of their vector
pub expr_tree-operators : (names : List (List ℕ)) (place : Place) (first : Box Expr Global) (operands : Vec Operand Global)
    → expr_tree names (code_expr.Operators place first operands)
    ≡ OperatorsOf place (expr_tree names first.value) (operand_trees names operands.items)
expr_tree-operators names place first operands =
    let row = operands_of (code_expr.Operators place first operands) in
    ap (OperatorsOf place (expr_tree names first.value))
    (operands_in_row names row.0 row.1 ∙ ap (operand_trees names) (items_hidden-the_row-Operand-0 operands))

-- the branches in a row in memory
branches_in_row : (names : List (List ℕ)) (n : _) (row : Row_of-Branch n)
    → branch_row names row ≡ branches names (items-the_row-Branch n row)
branches_in_row names n end_of-Branch = refl
branches_in_row names n (more_of-Branch pattern value others) =
    ap (NextBranch (pattern_tree names pattern) (expr_tree names value)) (branches_in_row names _ others)

-- how many branches an expression has, and the row of them
abbrev branches_of : Expr → (n : Count) × Row_of-Branch n
branches_of (Case' _ _ _ _ row) = (_, row)
branches_of _ = (_, end_of-Branch)

-- the branches of a `case` are those of its vector
pub expr_tree-case : (names : List (List ℕ)) (place : Place) (subject : Box Expr Global) (arms : Vec Branch Global)
    → expr_tree names (code_expr.Case place subject arms)
    ≡ CaseOf place (expr_tree names subject.value) (branches names arms.items)
expr_tree-case names place subject arms =
    let row = branches_of (code_expr.Case place subject arms) in
    ap (CaseOf place (expr_tree names subject.value))
    (branches_in_row names row.0 row.1 ∙ ap (branches names) (items_hidden-the_row-Branch-2 arms))
