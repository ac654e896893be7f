-- Lists of trees of which a prefix was made: trees before trees, and one more of them.
use Rattle.std.proofs.Common.{List, ◌∷◌, [], ◌++◌, ◌≡◌, refl, ap}
use Rattle.abs_tree.specs.Syntax.{Name, TypeTrees, NextType, NoType, PatternTrees, NextPattern, NoPattern, ExprTrees, NextExpr, NoExpr, Operands, NextOperand, NoOperands, Branches, NextBranch, NoBranch, Tests, NextTest, NoTest, Statements, NextStatement, NoStatement}
use Rattle.abs_tree.specs.declared.syntax.types.TypeTerm.{TypeTerm}
use Rattle.abs_tree.specs.SyntaxViews.{type_tree, type_trees, pattern_tree, pattern_trees, expr_tree, expr_trees, operand_trees, branches, tests, statement, statements}
use Rattle.abs_tree.specs.declared.syntax.pattern.Pattern.{Pattern}
use Rattle.abs_tree.specs.declared.syntax.expression.Expr.{Expr}
use Rattle.abs_tree.specs.declared.syntax.expression.Operand.{Operand}
use Rattle.abs_tree.specs.declared.syntax.expression.Branch.{Branch}
use Rattle.abs_tree.specs.declared.syntax.statement.Test.{Test}
use Rattle.abs_tree.specs.declared.syntax.statement.Stmt.{Stmt}

-- types before types
abbrev pub types_before : List Name → List TypeTerm → TypeTrees → TypeTrees
types_before names [] trees = trees
types_before names (type ∷ others) trees = NextType (type_tree names type) (types_before names others trees)

pub types_more : (names : List Name) (types : List TypeTerm) (type : TypeTerm) (trees : TypeTrees)
    → types_before names (types ++ type ∷ []) trees ≡ types_before names types (NextType (type_tree names type) trees)
types_more names [] type trees = refl
types_more names (one ∷ others) type trees = ap (NextType (type_tree names one)) (types_more names others type trees)

pub types_all : (names : List Name) (types : List TypeTerm) → types_before names types NoType ≡ type_trees names types
types_all names [] = refl
types_all names (one ∷ others) = ap (NextType (type_tree names one)) (types_all names others)

-- patterns before patterns
abbrev pub patterns_before : List Name → List Pattern → PatternTrees → PatternTrees
patterns_before names [] trees = trees
patterns_before names (pattern ∷ others) trees =
    NextPattern (pattern_tree names pattern) (patterns_before names others trees)

pub patterns_more : (names : List Name) (patterns : List Pattern) (pattern : Pattern) (trees : PatternTrees)
    → patterns_before names (patterns ++ pattern ∷ []) trees
    ≡ patterns_before names patterns (NextPattern (pattern_tree names pattern) trees)
patterns_more names [] pattern trees = refl
patterns_more names (one ∷ others) pattern trees =
    ap (NextPattern (pattern_tree names one)) (patterns_more names others pattern trees)

pub patterns_all : (names : List Name) (patterns : List Pattern)
    → patterns_before names patterns NoPattern ≡ pattern_trees names patterns
patterns_all names [] = refl
patterns_all names (one ∷ others) = ap (NextPattern (pattern_tree names one)) (patterns_all names others)

-- expressions before expressions
abbrev pub exprs_before : List Name → List Expr → ExprTrees → ExprTrees
exprs_before names [] trees = trees
exprs_before names (expr ∷ others) trees = NextExpr (expr_tree names expr) (exprs_before names others trees)

pub exprs_more : (names : List Name) (exprs : List Expr) (expr : Expr) (trees : ExprTrees)
    → exprs_before names (exprs ++ expr ∷ []) trees ≡ exprs_before names exprs (NextExpr
    (expr_tree names expr) trees)
exprs_more names [] expr trees = refl
exprs_more names (one ∷ others) expr trees = ap (NextExpr (expr_tree names one)) (exprs_more names others expr trees)

pub exprs_all : (names : List Name) (exprs : List Expr) → exprs_before names exprs NoExpr ≡ expr_trees names exprs
exprs_all names [] = refl
exprs_all names (one ∷ others) = ap (NextExpr (expr_tree names one)) (exprs_all names others)

-- operands before operands
abbrev pub operands_before : List Name → List Operand → Operands → Operands
operands_before names [] trees = trees
operands_before names (operand ∷ others) trees =
    NextOperand operand.operator (expr_tree names operand.right) (operands_before names others trees)

pub operands_more : (names : List Name) (operands : List Operand) (operand : Operand) (trees : Operands)
    → operands_before names (operands ++ operand ∷ []) trees
    ≡ operands_before names operands (NextOperand operand.operator (expr_tree names operand.right) trees)
operands_more names [] operand trees = refl
operands_more names (one ∷ others) operand trees =
    ap (NextOperand one.operator (expr_tree names one.right)) (operands_more names others operand trees)

pub operands_all : (names : List Name) (operands : List Operand)
    → operands_before names operands NoOperands ≡ operand_trees names operands
operands_all names [] = refl
operands_all names (one ∷ others) = ap (NextOperand one.operator (expr_tree names one.right)) (operands_all names others)

-- branches before branches
abbrev pub branches_before : List Name → List Branch → Branches → Branches
branches_before names [] trees = trees
branches_before names (branch ∷ others) trees =
    NextBranch (pattern_tree names branch.pattern) (expr_tree names branch.value) (branches_before names others trees)

pub branches_more : (names : List Name) (arms : List Branch) (branch : Branch) (trees : Branches)
    → branches_before names (arms ++ branch ∷ []) trees
    ≡ branches_before names arms (NextBranch (pattern_tree names branch.pattern) (expr_tree names branch.value) trees)
branches_more names [] branch trees = refl
branches_more names (one ∷ others) branch trees =
    ap (NextBranch (pattern_tree names one.pattern) (expr_tree names one.value)) (branches_more names others branch trees)

pub branches_all : (names : List Name) (arms : List Branch)
    → branches_before names arms NoBranch ≡ branches names arms
branches_all names [] = refl
branches_all names (one ∷ others) =
    ap (NextBranch (pattern_tree names one.pattern) (expr_tree names one.value)) (branches_all names others)

-- tests before tests
abbrev pub tests_before : List Name → List Test → Tests → Tests
tests_before names [] trees = trees
tests_before names (test ∷ others) trees =
    NextTest test.place (expr_tree names test.value.value) test.asks (tests_before names others trees)

pub tests_more : (names : List Name) (items : List Test) (test : Test) (trees : Tests)
    → tests_before names (items ++ test ∷ []) trees
    ≡ tests_before names items (NextTest test.place (expr_tree names test.value.value) test.asks trees)
tests_more names [] test trees = refl
tests_more names (one ∷ others) test trees =
    ap (NextTest one.place (expr_tree names one.value.value) one.asks) (tests_more names others test trees)

pub tests_all : (names : List Name) (items : List Test) → tests_before names items NoTest ≡ tests names items
tests_all names [] = refl
tests_all names (one ∷ others) = ap (NextTest one.place (expr_tree names one.value.value) one.asks)
    (tests_all names others)

-- statements before statements
abbrev pub statements_before : List Name → List Stmt → Statements → Statements
statements_before names [] trees = trees
statements_before names (stmt ∷ others) trees = NextStatement (statement names stmt)
    (statements_before names others trees)

pub statements_more : (names : List Name) (stmts : List Stmt) (stmt : Stmt) (trees : Statements)
    → statements_before names (stmts ++ stmt ∷ []) trees
    ≡ statements_before names stmts (NextStatement (statement names stmt) trees)
statements_more names [] stmt trees = refl
statements_more names (one ∷ others) stmt trees =
    ap (NextStatement (statement names one)) (statements_more names others stmt trees)

pub statements_all : (names : List Name) (stmts : List Stmt)
    → statements_before names stmts NoStatement ≡ statements names stmts
statements_all names [] = refl
statements_all names (one ∷ others) = ap (NextStatement (statement names one)) (statements_all names others)
