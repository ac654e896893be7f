-- Statements that contain others: the trees of the statements inside are those of its vectors.
use Rattle.std.proofs.Common.{◌≡◌, ℕ, ◌≤◌, List, ◌∷◌, ◌++◌, Option, Some, None, arith, refl, sym, ap, ◌∙◌}
use Rattle.std.specs.declared.alloc.Global.{Global}
use Rattle.std.specs.declared.sync.Arc.{Arc}
use Rattle.std.specs.declared.vec.Vec.{Vec}
use Rattle.abs_tree.specs.declared.place.Place.{Place}
use Rattle.abs_tree.specs.declared.syntax.expression.Expr.{Expr}
use Rattle.abs_tree.specs.declared.syntax.statement.Stmt as code_stmt
use Rattle.abs_tree.specs.declared.syntax.statement.Stmt.{Stmt, size-Stmt, roll-Stmt, roll-out-Stmt, view-Stmt-If-4, Block', If', While', Row_of-Stmt, end_of-Stmt, more_of-Stmt, items-the_row-Stmt, items_hidden-the_row-Stmt-0, Held-Stmt-If-4, None', Some'}
use Rattle.abs_tree.specs.declared.syntax.statement.Stmt.TheBlock.{shown-the_row-Stmt-0}
use Rattle.abs_tree.specs.declared.syntax.statement.Stmt.TheViews.{outs-Block', outs-If', outs-While', rolls-Block, rolls-If, rolls-While}
use Rattle.abs_tree.specs.Syntax.{Statement, BlockOf, IfOf, WhileOf, NextStatement, Else, NoElse, Name}
use Rattle.abs_tree.specs.SyntaxViews.{expr_tree, statement, statement_row, statements, maybe_statements}
use denote.Param.Weighed.{most, most-append}
use mathlib.Core.Former.{Count}

-- the statements in a row in memory
statements_in_row : (names : List (List ℕ)) (n : _) (row : Row_of-Stmt n)
    → statement_row names row ≡ statements names (items-the_row-Stmt n row)
statements_in_row names n end_of-Stmt = refl
statements_in_row names n (more_of-Stmt stmt others) =
    ap (NextStatement (statement names stmt)) (statements_in_row names _ others)

-- how many statements a statement has inside, and the row of them: the first row of an `if`
abbrev inside_of : Stmt → (n : Count) × Row_of-Stmt n
inside_of (Block' _ _ row) = (_, row)
inside_of (If' _ _ _ _ row _) = (_, row)
inside_of (While' _ _ _ _ row) = (_, row)
inside_of _ = (_, end_of-Stmt)

-- what an `if` has after its `else`
abbrev held_of : Stmt → Held-Stmt-If-4
held_of (If' _ _ _ _ _ held) = held
held_of _ = None'

-- the statements of a block are those of its vector
pub statement-block : (names : List (List ℕ)) (place : Place) (block : Vec Stmt Global)
    → statement names (code_stmt.Block place block) ≡ BlockOf place (statements names block.items)
statement-block names place block =
    let row = inside_of (code_stmt.Block place block) in
    ap (BlockOf place) (statements_in_row names row.0 row.1 ∙ ap (statements names) (items_hidden-the_row-Stmt-0 block))

-- so are those of a loop
pub statement-while : (names : List (List ℕ)) (index : ℕ) (place : Place) (test : Arc Expr Global)
    (body : Vec Stmt Global)
    → statement names (code_stmt.While index place test body)
    ≡ WhileOf index place (expr_tree names test.value) (statements names body.items)
statement-while names index place test body =
    let row = inside_of (code_stmt.While index place test body) in
    ap (WhileOf index place (expr_tree names test.value))
    (statements_in_row names row.0 row.1 ∙ ap (statements names) (items_hidden-the_row-Stmt-0 body))

-- and those of the branches of an `if`
pub statement-if : (names : List (List ℕ)) (index : ℕ) (place : Place) (test : Arc Expr Global)
    (first : Vec Stmt Global) (other : Option (Vec Stmt Global))
    → statement names (code_stmt.If index place test first other)
    ≡ IfOf index place (expr_tree names test.value) (statements names first.items) (maybe_statements names other)
statement-if names index place test first None =
    let row = inside_of (code_stmt.If index place test first None) in
    ap (λ trees. IfOf index place (expr_tree names test.value) trees NoElse)
    (statements_in_row names row.0 row.1 ∙ ap (statements names) (items_hidden-the_row-Stmt-0 first))
statement-if names index place test first (Some other) =
    let row = inside_of (code_stmt.If index place test first (Some other)) in
    let second = inside_of (code_stmt.Block place other) in
    ap (λ trees. IfOf index place (expr_tree names test.value) trees (Else (statement_row names second.1)))
    (statements_in_row names row.0 row.1 ∙ ap (statements names) (items_hidden-the_row-Stmt-0 first))
    ∙ ap (λ trees. IfOf index place (expr_tree names test.value) (statements names first.items) (Else trees))
    (statements_in_row names second.0 second.1 ∙ ap (statements names) (items_hidden-the_row-Stmt-0 other))

-- the tree of a block, from the parts that a match finds in memory
pub block_tree : (names : List (List ℕ)) (stmt : Stmt) (place : Place) (block : Vec Stmt Global) (items : List Stmt)
    → stmt ≡ code_stmt.Block place block → items ≡ block.items
    → statement names stmt ≡ BlockOf place (statements names items)
block_tree names stmt place block items is items_are =
    ap (statement names) is
    ∙ (statement-block names place block
    ∙ ap (λ (stmts : List Stmt). BlockOf place (statements names stmts)) (sym items_are))

-- the tree of a loop
pub while_tree : (names : List (List ℕ)) (stmt : Stmt) (index : ℕ) (place : Place) (test : Arc Expr Global)
    (body : Vec Stmt Global) (items : List Stmt) → stmt ≡ code_stmt.While index place test body → items ≡ body.items
    → statement names stmt ≡ WhileOf index place (expr_tree names test.value) (statements names items)
while_tree names stmt index place test body items is items_are =
    ap (statement names) is
    ∙ (statement-while names index place test body
    ∙ ap (λ (stmts : List Stmt). WhileOf index place (expr_tree names test.value) (statements names stmts))
    (sym items_are))

-- the tree of an `if`
pub if_tree : (names : List (List ℕ)) (stmt : Stmt) (index : ℕ) (place : Place) (test : Arc Expr Global)
    (first : Vec Stmt Global) (other : Option (Vec Stmt Global)) (items : List Stmt)
    → stmt ≡ code_stmt.If index place test first other → items ≡ first.items
    → statement names stmt
    ≡ IfOf index place (expr_tree names test.value) (statements names items) (maybe_statements names other)
if_tree names stmt index place test first other items is items_are =
    let second = maybe_statements names other in
    ap (statement names) is
    ∙ (statement-if names index place test first other
    ∙ ap (λ (stmts : List Stmt). IfOf index place (expr_tree names test.value) (statements names stmts) second)
    (sym items_are))

-- a statement holds no others: it is no block, no `if` and no loop
abbrev pub HoldsNone : Statement → Type 0
HoldsNone (BlockOf place block) = ⊥
HoldsNone (IfOf index place condition first second) = ⊥
HoldsNone (WhileOf index place condition body) = ⊥
HoldsNone _ = Unit {0}

-- one that in memory is neither of them holds none
pub holds_none : (names : List (List ℕ)) (stmt : Stmt)
    → ((place : Place) (block : Vec Stmt Global) → stmt ≡ code_stmt.Block place block → ⊥)
    → ((index : ℕ) (place : Place) (test : Arc Expr Global) (first : Vec Stmt Global)
    (other : Option (Vec Stmt Global)) → stmt ≡ code_stmt.If index place test first other → ⊥)
    → ((index : ℕ) (place : Place) (test : Arc Expr Global) (body : Vec Stmt Global)
    → stmt ≡ code_stmt.While index place test body → ⊥)
    → HoldsNone (statement names stmt)
holds_none names (Block' place shape row) no_block no_if no_while =
    let block = shown-the_row-Stmt-0 shape row in
    absurd (no_block place block (sym (roll-out-Stmt (Block' place shape row))
    ∙ (ap roll-Stmt (outs-Block' place shape row) ∙ rolls-Block place block)))
holds_none names (If' index place test shape row held) no_block no_if no_while =
    let first = shown-the_row-Stmt-0 shape row in
    let other = view-Stmt-If-4 held in
    absurd (no_if index place test first other (sym (roll-out-Stmt (If' index place test shape row held))
    ∙ (ap roll-Stmt (outs-If' index place test shape row held) ∙ rolls-If index place test first other)))
holds_none names (While' index place test shape row) no_block no_if no_while =
    let body = shown-the_row-Stmt-0 shape row in
    absurd (no_while index place test body (sym (roll-out-Stmt (While' index place test shape row))
    ∙ (ap roll-Stmt (outs-While' index place test shape row) ∙ rolls-While index place test body)))
holds_none names stmt no_block no_if no_while = tt

-- the size of a branch that may be missing, by which a recursion over one ends
abbrev pub branch_size : Option (Vec Stmt Global) → ℕ
branch_size None = 0
branch_size (Some branch) = most (λ (stmt : Stmt). size-Stmt stmt) branch.items

-- a statement among several is no deeper than all
pub size_within : (stmts others : List Stmt) (stmt : Stmt) (done : List Stmt) → stmts ≡ others ++ stmt ∷ done
    → size-Stmt stmt ≤ most (λ (one : Stmt). size-Stmt one) stmts
size_within stmts others stmt done is =
    let size = λ (one : Stmt). size-Stmt one in
    omega (arith, ap (most size) is, most-append size others (stmt ∷ done))

-- the tree of a loop
pub while_tree-value : (names : List Name) (stmt : Stmt) (index : ℕ) (place : Place) (condition : Arc Expr Global)
    (body : Vec Stmt Global) (value : Expr) (items : List Stmt) → stmt ≡ code_stmt.While index place condition body
    → value ≡ condition.value → items ≡ body.items
    → statement names stmt ≡ WhileOf index place (expr_tree names value) (statements names items)
while_tree-value names stmt index place condition body value items is value_is items_are =
    ap (statement names) is
    ∙ (statement-while names index place condition body
    ∙ (ap (λ (e : Expr). WhileOf index place (expr_tree names e) (statements names body.items)) (sym value_is)
    ∙ ap (λ (xs : List Stmt). WhileOf index place (expr_tree names value) (statements names xs)) (sym items_are)))

-- the tree of an `if`
pub if_tree-value : (names : List Name) (stmt : Stmt) (index : ℕ) (place : Place) (condition : Arc Expr Global)
    (first : Vec Stmt Global) (second : Option (Vec Stmt Global)) (value : Expr) (items : List Stmt)
    → stmt ≡ code_stmt.If index place condition first second → value ≡ condition.value → items ≡ first.items
    → statement names stmt
    ≡ IfOf index place (expr_tree names value) (statements names items) (maybe_statements names second)
if_tree-value names stmt index place condition first second value items is value_is items_are =
    let other = maybe_statements names second in
    ap (statement names) is
    ∙ (statement-if names index place condition first second
    ∙ (ap (λ (e : Expr). IfOf index place (expr_tree names e) (statements names first.items) other) (sym value_is)
    ∙ ap (λ (xs : List Stmt). IfOf index place (expr_tree names value) (statements names xs) other) (sym items_are)))
