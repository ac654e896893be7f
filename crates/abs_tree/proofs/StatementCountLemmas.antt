-- How many indices statements have, counted one by one.
use Rattle.std.proofs.Common.{◌≡◌, ℕ, ◌+◌, List, Option, sym, ap, ◌∙◌, drop}
use Rattle.std.specs.declared.alloc.Global.{Global}
use Rattle.std.specs.declared.sync.Arc.{Arc}
use Rattle.std.specs.declared.vec.Vec.{Vec}
use Rattle.abs_tree.proofs.StatementLemmas.{statement-block, statement-if, statement-while}
use Rattle.abs_tree.specs.Syntax.{Name}
use Rattle.abs_tree.specs.SyntaxSizes.{count_of, count_of_else, statement_count}
use Rattle.abs_tree.specs.SyntaxViews.{statement, statements, maybe_statements}
use Rattle.abs_tree.specs.declared.place.Place.{Place}
use Rattle.abs_tree.specs.declared.syntax.expression.Expr.{Expr}
use Rattle.abs_tree.specs.declared.syntax.statement.Stmt as code_stmt
use Rattle.abs_tree.specs.declared.syntax.statement.Stmt.{Stmt}

-- The indices of the statements before a place were passed: those of the rest follow.
pub record CountedSoFar (stmts : List Stmt) (start place next : ℕ) : Type 0 where
  pub so_far : (names : List Name) → next + statement_count (statements names (drop place stmts))
      ≡ start + statement_count (statements names stmts)

-- the indices of a block are those of the statements in it
pub count_of-block : (names : List Name) (stmt : Stmt) (place : Place) (block : Vec Stmt Global) (items : List Stmt)
    → stmt ≡ code_stmt.Block place block → items ≡ block.items
    → count_of (statement names stmt) ≡ statement_count (statements names items)
count_of-block names stmt place block items is items_are =
    ap (λ (one : Stmt). count_of (statement names one)) is
    ∙ (ap count_of (statement-block names place block)
    ∙ ap (λ (all : List Stmt). statement_count (statements names all)) (sym items_are))

-- a loop has one more
pub count_of-while : (names : List Name) (stmt : Stmt) (index : ℕ) (place : Place) (test : Arc Expr Global)
    (body : Vec Stmt Global) (items : List Stmt) → stmt ≡ code_stmt.While index place test body → items ≡ body.items
    → count_of (statement names stmt) ≡ 1 + statement_count (statements names items)
count_of-while names stmt index place test body items is items_are =
    ap (λ (one : Stmt). count_of (statement names one)) is
    ∙ (ap count_of (statement-while names index place test body)
    ∙ ap (λ (all : List Stmt). 1 + statement_count (statements names all)) (sym items_are))

-- so has an `if`, with those of both branches
pub count_of-if : (names : List Name) (stmt : Stmt) (index : ℕ) (place : Place) (test : Arc Expr Global)
    (first : Vec Stmt Global) (second : Option (Vec Stmt Global)) (items : List Stmt)
    → stmt ≡ code_stmt.If index place test first second → items ≡ first.items
    → count_of (statement names stmt)
    ≡ 1 + statement_count (statements names items) + count_of_else (maybe_statements names second)
count_of-if names stmt index place test first second items is items_are =
    ap (λ (one : Stmt). count_of (statement names one)) is
    ∙ (ap count_of (statement-if names index place test first second)
    ∙ ap (λ (all : List Stmt). 1 + statement_count (statements names all)
    + count_of_else (maybe_statements names second)) (sym items_are))
