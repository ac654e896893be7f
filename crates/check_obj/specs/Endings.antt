-- Where the statements of a block end, from memory. These words serve contracts of this crate alone.
--
--   `IsFilled`             statements up to the last one that is no empty block
use Rattle.std.specs.Prelude.{◌≡◌, ℕ, ◌+◌, ◌≤◌, true, false, List, drop, length, slice_get, Some}
use Rattle.abs_tree.specs.Syntax.{Name}
use Rattle.abs_tree.specs.SyntaxViews.{statement, statements}
use Rattle.abs_tree.specs.declared.syntax.statement.Stmt.{Stmt}
use Rattle.abs_types.specs.Endings.{are_empty, is_empty}

-- This many statements are those up to the last one that is no block without a statement.
pub record IsFilled (stmts : List Stmt) (count : ℕ) : Type 0 where
  pub within : count ≤ length stmts
  pub rest : (names : List Name) → are_empty (statements names (drop count stmts)) ≡ true
  pub last : (names : List Name) (index : ℕ) (stmt : Stmt) → index + 1 ≡ count
      → slice_get stmts index ≡ Some stmt → is_empty (statement names stmt) ≡ false
