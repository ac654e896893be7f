-- Blocks without a statement, and where statements end.
--
--   `is_last_reported`                     whether a statement is the last one
--   `ends_with_last`, `ends_with_none`     whether the last statement is `return`
use Rattle.std.proofs.Common.{◌≡◌, ℕ, zero, suc, ◌+◌, ◌-◌, ◌<◌, ◌≤◌, Bool, true, false, List, [], ◌∷◌, Some, length, get_or, drop, nat_le, refl, sym, ◌∙◌, inl, inr, arith, true≢false}
use Rattle.std.specs.Prelude.{slice_get}
use Rattle.std.proofs.lemmas.Bool.{and_parts, and_left, and_right, cases_lt, le-leb, lt-leb}
use Rattle.std.proofs.lemmas.Option.{none-some, same_Some, slice_get_read}
use Rattle.std.proofs.lemmas.List.{drop-drop}
use Rattle.abs_tree.specs.Syntax.{Name, Statement, BlockOf, SkipOf, SuspendOf, AwaitOf, ReturnOf, PrintOf, IfOf, WhileOf, DeclareOf, AssignOf, DoOf, Statements, NoStatement, NextStatement}
use Rattle.abs_tree.specs.SyntaxViews.{statement, statements}
use Rattle.abs_tree.specs.declared.syntax.statement.Stmt.{Stmt}
use Rattle.abs_types.specs.Endings.{are_empty, ends_with_return, is_empty, returns}
use Rattle.check_obj.specs.Endings.{IsFilled}

-- whether the statements from an index on are empty blocks
abbrev rest_empty : List Name → List Stmt → ℕ → Bool
rest_empty names stmts index = are_empty (statements names (drop index stmts))

-- the rest of empty blocks
empty_later : (names : List Name) (stmts : List Stmt) (count : ℕ) → are_empty (statements names stmts) ≡ true
    → rest_empty names stmts count ≡ true
empty_later names [] zero empty = refl
empty_later names [] (suc count) empty = refl
empty_later names (first ∷ others) zero empty = empty
empty_later names (first ∷ others) (suc count) empty =
    empty_later names others count
    (and_parts (is_empty (statement names first)) (are_empty (statements names others)) empty).1

-- a statement that is no empty block, among those from an index on
not_empty_at : (names : List Name) (stmts : List Stmt) (index : ℕ) (stmt : Stmt) → slice_get stmts index ≡ Some stmt
    → is_empty (statement names stmt) ≡ false → are_empty (statements names stmts) ≡ false
not_empty_at names [] index stmt there filled = absurd (none-some stmt there)
not_empty_at names (first ∷ others) zero stmt there filled =
    let is : first ≡ stmt = same_Some first stmt there in
    and_left (is_empty (statement names first)) (are_empty (statements names others)) (rw is filled)
not_empty_at names (first ∷ others) (suc index) stmt there filled =
    and_right (is_empty (statement names first)) (are_empty (statements names others))
    (not_empty_at names others index stmt there filled)

not_empty_from : (names : List Name) (stmts : List Stmt) (from index : ℕ) (stmt : Stmt) → from ≤ index
    → slice_get stmts index ≡ Some stmt → is_empty (statement names stmt) ≡ false
    → rest_empty names stmts from ≡ false
not_empty_from names [] from index stmt before there filled = absurd (none-some stmt there)
not_empty_from names (first ∷ others) zero index stmt before there filled =
    not_empty_at names (first ∷ others) index stmt there filled
not_empty_from names (first ∷ others) (suc from) zero stmt before there filled = absurd (omega (arith, before))
not_empty_from names (first ∷ others) (suc from) (suc index) stmt before there filled =
    not_empty_from names others from index stmt (omega (arith, before)) there filled

-- there is a statement with an index
statement_at : (stmts : List Stmt) (index : ℕ) → index < length stmts
    → (stmt : Stmt) × (slice_get stmts index ≡ Some stmt)
statement_at [] index inside = absurd (omega (arith, inside))
statement_at (first ∷ others) zero inside = (first, refl)
statement_at (first ∷ others) (suc index) inside = statement_at others index (omega (arith, inside))

-- a statement is the last one exactly where the first statements, up to the last that is no empty block, end with it
pub is_last_reported : (names : List Name) (stmts : List Stmt) (count index : ℕ) → IsFilled stmts count
    → nat_le count (index + 1) ≡ rest_empty names stmts (index + 1)
is_last_reported names stmts count index filled = elim (cases_lt (index + 1) count) [
  | inl less ↦
      let there = statement_at stmts (count - 1) (omega (arith, less, filled.within)) in
      let empty = filled.last names (count - 1) there.0 (omega (arith, less)) there.1 in
      lt-leb count (index + 1) less
      ∙ sym (not_empty_from names stmts (index + 1) (count - 1) there.0 (omega (arith, less)) there.1 empty)
  | inr over ↦
      let rest = empty_later names (drop count stmts) (index + 1 - count) (filled.rest names) in
      let whole : count + (index + 1 - count) ≡ index + 1 = omega (arith, over) in
      le-leb count (index + 1) over ∙ sym (rw (drop-drop, whole) at rest)
]

abbrev mutual
  -- empty blocks alone do not end with `return`
  ends_not : (stmts : Statements) → are_empty stmts ≡ true → ends_with_return stmts ≡ false
  ends_not NoStatement empty = refl
  ends_not (NextStatement first others) empty =
      let both = and_parts (is_empty first) (are_empty others) empty in rw both.1 (returns_not first both.0)

  returns_not : (stmt : Statement) → is_empty stmt ≡ true → returns stmt ≡ false
  returns_not (BlockOf place block) empty = ends_not block empty
  returns_not (SkipOf index place) empty = refl
  returns_not (SuspendOf index place) empty = refl
  returns_not (AwaitOf index place guard) empty = refl
  returns_not (ReturnOf index place value) empty = absurd (true≢false (sym empty))
  returns_not (PrintOf index place value) empty = refl
  returns_not (IfOf index place condition first second) empty = refl
  returns_not (WhileOf index place condition body) empty = refl
  returns_not (DeclareOf index place type variable_place variable initial) empty = refl
  returns_not (AssignOf index place target side) empty = refl
  returns_not (DoOf index place side) empty = refl

-- the last statement that is no empty block tells whether all end with `return`
ends_at : (names : List Name) (stmts : List Stmt) (index : ℕ) (stmt : Stmt) → slice_get stmts index ≡ Some stmt
    → is_empty (statement names stmt) ≡ false → rest_empty names stmts (suc index) ≡ true
    → returns (statement names stmt) ≡ ends_with_return (statements names stmts)
ends_at names [] index stmt there filled rest = absurd (none-some stmt there)
ends_at names (first ∷ others) zero stmt there filled rest =
    let is : first ≡ stmt = same_Some first stmt there in rw (rest, is) refl
ends_at names (first ∷ others) (suc index) stmt there filled rest =
    rw (not_empty_at names others index stmt there filled) (ends_at names others index stmt there filled rest)

-- so does the one before the count
pub ends_with_last : (names : List Name) (stmts : List Stmt) (count : ℕ) (stmt : Stmt) (reported : Bool)
    → IsFilled stmts count → 0 < count → stmt ≡ get_or stmts (count - 1) stmt
    → reported ≡ returns (statement names stmt) → reported ≡ ends_with_return (statements names stmts)
ends_with_last names stmts count stmt reported filled some at is =
    let there = slice_get_read stmts (length stmts) (count - 1) stmt refl (omega (arith, some, filled.within)) at in
    let one : suc (count - 1) ≡ count = omega (arith, some) in
    is ∙ ends_at names stmts (count - 1) stmt there (filled.last names (count - 1) stmt (omega (arith, some)) there)
    (rw one (filled.rest names))

-- without a statement that is none, they do not end with it
pub ends_with_none : (names : List Name) (stmts : List Stmt) (count : ℕ) → IsFilled stmts count → count ≤ 0
    → false ≡ ends_with_return (statements names stmts)
ends_with_none names stmts count filled none =
    let is : count ≡ 0 = omega (arith, none) in
    sym (ends_not (statements names stmts) (rw is at filled.rest names))
