-- Operators after a first operand are read one precedence after another: those of a first one with their operands, then
-- those of each one that binds less, up to a last one. They are found, or one precedence is refused.
--
--   `FoundAfter`                                       the operators of one precedence are found
--   `Climbs`                                           those of each precedence are found
--   `FailsToClimb`                                     a precedence is refused, and those before it are found
use Rattle.std.specs.Prelude.{◌≡◌, ℕ, List}
use Rattle.abs_tree.specs.SyntaxViews.{expr_tree}
use Rattle.abs_tree.specs.declared.place.Place.{Place}
use Rattle.abs_tree.specs.declared.syntax.expression.Expr.{Expr}
use Rattle.abs_tree.specs.declared.source_error.SourceError.{SourceError}
use Rattle.abs_parser.specs.declared.operators.Precedence.{Precedence}
use Rattle.abs_parser.specs.Precedences.{looser, rest_of, operands_in}
use Rattle.abs_parser.specs.Readings.{Subgoal}
use Rattle.abs_parser.specs.ReaderAnswers.{FoundAs, IsRefused}
use Rattle.abs_parser.specs.Tokens.{Spot}
use Rattle.abs_parser.specs.TreesOf.{with_operators}

-- the operators of a precedence are found after an operand `first`, which begins at `place`; together they are `expr`
abbrev pub FoundAfter : Precedence → ℕ → List (List ℕ) → List (List ℕ) → Place → Expr → Expr → Spot → Spot → Type 0
FoundAfter precedence depth old new place first expr from end =
    FoundAs (rest_of precedence) depth old new from end
    (λ names inside. expr_tree names expr
    ≡ with_operators place (expr_tree names first) (operands_in precedence inside))

-- The operators of each precedence from `at` up to `to` are found after an operand `first`, which begins at `place`.
-- Together they are `expr`.
pub data Climbs : Precedence → Precedence → ℕ → List (List ℕ) → List (List ℕ) → Place → Expr → Expr → Spot → Spot
    → Type 0 where
  Last : {at to : Precedence} {depth : ℕ} {old new : List (List ℕ)} {place : Place} {first expr : Expr}
      {from end : Spot} → at ≡ to → FoundAfter at depth old new place first expr from end
      → Climbs at to depth old new place first expr from end
  Further : {at to : Precedence} {depth : ℕ} {old now new : List (List ℕ)} {place : Place} {first left expr : Expr}
      {from here end : Spot} → (at ≡ to → ⊥) → FoundAfter at depth old now place first left from here
      → Climbs (looser at) to depth now new place left expr here end
      → Climbs at to depth old new place first expr from end

-- The operators of a precedence from `at` up to `to` are refused, and those of each precedence before it are found,
-- after an operand `first`, which begins at `place`.
pub data FailsToClimb : Precedence → Precedence → ℕ → List (List ℕ) → Place → Expr → Spot → SourceError → Type 0 where
  Here : {at to : Precedence} {depth : ℕ} {old : List (List ℕ)} {place : Place} {first : Expr} {from : Spot}
      {error : SourceError} → IsRefused (Subgoal (rest_of at) depth) from error
      → FailsToClimb at to depth old place first from error
  Later : {at to : Precedence} {depth : ℕ} {old now : List (List ℕ)} {place : Place} {first left : Expr}
      {from here : Spot} {error : SourceError} → (at ≡ to → ⊥)
      → FoundAfter at depth old now place first left from here
      → FailsToClimb (looser at) to depth now place left here error
      → FailsToClimb at to depth old place first from error
