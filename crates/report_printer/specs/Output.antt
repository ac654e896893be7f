-- What is written, unless memory runs out.
--
--   `with_piece`               what is written, with one piece more
--   `Writes`                   just one piece is written, unless memory runs out
use Rattle.std.specs.Prelude.{◌≡◌, ◌⊎◌, ℕ, List, ◌++◌, Option, Some, None}

-- What is written, with one piece more. If a piece was missing before, nothing is added.
unfoldable pub with_piece : Option (List ℕ) → List ℕ → Option (List ℕ)
with_piece None piece = None
with_piece (Some out) piece = Some (out ++ piece)

-- Just one piece is written, or one is missing now.
pub record Writes (before : Option (List ℕ)) (piece : List ℕ) (after : Option (List ℕ)) : Type 0 where
  pub is : (after ≡ None) ⊎ (after ≡ with_piece before piece)
