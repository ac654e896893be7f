-- Printed forms within a limit. All but `within` serves proofs only: it says how the code builds a form piece by piece.
--
--   `within`               a form, if it is not longer than the limit
--   `Appends`              a form is appended, or the whole is longer than the limit
--   `AppendedSoFar`        the first pieces of a form are appended
use Rattle.std.specs.Prelude.{◌≡◌, ◌<◌, ◌≤◌, ◌++◌, nat_le, ⊤, ℕ, List, length, Option, Result, Some, None, Ok, Err, if◌then◌else◌}
use Rattle.abs_values.specs.declared.printed.Stop.{Stop}
use Rattle.abs_values.specs.declared.printed.Stop.TheVariants.{TooLong, Memory}

-- a form, if it has at most so many bytes
abbrev pub within : ℕ → List ℕ → Option (List ℕ)
within most form = if nat_le (length form) most then Some form else None

-- After these bytes the form is appended, and all is within the limit; or all is longer than the limit; or there is no
-- memory.
abbrev pub Appends : ℕ → List ℕ → List ℕ → Result ⊤ Stop → List ℕ → Type 0
Appends most old form (Ok done) new = (new ≡ old ++ form) × (length new ≤ most)
Appends most old form (Err TooLong) new = most < length (old ++ form)
Appends most old form (Err Memory) new = ⊤

-- after these bytes the first pieces of a form are appended, all is within the limit, and these pieces are left
pub record AppendedSoFar (most : ℕ) (old form now left : List ℕ) : Type 0 where
  pub so_far : now ++ left ≡ old ++ form
  pub fits : length now ≤ most
