-- Names by their numbers, with what they mean. They serve proofs only.
--
--   `looked_up`            what the newest of these says of a number
--   `newest_of`            what the newest of these means
--   `SaysTheSame`          a table has room for as many numbers, or more, of which each means the same
use Rattle.std.specs.Prelude.{◌≡◌, ◌≤◌, ℕ, length, get_or, List, [], ◌∷◌, Option, Some, None, nat_eq, if◌then◌else◌}

-- what the newest of these says of a number
abbrev pub looked_up : {A : Type 0} → List (ℕ × A) → ℕ → Option A
looked_up [] number = None
looked_up (known ∷ others) number = if nat_eq known.0 number then Some known.1 else looked_up others number

-- what the newest of these means
abbrev pub newest_of : {A : Type 0} → List (ℕ × A) → Option A
newest_of [] = None
newest_of (known ∷ others) = Some known.1

-- A table has room for as many numbers as before, or more, and each of them means the same.
pub record SaysTheSame {A : Type 0} (before now : List (Option A)) : Type 0 where
  pub longer : length before ≤ length now
  pub same : (number : ℕ) → get_or now number None ≡ get_or before number None
