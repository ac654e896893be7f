-- What a source tells of its names, and what the selection of a name does.
--
--   `Under`                what a source holds under a name, as far as it tells
--   `Selects`              what is left to read after the name was selected
--   `IsNotHeld`            the source holds nothing under the name
use Rattle.std.specs.Prelude.{◌≡◌, ℕ, List, ⊤, Option, Some, None}

-- what a source holds under a name: it does not tell, it holds nothing, or it holds these bytes
pub data Under : Type 0 where
  Unstated : Under
  Absent : Under
  Holding : List ℕ → Under

-- the name was selected: if its bytes are reported, exactly they are left to read
abbrev pub Selects : Under → Option (List ℕ) → Type 0
Selects Unstated left = ⊤
Selects Absent left = ⊥
Selects (Holding bytes) None = ⊥
Selects (Holding bytes) (Some left) = left ≡ bytes

-- if the source tells what it holds under the name, it holds nothing
abbrev pub IsNotHeld : Under → Type 0
IsNotHeld Unstated = ⊤
IsNotHeld Absent = ⊤
IsNotHeld (Holding bytes) = ⊥
