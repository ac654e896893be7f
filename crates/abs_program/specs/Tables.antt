-- Names with what they mean.
--
--   `Table`                names with what they mean, the newest first
--   `meaning_of`           what the newest entry of a name says
--   `with_first`           a table with a name, of which the first meaning counts
use Rattle.std.specs.Prelude.{List, [], ◌∷◌, Option, Some, None, is_some, if◌then◌else◌}
use Rattle.std.specs.Str.{bytes_eq}
use Rattle.abs_tree.specs.Syntax.{Name}

-- names with what they mean, the newest first
abbrev pub Table : Type 0 → Type 0
Table A = List (Name × A)

-- what the newest of these says of a name
abbrev pub meaning_of : {A : Type 0} → List (Name × A) → Name → Option A
meaning_of [] name = None
meaning_of (known ∷ others) name = if bytes_eq known.0 name then Some known.1 else meaning_of others name

-- the table with one more name, unless it has that name already
abbrev pub with_first : {A : Type 0} → List (Name × A) → Name → A → List (Name × A)
with_first known name meaning = if is_some (meaning_of known name) then known else (name, meaning) ∷ known
