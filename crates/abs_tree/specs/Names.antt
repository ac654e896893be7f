-- The table of a program's names.
--
--   `with_name`, `by_first_appearance`     a table with one more name, and the table of some names
--   `number_of_name`, `symbol_in`          the number of a name, and its symbol
--   `name_of`                              the name of a symbol
use Rattle.std.specs.Prelude.{ℕ, List, [], ◌∷◌, ◌++◌, fold, Option, option_map, slice_get, unwrap_or, if◌then◌else◌}
use Rattle.std.specs.List.{list_any, position, position_or_len}
use Rattle.std.specs.Str.{bytes_eq}
use Rattle.abs_tree.specs.declared.symbol.Symbol.{Symbol}

-- a table after one more name appears; a known name keeps its place
abbrev pub with_name : List (List ℕ) → List ℕ → List (List ℕ)
with_name names name = if list_any (bytes_eq name) names then names else names ++ name ∷ []

-- the number of a name: its index, or for a new name the next index
abbrev pub number_of_name : List (List ℕ) → List ℕ → ℕ
number_of_name names name = position_or_len (bytes_eq name) names

-- each name once, in the order of first appearance
abbrev pub by_first_appearance : List (List ℕ) → List (List ℕ)
by_first_appearance names = fold with_name [] names

-- the symbol of a name, if the table has it
abbrev pub symbol_in : List (List ℕ) → List ℕ → Option Symbol
symbol_in names name = option_map (λ number. record { 0 = number }) (position (bytes_eq name) names)

-- the name of a symbol; one that the table does not have gets the empty name
abbrev pub name_of : List (List ℕ) → Symbol → List ℕ
name_of names symbol = unwrap_or (slice_get names symbol.0) []
