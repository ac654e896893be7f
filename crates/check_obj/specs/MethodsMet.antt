-- Rows of methods that are compared. These words serve contracts of this crate alone.
--
--   `typed_row`                    a row with the types for which its indices stand
--   `HasTypes`                     the types of a row are of the table
--   `IsKnown`                      a number has one type that is known, unless it is reported to have several
--   `has_entry`, `has_entries`     whether a row has the same type under a number, and under those of another row
--   `same_or_new`, `with_entry`    whether an entry has the type that was met, and what is met after it
--   `entries_agree`, `met_after`   the same of several entries, of which only those with names of several types count
--   `entries_in`                   the entries of the methods of a declaration
use Rattle.std.specs.Prelude.{◌≡◌, ℕ, Bool, true, false, ◌&&◌, List, [], ◌∷◌, ◌++◌, map, nat_eq, All, Option, Some, None, is_some, if◌then◌else◌}
use Rattle.std.specs.List.{list_all, list_any}
use Rattle.std.specs.Map.{lookup}
use Rattle.abs_types.specs.InterfacesMet.{same_type}
use Rattle.abs_types.specs.Methods.{own_signatures}
use Rattle.abs_types.specs.PlainTypes.{PlainType}
use Rattle.abs_types.specs.TypeShapes.{type_at, IsAmong}
use Rattle.abs_types.specs.TypeTables.{declarations_of, types_in}
use Rattle.abs_types.specs.declared.table.TypeTable.{TypeTable}
use Rattle.abs_types.specs.declared.table.shape.TypeIndex.{TypeIndex}
use Rattle.check_obj.specs.MethodRows.{row_entry}

-- a row with the types for which its indices stand
abbrev pub typed_row : TypeTable → List (ℕ × TypeIndex) → List (ℕ × PlainType)
typed_row table row = map (λ (entry : ℕ × TypeIndex). (entry.0, type_at (types_in table) entry.1)) row

-- The types of a row are of the table.
pub record HasTypes (table : TypeTable) (row : List (ℕ × TypeIndex)) : Type 0 where
  pub among : All (λ (entry : ℕ × TypeIndex). IsAmong (types_in table) entry.1) row

-- The type of a number is known, unless the number is reported to have several.
pub record IsKnown (table : TypeTable) (known : List (ℕ × TypeIndex)) (several : List ℕ) (number : ℕ)
    (type : PlainType) : Type 0 where
  pub is : list_any (nat_eq number) several ≡ false → lookup (nat_eq number) (typed_row table known) ≡ Some type

-- whether a type that is found is the same as another one
abbrev pub is_same : PlainType → Option PlainType → Bool
is_same wanted (Some found) = same_type found wanted
is_same wanted None = false

-- whether a row has the same type under the number of an entry, and under those of all entries of another row
abbrev pub has_entry : List (ℕ × PlainType) → ℕ × PlainType → Bool
has_entry own wanted = is_same wanted.1 (lookup (nat_eq wanted.0) own)

abbrev pub has_entries : List (ℕ × PlainType) → List (ℕ × PlainType) → Bool
has_entries own asked = list_all (has_entry own) asked

-- whether an entry has the type that was met under its number, if one was
abbrev pub same_or_new : PlainType → Option PlainType → Bool
same_or_new type (Some known) = same_type known type
same_or_new type None = true

-- what is met after an entry: the first type under each number
abbrev pub with_entry : List (ℕ × PlainType) → ℕ × PlainType → List (ℕ × PlainType)
with_entry met entry = if is_some (lookup (nat_eq entry.0) met) then met else met ++ entry ∷ []

-- whether entries have the types that were met, where only the numbers of several types count
abbrev pub entries_agree : List ℕ → List (ℕ × PlainType) → List (ℕ × PlainType) → Bool
entries_agree several met [] = true
entries_agree several met (first ∷ others) =
    if list_any (nat_eq first.0) several then
    same_or_new first.1 (lookup (nat_eq first.0) met) && entries_agree several (with_entry met first) others
    else entries_agree several met others

-- what is met after these entries
abbrev pub met_after : List ℕ → List (ℕ × PlainType) → List (ℕ × PlainType) → List (ℕ × PlainType)
met_after several met [] = met
met_after several met (first ∷ others) =
    if list_any (nat_eq first.0) several then met_after several (with_entry met first) others
    else met_after several met others

-- the entries of the methods of the declaration with an index
abbrev pub entries_in : TypeTable → ℕ → List (ℕ × PlainType)
entries_in table index =
    map (row_entry table.program.now.symbols) (own_signatures (declarations_of table) index)
