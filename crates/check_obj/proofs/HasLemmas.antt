-- Whether a row has all methods of another one.
--
--   `HasSoFar`                     the entries that are left settle whether a row has all
--   `has_first`, `has_next`        all entries do, and those after one that it has
--   `found_among`                  the type of an entry that is found is of the table
--   `has_differs`, `has_none`      one of another type, or one that is not there, settles that it has not all
use Rattle.std.proofs.Common.{◌≡◌, ◌↔◌, ℕ, Bool, true, false, ◌&&◌, List, [], ◌∷◌, Option, Some, None, option_map, if◌then◌else◌, nat_eq, All, refl, sym, ap, ◌∙◌, subst}
use Rattle.std.specs.Map.{lookup}
use Rattle.std.proofs.lemmas.List.Elements.{All-head, All-tail}
use Rattle.std.proofs.lemmas.Map.Made.{lookup-map_values}
use Rattle.std.proofs.lemmas.Option.{none-some, same_Some}
use Rattle.abs_types.specs.PlainTypes.{PlainType}
use Rattle.abs_types.specs.TypeShapes.{type_at, IsAmong}
use Rattle.abs_types.specs.TypeTables.{types_in}
use Rattle.abs_types.specs.declared.table.TypeTable.{TypeTable}
use Rattle.abs_types.specs.declared.table.shape.TypeIndex.{TypeIndex}
use Rattle.check_obj.proofs.MethodRowLemmas.{IsEntry}
use Rattle.check_obj.proofs.SameTypeLemmas.{same_tells}
use Rattle.check_obj.specs.MethodsMet.{has_entries, has_entry, is_same, typed_row, HasTypes}

-- The entries that are left settle whether a row has all.
pub record HasSoFar (table : TypeTable) (own asked left : List (ℕ × TypeIndex)) : Type 0 where
  pub among : HasTypes table left
  pub settled : has_entries (typed_row table own) (typed_row table left)
      ≡ has_entries (typed_row table own) (typed_row table asked)

-- all entries do
pub has_first : {table : TypeTable} {own asked left : List (ℕ × TypeIndex)} → HasTypes table asked → left ≡ asked
    → HasSoFar table own asked left
has_first {table} {own} {asked} among same = rw same (record { among = among; settled = refl })

-- the type of an entry that is found is of the table: the case of one more entry
among_step : (types : List PlainType) (test : ℕ → Bool) (first : ℕ × TypeIndex) (others : List (ℕ × TypeIndex))
    (found : TypeIndex) (reported : Bool) → All (IsEntry types) (first ∷ others)
    → (lookup test others ≡ Some found → IsAmong types found)
    → (if reported then Some first.1 else lookup test others) ≡ Some found → IsAmong types found
among_step types test first others found true among rest is =
    subst (IsAmong types) (same_Some first.1 found is) (All-head (IsEntry types) first others among)
among_step types test first others found false among rest is = rest is

-- the type of an entry that is found is of the table
pub found_among : (types : List PlainType) (row : List (ℕ × TypeIndex)) (test : ℕ → Bool) (found : TypeIndex)
    → All (IsEntry types) row → lookup test row ≡ Some found → IsAmong types found
found_among types [] test found among is = absurd (none-some found is)
found_among types (first ∷ others) test found among is =
    among_step types test first others found (test first.0) among
    (found_among types others test found (All-tail (IsEntry types) first others among)) is

-- whether a row has an entry, by what a look-up finds
has_by : (table : TypeTable) (own : List (ℕ × TypeIndex)) (number : ℕ) (index : TypeIndex) (found : Option TypeIndex)
    → lookup (nat_eq number) own ≡ found
    → has_entry (typed_row table own) (number, type_at (types_in table) index)
    ≡ is_same (type_at (types_in table) index) (option_map (type_at (types_in table)) found)
has_by table own number index found is =
    ap (is_same (type_at (types_in table) index))
    (lookup-map_values (type_at (types_in table)) (nat_eq number) own
    ∙ ap (option_map (type_at (types_in table))) is)

-- the next entry and those after it settle whether a row has all
settled_by : {table : TypeTable} {own asked left rest : List (ℕ × TypeIndex)} {number : ℕ} {index : TypeIndex}
    (found : Option TypeIndex) → HasSoFar table own asked left → left ≡ (number, index) ∷ rest
    → lookup (nat_eq number) own ≡ found
    → is_same (type_at (types_in table) index) (option_map (type_at (types_in table)) found)
    && has_entries (typed_row table own) (typed_row table rest)
    ≡ has_entries (typed_row table own) (typed_row table asked)
settled_by {table} {own} {asked} {left} {rest} {number} {index} found so same is =
    ap (λ (reported : Bool). reported && has_entries (typed_row table own) (typed_row table rest))
    (sym (has_by table own number index found is))
    ∙ (ap (λ (row : List (ℕ × TypeIndex)). has_entries (typed_row table own) (typed_row table row)) (sym same)
    ∙ so.settled)

-- the entries after one that a row has settle whether it has all
pub has_next : {table : TypeTable} {own asked left rest : List (ℕ × TypeIndex)} {number : ℕ} {index : TypeIndex}
    (found : TypeIndex) (reported : Bool) → HasSoFar table own asked left → left ≡ (number, index) ∷ rest
    → lookup (nat_eq number) own ≡ Some found
    → ((reported ≡ true) ↔ (type_at (types_in table) found ≡ type_at (types_in table) index)) → reported ≡ true
    → HasSoFar table own asked rest
has_next {table} {own} {asked} {left} {rest} {number} {index} found reported so same is tells equal = record {
  among = record {
    among = All-tail (IsEntry (types_in table)) (number, index) rest
        (subst (λ (row : List (ℕ × TypeIndex)). All (IsEntry (types_in table)) row) same so.among.among);
  };
  settled = ap (λ (first : Bool). first && has_entries (typed_row table own) (typed_row table rest))
      (sym equal ∙ same_tells reported (type_at (types_in table) found) (type_at (types_in table) index) tells)
      ∙ settled_by (Some found) so same is;
}

-- one of another type settles that a row has not all
pub has_differs : {table : TypeTable} {own asked left rest : List (ℕ × TypeIndex)} {number : ℕ} {index : TypeIndex}
    (found : TypeIndex) (reported : Bool) → HasSoFar table own asked left → left ≡ (number, index) ∷ rest
    → lookup (nat_eq number) own ≡ Some found
    → ((reported ≡ true) ↔ (type_at (types_in table) found ≡ type_at (types_in table) index)) → reported ≡ false
    → false ≡ has_entries (typed_row table own) (typed_row table asked)
has_differs {table} {own} {asked} {left} {rest} {number} {index} found reported so same is tells differ =
    ap (λ (first : Bool). first && has_entries (typed_row table own) (typed_row table rest))
    (sym differ ∙ same_tells reported (type_at (types_in table) found) (type_at (types_in table) index) tells)
    ∙ settled_by (Some found) so same is

-- one that is not there settles it too
pub has_none : {table : TypeTable} {own asked left rest : List (ℕ × TypeIndex)} {number : ℕ} {index : TypeIndex}
    → HasSoFar table own asked left → left ≡ (number, index) ∷ rest → lookup (nat_eq number) own ≡ None
    → false ≡ has_entries (typed_row table own) (typed_row table asked)
has_none so same is = settled_by None so same is
