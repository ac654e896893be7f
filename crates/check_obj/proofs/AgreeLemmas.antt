-- Whether the methods of an interface have the types that were met before, method by method.
--
--   `same_known`, `met_known`      an entry whose number was met, and what is met after it
--   `same_unknown`, `met_unknown`  an entry whose number was not met
--   `types_unknown`                its type, and those that were met, are of the table
--   `AgreeSoFar`                   the entries that are left settle whether all agree, and what is met after all
--   `agree_among`                  the type of the next entry is of the table
--   `agree_first`                  all entries do
--   `agree_skip`, `agree_next`     those after one that does not count do, and those after one that agrees
--   `agree_fails`, `agree_ends`    one that does not agree settles that not all do, and all do if none is left
--   `met_ends`                     what is met then
use Rattle.std.proofs.Common.{◌≡◌, ◌↔◌, ℕ, Bool, true, false, ◌&&◌, List, [], ◌∷◌, ◌++◌, Option, Some, None, option_map, if◌then◌else◌, nat_eq, All, sym, ap, ◌∙◌, subst}
use Rattle.std.specs.List.{list_any}
use Rattle.std.specs.Map.{lookup}
use Rattle.std.specs.Option.{is_some}
use Rattle.std.proofs.lemmas.List.{map-append}
use Rattle.std.proofs.lemmas.List.Elements.{All-head, All-tail}
use Rattle.std.proofs.lemmas.Map.Made.{lookup-map_values}
use Rattle.indexmap.proofs.CallerLemmas.{insert_entry-new}
use Rattle.indexmap.specs.IndexMap.{IndexMap, insert_entry}
use Rattle.abs_types.specs.PlainTypes.{PlainType}
use Rattle.abs_types.specs.TypeShapes.{type_at, IsAmong}
use Rattle.abs_types.specs.TypeTables.{types_in}
use Rattle.abs_types.specs.declared.table.TypeTable.{TypeTable}
use Rattle.abs_types.specs.declared.table.shape.TypeIndex.{TypeIndex}
use Rattle.check_obj.proofs.MethodRowLemmas.{entry_at, IsEntry}
use Rattle.check_obj.proofs.SeveralLemmas.{types_push}
use Rattle.check_obj.proofs.SameTypeLemmas.{same_tells}
use Rattle.check_obj.specs.MethodsMet.{entries_agree, met_after, same_or_new, typed_row, with_entry, HasTypes}

-- what is found among typed entries
typed_found : (table : TypeTable) (met : List (ℕ × TypeIndex)) (number : ℕ) (found : Option TypeIndex)
    → lookup (nat_eq number) met ≡ found
    → lookup (nat_eq number) (typed_row table met) ≡ option_map (type_at (types_in table)) found
typed_found table met number found is =
    lookup-map_values (type_at (types_in table)) (nat_eq number) met
    ∙ ap (option_map (type_at (types_in table))) is

-- an entry whose number was met has the type that was met, if that is reported
pub same_known : (table : TypeTable) (met : List (ℕ × TypeIndex)) (number : ℕ) (index known : TypeIndex) (reported : Bool)
    → lookup (nat_eq number) met ≡ Some known
    → ((reported ≡ true) ↔ (type_at (types_in table) known ≡ type_at (types_in table) index))
    → reported ≡ same_or_new (type_at (types_in table) index) (lookup (nat_eq number) (typed_row table met))
same_known table met number index known reported is tells =
    same_tells reported (type_at (types_in table) known) (type_at (types_in table) index) tells
    ∙ ap (same_or_new (type_at (types_in table) index)) (sym (typed_found table met number (Some known) is))

-- what is met after an entry, if this was found before
after_found : (table : TypeTable) (met : List (ℕ × TypeIndex)) (number : ℕ) (index : TypeIndex)
    (found : Option TypeIndex) → lookup (nat_eq number) met ≡ found
    → with_entry (typed_row table met) (number, type_at (types_in table) index)
    ≡ (if is_some (option_map (type_at (types_in table)) found) then typed_row table met
    else typed_row table met ++ (number, type_at (types_in table) index) ∷ [])
after_found table met number index found is =
    ap (λ (known : Option PlainType). if is_some known then typed_row table met
    else typed_row table met ++ (number, type_at (types_in table) index) ∷ []) (typed_found table met number found is)

-- nothing more is met after it
pub met_known : (table : TypeTable) (met : List (ℕ × TypeIndex)) (number : ℕ) (index known : TypeIndex)
    → lookup (nat_eq number) met ≡ Some known
    → typed_row table met ≡ with_entry (typed_row table met) (number, type_at (types_in table) index)
met_known table met number index known is = sym (after_found table met number index (Some known) is)

-- an entry whose number was not met agrees
pub same_unknown : (table : TypeTable) (met : List (ℕ × TypeIndex)) (number : ℕ) (index : TypeIndex)
    → lookup (nat_eq number) met ≡ None
    → true ≡ same_or_new (type_at (types_in table) index) (lookup (nat_eq number) (typed_row table met))
same_unknown table met number index none =
    ap (same_or_new (type_at (types_in table) index)) (sym (typed_found table met number None none))

-- it is met after it
pub met_unknown : {S : Type 0} {after : List (ℕ × TypeIndex)} (table : TypeTable) (met : IndexMap ℕ TypeIndex S)
    (number : ℕ) (index : TypeIndex) → lookup (nat_eq number) met.entries ≡ None
    → after ≡ insert_entry nat_eq met.entries number index
    → typed_row table after ≡ with_entry (typed_row table met.entries) (number, type_at (types_in table) index)
met_unknown table met number index none inserted =
    ap (typed_row table) (inserted ∙ insert_entry-new nat_eq met number index none)
    ∙ (map-append (entry_at (types_in table)) met.entries ((number, index) ∷ [])
    ∙ sym (after_found table met.entries number index None none))

-- its type is of the table, and so are all types that are met then
pub types_unknown : {S : Type 0} {after : List (ℕ × TypeIndex)} (table : TypeTable) (met : IndexMap ℕ TypeIndex S)
    (number : ℕ) (index : TypeIndex) → HasTypes table met.entries → IsAmong (types_in table) index
    → lookup (nat_eq number) met.entries ≡ None → after ≡ insert_entry nat_eq met.entries number index
    → HasTypes table after
types_unknown table met number index among one none inserted =
    rw (inserted ∙ insert_entry-new nat_eq met number index none) (types_push met.entries number index among one)

-- The entries that are left settle whether all agree, and what is met after all.
pub record AgreeSoFar (table : TypeTable) (several : List ℕ) (was : List (ℕ × TypeIndex))
    (row : List (ℕ × PlainType)) (met left : List (ℕ × TypeIndex)) : Type 0 where
  pub among_left : HasTypes table left
  pub among_met : HasTypes table met
  pub agreed : entries_agree several (typed_row table met) (typed_row table left)
      ≡ entries_agree several (typed_row table was) row
  pub after : met_after several (typed_row table met) (typed_row table left)
      ≡ met_after several (typed_row table was) row

-- all entries do
pub agree_first : {table : TypeTable} {several : List ℕ} {row : List (ℕ × PlainType)}
    {was asked left : List (ℕ × TypeIndex)} → HasTypes table asked → HasTypes table was
    → typed_row table asked ≡ row → left ≡ asked → AgreeSoFar table several was row was left
agree_first {table} {several} {row} {was} {asked} {left} among_row among_was are same = rw same (record {
  among_left = among_row;
  among_met = among_was;
  agreed = ap (entries_agree several (typed_row table was)) are;
  after = ap (met_after several (typed_row table was)) are;
})

-- the type of the next entry is of the table
pub agree_among : {table : TypeTable} {several : List ℕ} {row : List (ℕ × PlainType)}
    {was met left rest : List (ℕ × TypeIndex)} {number : ℕ} {index : TypeIndex}
    → AgreeSoFar table several was row met left → left ≡ (number, index) ∷ rest
    → IsAmong (types_in table) index
agree_among {table} {several} {row} {was} {met} {left} {rest} {number} {index} so same =
    All-head (IsEntry (types_in table)) (number, index) rest
    (subst (λ (entries : List (ℕ × TypeIndex)). All (IsEntry (types_in table)) entries) same so.among_left.among)

-- the types of the entries after it are, too
rest_among : {table : TypeTable} {several : List ℕ} {row : List (ℕ × PlainType)}
    {was met left rest : List (ℕ × TypeIndex)} {number : ℕ} {index : TypeIndex}
    → AgreeSoFar table several was row met left → left ≡ (number, index) ∷ rest
    → HasTypes table rest
rest_among {table} {several} {row} {was} {met} {left} {rest} {number} {index} so same = record {
  among = All-tail (IsEntry (types_in table)) (number, index) rest
      (subst (λ (entries : List (ℕ × TypeIndex)). All (IsEntry (types_in table)) entries) same so.among_left.among);
}

-- whether all agree, by whether the next entry counts
agree_by : {table : TypeTable} {several : List ℕ} {row : List (ℕ × PlainType)}
    {was met left rest : List (ℕ × TypeIndex)} {number : ℕ} {index : TypeIndex}
    (counts : Bool) → AgreeSoFar table several was row met left → left ≡ (number, index) ∷ rest
    → counts ≡ list_any (nat_eq number) several
    → (if counts then
    same_or_new (type_at (types_in table) index) (lookup (nat_eq number) (typed_row table met))
    && entries_agree several (with_entry (typed_row table met) (number, type_at (types_in table) index))
    (typed_row table rest)
    else entries_agree several (typed_row table met) (typed_row table rest))
    ≡ entries_agree several (typed_row table was) row
agree_by {table} {several} {row} {was} {met} {left} {rest} {number} {index} counts so same is =
    ap (λ (reported : Bool). if reported then
    same_or_new (type_at (types_in table) index) (lookup (nat_eq number) (typed_row table met))
    && entries_agree several (with_entry (typed_row table met) (number, type_at (types_in table) index))
    (typed_row table rest)
    else entries_agree several (typed_row table met) (typed_row table rest)) is
    ∙ (ap (λ (entries : List (ℕ × TypeIndex)). entries_agree several (typed_row table met) (typed_row table entries))
    (sym same) ∙ so.agreed)

-- what is met after all, by whether the next entry counts
after_by : {table : TypeTable} {several : List ℕ} {row : List (ℕ × PlainType)}
    {was met left rest : List (ℕ × TypeIndex)} {number : ℕ} {index : TypeIndex}
    (counts : Bool) → AgreeSoFar table several was row met left → left ≡ (number, index) ∷ rest
    → counts ≡ list_any (nat_eq number) several
    → (if counts then
    met_after several (with_entry (typed_row table met) (number, type_at (types_in table) index))
    (typed_row table rest)
    else met_after several (typed_row table met) (typed_row table rest))
    ≡ met_after several (typed_row table was) row
after_by {table} {several} {row} {was} {met} {left} {rest} {number} {index} counts so same is =
    ap (λ (reported : Bool). if reported then
    met_after several (with_entry (typed_row table met) (number, type_at (types_in table) index))
    (typed_row table rest)
    else met_after several (typed_row table met) (typed_row table rest)) is
    ∙ (ap (λ (entries : List (ℕ × TypeIndex)). met_after several (typed_row table met) (typed_row table entries))
    (sym same) ∙ so.after)

-- those after one that does not count do
pub agree_skip : {table : TypeTable} {several : List ℕ} {row : List (ℕ × PlainType)}
    {was met left rest : List (ℕ × TypeIndex)} {number : ℕ} {index : TypeIndex}
    (counts : Bool) → AgreeSoFar table several was row met left → left ≡ (number, index) ∷ rest
    → counts ≡ list_any (nat_eq number) several → counts ≡ false → AgreeSoFar table several was row met rest
agree_skip counts so same is skipped = record {
  among_left = rest_among so same;
  among_met = so.among_met;
  agreed = agree_by false so same (sym skipped ∙ is);
  after = after_by false so same (sym skipped ∙ is);
}

-- those after one that agrees do
pub agree_next : {table : TypeTable} {several : List ℕ} {row : List (ℕ × PlainType)}
    {was met left rest after : List (ℕ × TypeIndex)} {number : ℕ} {index : TypeIndex}
    (counts reported : Bool) → AgreeSoFar table several was row met left
    → left ≡ (number, index) ∷ rest → counts ≡ list_any (nat_eq number) several → counts ≡ true
    → reported ≡ same_or_new (type_at (types_in table) index) (lookup (nat_eq number) (typed_row table met))
    → reported ≡ true → HasTypes table after
    → typed_row table after ≡ with_entry (typed_row table met) (number, type_at (types_in table) index)
    → AgreeSoFar table several was row after rest
agree_next {table} {several} {row} {was} {met} {left} {rest} {after} {number} {index} counts reported so same is counted
    tells agrees among met_is = record {
      among_left = rest_among so same;
      among_met = among;
      agreed = ap (λ (entries : List (ℕ × PlainType)). entries_agree several entries (typed_row table rest)) met_is
          ∙ (ap (λ (first : Bool). first
          && entries_agree several (with_entry (typed_row table met) (number, type_at (types_in table) index))
          (typed_row table rest)) (sym agrees ∙ tells) ∙ agree_by true so same (sym counted ∙ is));
      after = ap (λ (entries : List (ℕ × PlainType)). met_after several entries (typed_row table rest)) met_is
          ∙ after_by true so same (sym counted ∙ is);
    }

-- one that does not agree settles that not all do
pub agree_fails : {table : TypeTable} {several : List ℕ} {row : List (ℕ × PlainType)}
    {was met left rest : List (ℕ × TypeIndex)} {number : ℕ} {index : TypeIndex}
    (counts reported : Bool) → AgreeSoFar table several was row met left
    → left ≡ (number, index) ∷ rest → counts ≡ list_any (nat_eq number) several → counts ≡ true
    → reported ≡ same_or_new (type_at (types_in table) index) (lookup (nat_eq number) (typed_row table met))
    → reported ≡ false → false ≡ entries_agree several (typed_row table was) row
agree_fails {table} {several} {row} {was} {met} {left} {rest} {number} {index} counts reported so same is counted tells
    fails =
    ap (λ (first : Bool). first
    && entries_agree several (with_entry (typed_row table met) (number, type_at (types_in table) index))
    (typed_row table rest)) (sym fails ∙ tells)
    ∙ agree_by true so same (sym counted ∙ is)

-- all agree, if none is left
--   `met_ends`                     what is met then
pub agree_ends : {table : TypeTable} {several : List ℕ} {row : List (ℕ × PlainType)}
    {was met left : List (ℕ × TypeIndex)}
    → AgreeSoFar table several was row met left → left ≡ []
    → true ≡ entries_agree several (typed_row table was) row
agree_ends {table} {several} {row} {was} {met} {left} so none =
    ap (λ (entries : List (ℕ × TypeIndex)). entries_agree several (typed_row table met) (typed_row table entries))
    (sym none) ∙ so.agreed

-- what is met after all, if none is left
--   `met_ends`                     what is met then
pub met_ends : {table : TypeTable} {several : List ℕ} {row : List (ℕ × PlainType)}
    {was met left : List (ℕ × TypeIndex)}
    → AgreeSoFar table several was row met left → left ≡ []
    → typed_row table met ≡ met_after several (typed_row table was) row
met_ends {table} {several} {row} {was} {met} {left} so none =
    ap (λ (entries : List (ℕ × TypeIndex)). met_after several (typed_row table met) (typed_row table entries))
    (sym none) ∙ so.after
