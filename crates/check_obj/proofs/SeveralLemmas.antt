-- The names with which interfaces declare methods of several types.
--
--   `NotedSoFar`                   the methods of a row before those that are left are noted
--   `noted_first`                  it is so before the first one
--   `noted_same`, `noted_new`      it is so after one whose type is known, and after one with a new name
--   `noted_several`                it is so after one of another type, whose name is reported
--   `types_push`                   the types of entries and one more are of the table
--   `noted_all`                    all are noted, if none is left
use Rattle.std.proofs.Common.{◌≡◌, ◌↔◌, ℕ, Bool, true, false, List, [], ◌∷◌, ◌++◌, Some, None, option_map, if◌then◌else◌, nat_eq, All, refl, sym, ap, ◌∙◌, subst, true≢false, eqb-true, eq-eqb}
use Rattle.std.specs.List.{list_any}
use Rattle.std.specs.Map.{lookup}
use Rattle.std.proofs.lemmas.Bool.{or_parts}
use Rattle.std.proofs.lemmas.Cmp.{nat_eq_equiv}
use Rattle.std.proofs.lemmas.List.{append-nil, append_assoc, map-append}
use Rattle.std.proofs.lemmas.List.Elements.{All-head, All-nil, All-push, All-tail, All-weaker}
use Rattle.std.proofs.lemmas.List.Folds.{list_any-append}
use Rattle.std.proofs.lemmas.Map.Made.{lookup-map_values}
use Rattle.std.proofs.lemmas.Map.Views.{list_any-from_Contains}
use Rattle.indexmap.proofs.CallerLemmas.{insert_entry-new, Contains-insert_key}
use Rattle.indexmap.specs.IndexMap.{IndexMap, insert_entry}
use Rattle.indexmap.specs.IndexSet.{insert_key}
use Rattle.abs_types.specs.PlainTypes.{PlainType}
use Rattle.abs_types.specs.TypeShapes.{type_at, IsAmong}
use Rattle.abs_types.specs.TypeTables.{types_in}
use Rattle.abs_types.specs.declared.table.TypeTable.{TypeTable}
use Rattle.abs_types.specs.declared.table.shape.TypeIndex.{TypeIndex}
use Rattle.check_obj.proofs.MethodRowLemmas.{entry_at, IsEntry}
use Rattle.check_obj.specs.MethodsMet.{typed_row, HasTypes, IsKnown}
use Rattle.list_facts.proofs.LookupLemmas.{lookup-still_found, lookup-last_found}

-- the type of an entry is known, unless its number is reported to have several
abbrev pub IsKnownEntry : TypeTable → List (ℕ × TypeIndex) → List ℕ → ℕ × PlainType → Type 0
IsKnownEntry table known several entry = IsKnown table known several entry.0 entry.1

-- what was known is known
abbrev pub StayKnown : TypeTable → List (ℕ × TypeIndex) → List ℕ → List (ℕ × TypeIndex) → List ℕ → Type 0
StayKnown table was was_several known several =
    (number : ℕ) (type : PlainType) → IsKnown table was was_several number type
    → IsKnown table known several number type

-- The methods of a row before those that are left are noted.
pub record NotedSoFar (table : TypeTable) (row was : List (ℕ × TypeIndex)) (was_several : List ℕ)
    (known : List (ℕ × TypeIndex)) (several : List ℕ) (left : List (ℕ × TypeIndex)) : Type 0 where
  pub among_left : HasTypes table left
  pub among_known : HasTypes table known
  pub kept : StayKnown table was was_several known several
  pub done : List (ℕ × TypeIndex)
  pub row_is : row ≡ done ++ left
  pub noted : All (IsKnownEntry table known several) (typed_row table done)

-- it is so before the first one
pub noted_first : {table : TypeTable} {row was left : List (ℕ × TypeIndex)} {several : List ℕ} → HasTypes table row
    → HasTypes table was → left ≡ row → NotedSoFar table row was several was several left
noted_first {table} {row} {was} {left} {several} row_among among same = record {
  among_left = rw same row_among;
  among_known = among;
  kept = λ number type is. is;
  done = [];
  row_is = sym same;
  noted = All-nil (IsKnownEntry table was several);
}

-- it is so after one more, which is known
noted_next : {table : TypeTable} {row was left rest known after : List (ℕ × TypeIndex)}
    {was_several several after_several : List ℕ} {number : ℕ} {index : TypeIndex}
    → NotedSoFar table row was was_several known several left → left ≡ (number, index) ∷ rest → HasTypes table after
    → StayKnown table known several after after_several
    → IsKnown table after after_several number (type_at (types_in table) index)
    → NotedSoFar table row was was_several after after_several rest
noted_next {table} {row} {was} {left} {rest} {known} {after} {was_several} {several} {after_several} {number} {index} so
    same among stay is = record {
      among_left = record {
        among = All-tail (IsEntry (types_in table)) (number, index) rest
            (subst (λ (entries : List (ℕ × TypeIndex)). All (IsEntry (types_in table)) entries) same
            so.among_left.among);
      };
      among_known = among;
      kept = λ at type was_known. stay at type (so.kept at type was_known);
      done = so.done ++ (number, index) ∷ [];
      row_is = so.row_is ∙ (ap (λ (entries : List (ℕ × TypeIndex)). so.done ++ entries) same
          ∙ sym (append_assoc so.done ((number, index) ∷ []) rest));
      noted = rw (map-append (entry_at (types_in table)) so.done ((number, index) ∷ []))
          (All-push (IsKnownEntry table after after_several) (typed_row table so.done)
          (number, type_at (types_in table) index)
          (All-weaker (IsKnownEntry table known several) (IsKnownEntry table after after_several)
          (λ entry. stay entry.0 entry.1) (typed_row table so.done) so.noted) is);
    }

-- the type of the next one is of the table
left_among : {table : TypeTable} {row was left rest known : List (ℕ × TypeIndex)}
    {was_several several : List ℕ} {number : ℕ} {index : TypeIndex}
    → NotedSoFar table row was was_several known several left → left ≡ (number, index) ∷ rest
    → IsAmong (types_in table) index
left_among {table} {row} {was} {left} {rest} {known} {was_several} {several} {number} {index} so same =
    All-head (IsEntry (types_in table)) (number, index) rest
    (subst (λ (entries : List (ℕ × TypeIndex)). All (IsEntry (types_in table)) entries) same so.among_left.among)

-- it is so after one whose type is known
pub noted_same : {table : TypeTable} {row was left rest known : List (ℕ × TypeIndex)}
    {was_several several : List ℕ} {number : ℕ} {index : TypeIndex} (first : TypeIndex) (reported : Bool)
    → NotedSoFar table row was was_several known several left → left ≡ (number, index) ∷ rest
    → lookup (nat_eq number) known ≡ Some first
    → ((reported ≡ true) ↔ (type_at (types_in table) first ≡ type_at (types_in table) index)) → reported ≡ true
    → NotedSoFar table row was was_several known several rest
noted_same {table} {row} {was} {left} {rest} {known} {was_several} {several} {number} {index} first reported so same is
    tells equal =
    noted_next so same so.among_known (λ at type is_known. is_known) (record {
      is = λ alone. lookup-map_values (type_at (types_in table)) (nat_eq number) known
          ∙ (ap (option_map (type_at (types_in table))) is ∙ ap Some (tells.0 equal));
    })

-- a number that is not reported after one more is reported was not reported: by whether that was reported
not_reported : (several : List ℕ) (number at : ℕ) (reported : Bool)
    → list_any (nat_eq at) (if reported then several else several ++ number ∷ []) ≡ false
    → list_any (nat_eq at) several ≡ false
not_reported several number at true fails = fails
not_reported several number at false fails =
    (or_parts (list_any (nat_eq at) several) (list_any (nat_eq at) (number ∷ []))
    (sym (list_any-append (nat_eq at) several (number ∷ [])) ∙ fails)).0

-- it is so after one of another type, whose name is reported
pub noted_several : {table : TypeTable} {row was left rest known : List (ℕ × TypeIndex)}
    {was_several several after : List ℕ} {number : ℕ} {index : TypeIndex}
    → NotedSoFar table row was was_several known several left → left ≡ (number, index) ∷ rest
    → after ≡ insert_key nat_eq several number → NotedSoFar table row was was_several known after rest
noted_several {table} {row} {was} {left} {rest} {known} {was_several} {several} {after} {number} {index} so same
    inserted =
    let is_reported : list_any (nat_eq number) after ≡ true =
    ap (list_any (nat_eq number)) inserted
    ∙ list_any-from_Contains nat_eq_equiv number (insert_key nat_eq several number)
    (Contains-insert_key nat_eq eqb-true several number) in
    noted_next so same so.among_known
    (λ at type is_known. record {
      is = λ alone. is_known.is (not_reported several number at (list_any (nat_eq number) several)
          (ap (list_any (nat_eq at)) (sym inserted) ∙ alone));
    })
    (record { is = λ alone. absurd (true≢false (sym is_reported ∙ alone)) })

-- the types of entries and of one more are of the table
pub types_push : {table : TypeTable} (row : List (ℕ × TypeIndex)) (number : ℕ) (index : TypeIndex)
    → HasTypes table row → IsAmong (types_in table) index → HasTypes table (row ++ (number, index) ∷ [])
types_push {table} row number index among one =
    record { among = All-push (IsEntry (types_in table)) row (number, index) among.among one }

-- it is so after one with a new name
pub noted_new : {table : TypeTable} {S : Type 0} {row was left rest after : List (ℕ × TypeIndex)}
    {was_several several : List ℕ} {number : ℕ} {index : TypeIndex} (known : IndexMap ℕ TypeIndex S)
    → NotedSoFar table row was was_several known.entries several left → left ≡ (number, index) ∷ rest
    → lookup (nat_eq number) known.entries ≡ None → after ≡ insert_entry nat_eq known.entries number index
    → NotedSoFar table row was was_several after several rest
noted_new {table} {S} {row} {was} {left} {rest} {after} {was_several} {several} {number} {index} known so same none
    inserted =
    let types = types_in table in
    let after_is : after ≡ known.entries ++ (number, index) ∷ [] =
    inserted ∙ insert_entry-new nat_eq known number index none in
    let typed : typed_row table after ≡ typed_row table known.entries ++ (number, type_at types index) ∷ [] =
    ap (typed_row table) after_is ∙ map-append (entry_at types) known.entries ((number, index) ∷ []) in
    let typed_none : lookup (nat_eq number) (typed_row table known.entries) ≡ None =
    lookup-map_values (type_at types) (nat_eq number) known.entries ∙ ap (option_map (type_at types)) none in
    noted_next so same
    (rw after_is (types_push known.entries number index so.among_known (left_among so same)))
    (λ at type is_known. record {
      is = λ alone. ap (lookup (nat_eq at)) typed
          ∙ lookup-still_found (typed_row table known.entries) (number, type_at types index) (nat_eq at) type
          (is_known.is alone);
    })
    (record {
      is = λ alone. ap (lookup (nat_eq number)) typed
          ∙ lookup-last_found (typed_row table known.entries) (number, type_at types index) (nat_eq number) typed_none
          (eq-eqb number number refl);
    })

-- all are noted, if none is left
pub noted_all : {table : TypeTable} {row was left known : List (ℕ × TypeIndex)} {was_several several : List ℕ}
    → NotedSoFar table row was was_several known several left → left ≡ []
    → All (IsKnownEntry table known several) (typed_row table row)
noted_all {table} {row} {was} {left} {known} {was_several} {several} so none =
    let row_is : so.done ≡ row =
    sym (so.row_is ∙ (ap (λ (entries : List (ℕ × TypeIndex)). so.done ++ entries) none ∙ append-nil so.done)) in
    subst (λ (entries : List (ℕ × TypeIndex)). All (IsKnownEntry table known several) (typed_row table entries)) row_is
    so.noted
