-- The rows of the table of fields.
use Rattle.std.proofs.Common.{◌≡◌, ℕ, ◌+◌, ◌<◌, ◌≤◌, List, [], ◌∷◌, ◌++◌, refl, sym, ap, ◌∙◌, length, get_or, drop, map, append_assoc}
use Rattle.std.specs.Prelude.{Option, option_and_then, slice_get}
use Rattle.std.proofs.lemmas.List.{append-nil, drop_all, map-append}
use Rattle.abs_program.specs.FieldRows.{own_index, IsFieldRow}
use Rattle.abs_program.specs.KeptMembers.{field_at}
use Rattle.abs_program.specs.Members.{field_indices, params_in, fields_in, field_among, field_of}
use Rattle.abs_tree.specs.Syntax.{Name, MemberTree, DeclTree}
use Rattle.abs_tree.specs.SyntaxViews.{member_tree, decl_tree}
use Rattle.abs_program.specs.TableFacts.{AreFields}
use Rattle.abs_tree.specs.declared.syntax.declaration.Decl.{Decl}
use Rattle.abs_tree.specs.declared.syntax.declaration.Member.{Member}
use Rattle.abs_tree.specs.declared.syntax.declaration.Member.TheVariants.{Field, Method}
use Rattle.abs_program.specs.declared.tables.fields.Fields.{Fields}
use Rattle.abs_program.specs.declared.tables.fields.FieldRow.{FieldRow}
use Rattle.abs_program.specs.declared.tables.members.FieldAt.{FieldAt}
use Rattle.list_facts.proofs.EntryLemmas.{drop_item}
use Rattle.list_facts.proofs.MapLemmas.{look_up-map}

-- The fields among the members before an index were found: those of the rest follow them.
pub record IndicesSoFar (members : List Member) (index : ℕ) (found : List ℕ) : Type 0 where
  pub so_far : (names : List Name) → found ++ field_indices index (map (member_tree names) (drop index members))
      ≡ field_indices 0 (map (member_tree names) members)

-- the indices of a member and of those after it
indices_next : (names : List Name) (index : ℕ) (member : Member) (others : List MemberTree)
    → field_indices index (member_tree names member ∷ others)
    ≡ own_index index member ++ field_indices (index + 1) others
indices_next names index (Field type name initial) others = refl
indices_next names index (Method signature body) others = refl

-- one more member was looked at
pub indices_step : {members : List Member} {index : ℕ} {found after : List ℕ} (member : Member)
    → IndicesSoFar members index found → index < length members → member ≡ get_or members index member
    → after ≡ found ++ own_index index member
    → IndicesSoFar members (index + 1) after
indices_step {members} {index} {found} {after} member h there is added = record {
  so_far = λ names.
      let tree = member_tree names in
      let others = field_indices (index + 1) (map tree (drop (index + 1) members)) in
      ap (λ (xs : List ℕ). xs ++ others) added
      ∙ (append_assoc found (own_index index member) others
      ∙ (ap (λ (xs : List ℕ). found ++ xs) (sym (indices_next names index member (map tree (drop (index + 1) members))))
      ∙ (ap (λ (ms : List Member). found ++ field_indices index (map tree ms)) (sym (drop_item members index member there is))
      ∙ h.so_far names)));
}

-- all members were looked at
pub indices_done : {members : List Member} {index : ℕ} {found : List ℕ} (names : List Name)
    → IndicesSoFar members index found → length members ≤ index
    → found ≡ field_indices 0 (map (member_tree names) members)
indices_done {members} {index} {found} names h over =
    sym (append-nil found)
    ∙ (ap (λ (ms : List Member). found ++ field_indices index (map (member_tree names) ms))
    (sym (drop_all index members over))
    ∙ h.so_far names)

-- no member was looked at
pub indices_start : {found : List ℕ} (members : List Member) → found ≡ [] → IndicesSoFar members 0 found
indices_start {found} members none = record {
  so_far = λ names.
      ap (λ (xs : List ℕ). xs ++ field_indices 0 (map (member_tree names) members)) none;
}

-- what a row has, and what the row of a declaration has
abbrev row_parts : FieldRow → ℕ × List ℕ
row_parts row = (row.params, row.members.items)

abbrev parts_in : DeclTree → ℕ × List ℕ
parts_in declaration = (params_in declaration, fields_in declaration)

-- The declarations before an index have their rows: with those of the rest they are all.
pub record RowsSoFar (declarations : List Decl) (index : ℕ) (rows : List FieldRow) : Type 0 where
  pub so_far : (names : List Name)
      → map row_parts rows ++ map parts_in (map (decl_tree names) (drop index declarations))
      ≡ map parts_in (map (decl_tree names) declarations)

-- no declaration has a row yet
pub rows_start : {rows : List FieldRow} (declarations : List Decl) → rows ≡ [] → RowsSoFar declarations 0 rows
rows_start {rows} declarations none = record {
  so_far = λ names.
      ap (λ (rs : List FieldRow). map row_parts rs ++ map parts_in (map (decl_tree names) declarations)) none;
}

-- one more declaration has its row
pub rows_step : {declarations : List Decl} {index : ℕ} {rows after : List FieldRow} (declaration : Decl) (row : FieldRow)
    → RowsSoFar declarations index rows → index < length declarations
    → declaration ≡ get_or declarations index declaration → after ≡ rows ++ row ∷ []
    → ((names : List Name) → IsFieldRow (decl_tree names declaration) row)
    → RowsSoFar declarations (index + 1) after
rows_step {declarations} {index} {rows} {after} declaration row h there is added has = record {
  so_far = λ names.
      let tree = decl_tree names in
      let others = map parts_in (map tree (drop (index + 1) declarations)) in
      let one : row_parts row ≡ parts_in (tree declaration) = cc ((has names).params, (has names).members) in
      ap (λ (rs : List FieldRow). map row_parts rs ++ others) added
      ∙ (ap (λ (ps : List (ℕ × List ℕ)). ps ++ others) (map-append row_parts rows (row ∷ []))
      ∙ (append_assoc (map row_parts rows) (row_parts row ∷ []) others
      ∙ (ap (λ (p : ℕ × List ℕ). map row_parts rows ++ p ∷ others) one
      ∙ (ap (λ (ds : List Decl). map row_parts rows ++ map parts_in (map tree ds))
      (sym (drop_item declarations index declaration there is))
      ∙ h.so_far names))));
}

-- all declarations have their rows, and so each field is found
pub rows_done : {declarations : List Decl} {index : ℕ} {rows : List FieldRow} (names : List Name) (fields : Fields)
    → RowsSoFar declarations index rows → length declarations ≤ index → fields.rows.items ≡ rows
    → AreFields (map (decl_tree names) declarations) fields
unfolding field_at field_of
rows_done {declarations} {index} {rows} names fields h over are = record {
  finds = λ class number.
      let find : ℕ × List ℕ → Option FieldAt = λ parts. field_among parts.0 parts.1 number in
      let all : map row_parts rows ≡ map parts_in (map (decl_tree names) declarations) =
      sym (append-nil (map row_parts rows))
      ∙ (ap (λ (ds : List Decl). map row_parts rows ++ map parts_in (map (decl_tree names) ds))
      (sym (drop_all index declarations over))
      ∙ h.so_far names) in
      look_up-map row_parts find fields.rows.items class
      ∙ (ap (λ (rs : List FieldRow). option_and_then find (slice_get (map row_parts rs) class)) are
      ∙ (ap (λ (ps : List (ℕ × List ℕ)). option_and_then find (slice_get ps class)) all
      ∙ sym (look_up-map parts_in find (map (decl_tree names) declarations) class)));
}
