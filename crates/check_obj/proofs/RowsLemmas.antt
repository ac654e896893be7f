-- The rows of all declarations, made one by one.
--
--   `entries_of`                   the entries of rows
--   `RowsSoFar`                    the first declarations have these rows
--   `rows_none`, `rows_next`       no declarations have none, and one more has one more
--   `rows_all`                     all have them
use Rattle.std.proofs.Common.{◌≡◌, ℕ, ◌+◌, ◌<◌, ◌≤◌, List, [], ◌∷◌, ◌++◌, Some, inl, inr, get_or, length, map, take, refl, sym, ap, ◌∙◌, subst, arith}
use Rattle.std.specs.Prelude.{slice_get}
use Rattle.std.proofs.lemmas.Bool.Decides.{leb_tells}
use Rattle.std.proofs.lemmas.List.{get_or_append_left, get_or_push, length-map, length_push, map-append, map_more, take_all}
use Rattle.std.proofs.lemmas.Option.{get_or_from_slice_get, slice_get-get_or, slice_get_within}
use Rattle.abs_tree.specs.Syntax.{Name, DeclTree}
use Rattle.abs_tree.specs.SyntaxViews.{decl_tree}
use Rattle.abs_tree.specs.declared.syntax.declaration.Decl.{Decl}
use Rattle.abs_types.specs.Methods.{signatures_in}
use Rattle.abs_types.specs.TypeTables.{declarations_of}
use Rattle.abs_types.specs.declared.table.shape.TypeIndex.{TypeIndex}
use Rattle.check_fun.proofs.ContextLemmas.{stays_reflexive, stays_transitive}
use Rattle.check_fun.specs.Contexts.{Stays}
use Rattle.check_fun.specs.declared.checker.Checker.{Checker}
use Rattle.check_obj.proofs.GrownRowLemmas.{names_in}
use Rattle.check_obj.proofs.MethodRowLemmas.{row_kept}
use Rattle.check_obj.specs.MethodRows.{AreRows, IsRow}
use Rattle.check_obj.specs.declared.method_types.MethodRow.{MethodRow}

-- the entries of rows
abbrev pub entries_of : List MethodRow → List (List (ℕ × TypeIndex))
entries_of rows = map (λ (row : MethodRow). row.types.entries) rows

-- The first declarations have these rows.
pub record RowsSoFar (start now : Checker) (done : List DeclTree) (rows : List MethodRow) : Type 0 where
  pub first : now.first ≡ start.first
  pub stays : Stays start now
  pub count : length rows ≡ length done
  pub each : (index : ℕ) (declaration : DeclTree) → slice_get done index ≡ Some declaration
      → IsRow now.table (signatures_in declaration) (get_or (entries_of rows) index [])

-- no declarations have no rows
pub rows_none : {start : Checker} → RowsSoFar start start [] []
rows_none = record {
  first = refl;
  stays = stays_reflexive;
  count = refl;
  each = λ index declaration there. absurd (omega (arith, slice_get_within [] index declaration there));
}

-- one more declaration has one more row
rows_push : {start now next : Checker} {done : List DeclTree} {rows : List MethodRow} (declaration : DeclTree)
    (row : MethodRow) → RowsSoFar start now done rows → next.first ≡ now.first → Stays now next
    → IsRow next.table (signatures_in declaration) row.types.entries
    → RowsSoFar start next (done ++ declaration ∷ []) (rows ++ row ∷ [])
rows_push {start} {now} {next} {done} {rows} declaration row so first stays is =
    let long = so.count in
    let long_entries : length (entries_of rows) ≡ length rows = length-map rows (λ (one : MethodRow). one.types.entries)
    in
    let pushed : entries_of (rows ++ row ∷ []) ≡ entries_of rows ++ row.types.entries ∷ [] =
    map-append (λ (one : MethodRow). one.types.entries) rows (row ∷ []) in
    record {
      first = first ∙ so.first;
      stays = stays_transitive so.stays stays;
      count = omega (arith, length_push rows row, length_push done declaration, long);
      each = λ index other there.
          let own : get_or (done ++ declaration ∷ []) index declaration ≡ other =
          get_or_from_slice_get (done ++ declaration ∷ []) index other declaration there in
          let within = slice_get_within (done ++ declaration ∷ []) index other there in
          elim (leb_tells (length done) index) [
            | inl last ↦
                let at : length done ≡ index = omega (arith, last.1, within, length_push done declaration) in
                let other_is : declaration ≡ other = sym (get_or_push done declaration declaration index at) ∙ own in
                rw (pushed, ← other_is) (subst (λ (entries : List (ℕ × TypeIndex)).
                IsRow next.table (signatures_in declaration) entries)
                (sym (get_or_push (entries_of rows) row.types.entries [] index (omega (arith, long, long_entries, at))))
                is)
            | inr before ↦
                let below : index < length done = omega (arith, before.1) in
                let inside : index < length (entries_of rows) = omega (arith, long, long_entries, below) in
                rw (pushed, get_or_append_left (entries_of rows) (row.types.entries ∷ []) [] index inside)
                (row_kept stays.keeps (so.each index other
                (slice_get-get_or done index declaration below
                ∙ ap Some (sym (get_or_append_left done (declaration ∷ []) declaration index below) ∙ own))))
          ];
    }

-- one more declaration of the code's trees has one more row
pub rows_next : {start now next : Checker} {rows after : List MethodRow} (declarations : List Decl) (index : ℕ)
    (declaration : Decl) (row : MethodRow)
    → RowsSoFar start now (map (decl_tree (names_in start)) (take index declarations)) rows
    → index < length declarations → declaration ≡ get_or declarations index declaration → next.first ≡ now.first
    → Stays now next
    → IsRow next.table (signatures_in (decl_tree (names_in now) declaration)) row.types.entries
    → after ≡ rows ++ row ∷ []
    → RowsSoFar start next (map (decl_tree (names_in start)) (take (index + 1) declarations)) after
rows_next {start} {now} {next} {rows} declarations index declaration row so there same first stays is pushed =
    let tree = decl_tree (names_in start) in
    let names_are : names_in now ≡ names_in start =
    ap (λ (program : _). program.now.symbols) so.stays.keeps.program_is in
    let done_is : map tree (take (index + 1) declarations)
    ≡ map tree (take index declarations) ++ tree declaration ∷ [] =
    map_more tree declarations index declaration there
    ∙ ap (λ (one : Decl). map tree (take index declarations) ++ tree one ∷ []) (sym same) in
    rw (done_is, pushed) (rows_push (tree declaration) row so first stays
    (subst (λ (names : List Name). IsRow next.table (signatures_in (decl_tree names declaration)) row.types.entries)
    names_are is))

-- all declarations have their rows
pub rows_all : {start now : Checker} {rows : List MethodRow} (declarations : List Decl) (index : ℕ)
    → RowsSoFar start now (map (decl_tree (names_in start)) (take index declarations)) rows
    → length declarations ≤ index → declarations ≡ start.table.program.now.declarations.items
    → AreRows now.table (entries_of rows)
rows_all {start} {now} {rows} declarations index so over same =
    let all : map (decl_tree (names_in start)) (take index declarations) ≡ declarations_of now.table =
    ap (map (decl_tree (names_in start))) (take_all index declarations over ∙ same)
    ∙ ap (λ (program : _). map (decl_tree program.now.symbols) program.now.declarations.items)
    (sym so.stays.keeps.program_is) in
    record {
      count = length-map rows (λ (one : MethodRow). one.types.entries) ∙ (so.count ∙ ap length all);
      each = λ at declaration there.
          so.each at declaration (ap (λ (done : List DeclTree). slice_get done at) all ∙ there);
    }
