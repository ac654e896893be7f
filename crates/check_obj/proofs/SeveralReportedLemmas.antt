-- Names that are not reported have one type in all interfaces.
--
--   `ReportedSoFar`                the methods of the first interfaces are noted
--   `reported_first`               it is so before the first declaration
--   `reported_interface`, `reported_other` it is so after an interface, and after another declaration
--   `reported_all`                 it is so of all declarations
use Rattle.std.proofs.Common.{◌≡◌, ℕ, ◌+◌, ◌<◌, ◌≤◌, Bool, true, false, List, [], Option, Some, option_map, inl, inr, get_or, length, map, All, Contains, refl, sym, ap, ◌∙◌, subst, true≢false, arith}
use Rattle.std.specs.Prelude.{slice_get}
use Rattle.std.proofs.lemmas.Bool.Decides.{leb_tells}
use Rattle.std.proofs.lemmas.List.{length-map}
use Rattle.std.proofs.lemmas.List.Elements.{All-nil}
use Rattle.std.proofs.lemmas.Option.{same_Some, slice_get-map, slice_get_read, slice_get_within}
use Rattle.abs_program.specs.Holdings.{is_interface}
use Rattle.abs_tree.specs.Names.{number_of_name}
use Rattle.abs_tree.specs.Syntax.{Name, DeclTree, SignatureTree}
use Rattle.abs_tree.specs.SyntaxViews.{decl_tree}
use Rattle.abs_tree.specs.declared.syntax.declaration.Decl.{Decl}
use Rattle.abs_types.specs.Methods.{own_signatures, signatures_if_there, signatures_in}
use Rattle.abs_types.specs.PlainTypes.{PlainType}
use Rattle.abs_types.specs.TypeTables.{declarations_of, types_in}
use Rattle.abs_types.specs.declared.table.TypeTable.{TypeTable}
use Rattle.abs_types.specs.declared.table.shape.TypeIndex.{TypeIndex}
use Rattle.check_obj.proofs.MethodRowLemmas.{IsEntry}
use Rattle.check_obj.proofs.RowsLemmas.{entries_of}
use Rattle.check_obj.proofs.SeveralLemmas.{IsKnownEntry, StayKnown}
use Rattle.check_obj.specs.MethodRows.{row_entry, signature_type, AreRows, IsDeclared, IsRow, TellsSeveral}
use Rattle.check_obj.specs.MethodsMet.{typed_row, HasTypes, IsKnown}
use Rattle.check_obj.specs.declared.method_types.MethodRow.{MethodRow}
use Rattle.list_facts.proofs.AllLemmas.{All-map_contains}

-- the type of a method is known, unless its name is reported to have several
abbrev pub IsKnownMethod : TypeTable → List (ℕ × TypeIndex) → List ℕ → SignatureTree → Type 0
IsKnownMethod table known several one =
    IsKnownEntry table known several (row_entry table.program.now.symbols one)

-- The methods of the first interfaces are noted.
pub record ReportedSoFar (table : TypeTable) (known : List (ℕ × TypeIndex)) (several : List ℕ) (count : ℕ) : Type 0 where
  pub among : HasTypes table known
  pub noted : (index : ℕ) (declaration : DeclTree) (one : SignatureTree) → index < count
      → slice_get (declarations_of table) index ≡ Some declaration → is_interface declaration ≡ true
      → Contains (signatures_in declaration) one → IsKnownMethod table known several one

-- no types are in no entries
pub no_types : (table : TypeTable) → HasTypes table []
no_types table = record { among = All-nil (IsEntry (types_in table)) }

-- it is so before the first declaration
pub reported_first : {table : TypeTable} {known : List (ℕ × TypeIndex)} {several : List ℕ} → known ≡ []
    → ReportedSoFar table known several 0
reported_first {table} none = record {
  among = rw none (no_types table);
  noted = λ index declaration one before. absurd (omega (arith, before));
}

-- it is so after one more declaration
reported_next : {table : TypeTable} {was known : List (ℕ × TypeIndex)} {was_several several : List ℕ} (index : ℕ)
    → ReportedSoFar table was was_several index → HasTypes table known → StayKnown table was was_several known several
    → ((declaration : DeclTree) (one : SignatureTree) → slice_get (declarations_of table) index ≡ Some declaration
    → is_interface declaration ≡ true → Contains (signatures_in declaration) one
    → IsKnownMethod table known several one)
    → ReportedSoFar table known several (index + 1)
reported_next {table} index so among stay here = record {
  among = among;
  noted = λ at declaration one below there is_one declared.
      let number = number_of_name table.program.now.symbols one.name.name in
      elim (leb_tells index at) [
        | inl last ↦
            let same : at ≡ index = omega (arith, last.1, below) in
            here declaration one (ap (slice_get (declarations_of table)) (sym same) ∙ there) is_one declared
        | inr before ↦
            stay number (signature_type one)
            (so.noted at declaration one (omega (arith, before.1)) there is_one declared)
      ];
}

-- it is so after an interface, whose row is noted
pub reported_interface : {table : TypeTable} {was known : List (ℕ × TypeIndex)} {was_several several : List ℕ} (index : ℕ)
    {row : List (ℕ × TypeIndex)} → ReportedSoFar table was was_several index
    → IsRow table (own_signatures (declarations_of table) index) row → HasTypes table known
    → StayKnown table was was_several known several
    → All (IsKnownEntry table known several) (typed_row table row) → ReportedSoFar table known several (index + 1)
reported_interface {table} {was} {known} {was_several} {several} index {row} so is among stay noted =
    reported_next index so among stay
    (λ declaration one there is_one declared.
    All-map_contains (IsKnownEntry table known several) (row_entry table.program.now.symbols)
    (own_signatures (declarations_of table) index) one
    (subst (λ (entries : List (ℕ × PlainType)). All (IsKnownEntry table known several) entries) is.are noted)
    (subst (λ (found : Option DeclTree). Contains (signatures_if_there found) one) (sym there) declared))

-- it is so after another declaration
pub reported_other : {table : TypeTable} {known : List (ℕ × TypeIndex)} {several : List ℕ} (declarations : List Decl)
    (index : ℕ) (declaration : Decl) (reported : Bool) → ReportedSoFar table known several index
    → declarations ≡ table.program.now.declarations.items → index < length declarations
    → declaration ≡ get_or declarations index declaration
    → ((names : List Name) → reported ≡ is_interface (decl_tree names declaration)) → reported ≡ false
    → ReportedSoFar table known several (index + 1)
reported_other {table} declarations index declaration reported so are there is tells other =
    let tree = decl_tree table.program.now.symbols in
    let found : slice_get (declarations_of table) index ≡ Some (tree declaration) =
    ap (λ (items : List Decl). slice_get (map tree items) index) (sym are)
    ∙ (slice_get-map tree declarations index
    ∙ ap (option_map tree) (slice_get_read declarations (length declarations) index declaration refl there is)) in
    reported_next index so so.among (λ number type is. is)
    (λ one method one_there is_one declared.
    absurd (true≢false (sym is_one
    ∙ (ap is_interface (same_Some one (tree declaration) (sym one_there ∙ found))
    ∙ (sym (tells table.program.now.symbols) ∙ other)))))

-- a method that an interface declares is noted
declared_noted : {table : TypeTable} {known : List (ℕ × TypeIndex)} {several : List ℕ} {count : ℕ} (one : SignatureTree)
    → ReportedSoFar table known several count → length (declarations_of table) ≤ count
    → IsDeclared (declarations_of table) one → IsKnownMethod table known several one
declared_noted {table} one so over declared =
    let within = slice_get_within (declarations_of table) declared.index declared.declaration declared.there in
    so.noted declared.index declared.declaration one (omega (arith, within, over)) declared.there declared.is_one
    declared.among

-- names that are not reported have one type in all interfaces
pub reported_all : {table : TypeTable} {known : List (ℕ × TypeIndex)} {several : List ℕ} {count : ℕ} (rows : List MethodRow)
    → ReportedSoFar table known several count → AreRows table (entries_of rows) → length rows ≤ count
    → TellsSeveral table several
reported_all {table} {known} {several} {count} rows so are over =
    let counted = are.count in
    let long : length (entries_of rows) ≡ length rows = length-map rows (λ (row : MethodRow). row.types.entries) in
    let past : length (declarations_of table) ≤ count = omega (arith, counted, long, over) in
    record {
      one_type = λ one other one_declared other_declared same alone.
          let names = table.program.now.symbols in
          let first = (declared_noted one so past one_declared).is alone in
          let second = (subst (λ (name : Name). IsKnown table known several (number_of_name names name)
          (signature_type other)) (sym same) (declared_noted other so past other_declared)).is alone in
          same_Some (signature_type one) (signature_type other) (sym first ∙ second);
    }
