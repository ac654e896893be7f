-- Rows of methods, and how they grow.
--
--   `row_kept`                     a row has the same methods later
--   `entry_at`, `IsEntry`          an entry with its type, which is of the table
--   `row_same`, `row_added`        a row with a method whose name is there, and with one whose name is new
use Rattle.std.proofs.Common.{◌≡◌, ℕ, Bool, true, false, List, [], ◌∷◌, ◌++◌, Option, Some, None, option_map, if◌then◌else◌, map, nat_eq, All, refl, sym, ap, ap₂, ◌∙◌, subst}
use Rattle.std.proofs.lemmas.List.{map-append}
use Rattle.std.proofs.lemmas.List.Elements.{All-head, All-push, All-tail}
use Rattle.std.proofs.lemmas.Map.Made.{lookup-map_values}
use Rattle.std.proofs.lemmas.Option.{same_Some}
use Rattle.std.specs.Map.{lookup}
use Rattle.std.specs.Option.{is_some}
use Rattle.indexmap.specs.IndexMap.{IndexMap, insert_entry}
use Rattle.indexmap.proofs.CallerLemmas.{insert_entry-new}
use Rattle.abs_tree.specs.Names.{name_of, number_of_name}
use Rattle.abs_tree.specs.Syntax.{Name, SignatureTree}
use Rattle.abs_tree.specs.SyntaxViews.{signature_tree}
use Rattle.abs_tree.specs.declared.syntax.declaration.Signature.{Signature}
use Rattle.abs_types.proofs.KeepLemmas.{among_kept, type_at_kept}
use Rattle.abs_types.specs.Methods.{first_of_each}
use Rattle.abs_types.specs.PlainTypes.{PlainType}
use Rattle.abs_types.specs.TypeShapes.{type_at, IsAmong}
use Rattle.abs_types.specs.TypeTables.{types_in, Keeps}
use Rattle.abs_types.specs.declared.table.TypeTable.{TypeTable}
use Rattle.abs_types.specs.declared.table.shape.TypeIndex.{TypeIndex}
use Rattle.check_fun.specs.Contexts.{context_in, Context, Finds, Knows, Stays}
use Rattle.check_fun.specs.declared.checker.Checker.{Checker}
use Rattle.check_obj.proofs.FirstLemmas.{first_push, has_name, is_looked_up, named_first, named_signature, IsNamed}
use Rattle.check_obj.specs.MethodRows.{row_entry, signature_type, AreNamed, IsRow}
use Rattle.list_facts.proofs.OptionLemmas.{is_some-none}

-- an entry of a row with the type for which its index stands
abbrev pub entry_at : List PlainType → ℕ × TypeIndex → ℕ × PlainType
entry_at types entry = (entry.0, type_at types entry.1)

-- an entry of a row has an index of these types
abbrev pub IsEntry : List PlainType → ℕ × TypeIndex → Type 0
IsEntry types entry = IsAmong types entry.1

-- entries stand for the same types later
entries_kept : {before now : TypeTable} (row : List (ℕ × TypeIndex)) → Keeps before now
    → All (IsEntry (types_in before)) row
    → map (entry_at (types_in now)) row ≡ map (entry_at (types_in before)) row
entries_kept [] keeps among = refl
entries_kept {before} (first ∷ others) keeps among =
    ap₂ (λ (type : PlainType) (rest : List (ℕ × PlainType)). (first.0, type) ∷ rest)
    (type_at_kept keeps (All-head (IsEntry (types_in before)) first others among))
    (entries_kept others keeps (All-tail (IsEntry (types_in before)) first others among))

-- a row has the same methods later
pub row_kept : {before now : TypeTable} {signatures : List SignatureTree} {row : List (ℕ × TypeIndex)}
    → Keeps before now → IsRow before signatures row → IsRow now signatures row
row_kept {before} {now} {signatures} {row} keeps was = record {
  among = λ index default below. among_kept keeps (was.among index default below);
  are = entries_kept row keeps was.among ∙ was.are
      ∙ ap (λ (program : _). map (row_entry program.now.symbols) signatures) (sym keeps.program_is);
}

-- a look-up in a row finds the type of the method with the number
row_lookup : {table : TypeTable} {signatures : List SignatureTree} {row : List (ℕ × TypeIndex)} (test : ℕ → Bool)
    → IsRow table signatures row
    → option_map (type_at (types_in table)) (lookup test row)
    ≡ lookup test (map (row_entry table.program.now.symbols) signatures)
row_lookup {table} {signatures} {row} test is =
    sym (lookup-map_values (type_at (types_in table)) test row) ∙ ap (lookup test) is.are

-- what is found, and the type for which it stands
some_mapped : (types : List PlainType) (found : Option TypeIndex)
    → is_some found ≡ is_some (option_map (type_at types) found)
some_mapped types None = refl
some_mapped types (Some index) = refl

-- whether a look-up in a row finds something
row_finds : {table : TypeTable} {signatures : List SignatureTree} {row : List (ℕ × TypeIndex)} (wanted : SignatureTree)
    → IsRow table signatures row → AreNamed table.program.now.symbols signatures
    → IsNamed table.program.now.symbols wanted
    → is_some (lookup (nat_eq (number_of_name table.program.now.symbols wanted.name.name)) row)
    ≡ has_name wanted.name.name signatures
row_finds {table} {signatures} {row} wanted is named own =
    let names = table.program.now.symbols in
    let test : ℕ → Bool = nat_eq (number_of_name names wanted.name.name) in
    some_mapped (types_in table) (lookup test row) ∙ ap is_some (row_lookup test is)
    ∙ is_looked_up names signatures wanted named own

-- a row with a method whose name is there is the same
pub row_same : {table : TypeTable} {done : List SignatureTree} {row : List (ℕ × TypeIndex)} (signature : Signature)
    (number : ℕ)
    → number ≡ number_of_name table.program.now.symbols (name_of table.program.now.symbols signature.name.name)
    → is_some (lookup (nat_eq number) row) ≡ true → AreNamed table.program.now.symbols done
    → IsRow table (first_of_each done) row
    → IsRow table (first_of_each (done ++ signature_tree table.program.now.symbols signature ∷ [])) row
row_same {table} {done} {row} signature number numbered there named is =
    let names = table.program.now.symbols in
    let last = signature_tree names signature in
    let had : has_name last.name.name (first_of_each done) ≡ true =
    sym (row_finds last is (named_first done named) (named_signature names signature))
    ∙ ap (λ (n : ℕ). is_some (lookup (nat_eq n) row)) (sym numbered) ∙ there in
    subst (λ (signatures : List SignatureTree). IsRow table signatures row)
    (sym (first_push done last
    ∙ ap (λ (b : Bool). if b then first_of_each done else first_of_each done ++ last ∷ []) had)) is

-- a row with a method whose name is new has it last
pub row_added : {before now : Checker} {done : List SignatureTree} {S : Type 0} (types : IndexMap ℕ TypeIndex S)
    (after : List (ℕ × TypeIndex)) (signature : Signature) (number : ℕ) (found : TypeIndex)
    → number ≡ number_of_name before.table.program.now.symbols
    (name_of before.table.program.now.symbols signature.name.name)
    → is_some (lookup (nat_eq number) types.entries) ≡ false → AreNamed before.table.program.now.symbols done
    → IsRow before.table (first_of_each done) types.entries → Stays before now
    → ((context : Context) → Knows before context
    → Finds now (Some found) (Some (signature_type (signature_tree context.names signature))))
    → after ≡ insert_entry nat_eq types.entries number found
    → IsRow now.table (first_of_each (done ++ signature_tree before.table.program.now.symbols signature ∷ [])) after
unfolding context_in
row_added {before} {now} {done} types after signature number found numbered absent named is stays finds inserted =
    let names = before.table.program.now.symbols in
    let last = signature_tree names signature in
    let apart : has_name last.name.name (first_of_each done) ≡ false =
    sym (row_finds last is (named_first done named) (named_signature names signature))
    ∙ ap (λ (n : ℕ). is_some (lookup (nat_eq n) types.entries)) (sym numbered) ∙ absent in
    let pushed : first_of_each (done ++ last ∷ []) ≡ first_of_each done ++ last ∷ [] =
    first_push done last ∙ ap (λ (b : Bool). if b then first_of_each done else first_of_each done ++ last ∷ []) apart in
    let entries : after ≡ types.entries ++ (number, found) ∷ [] =
    inserted ∙ insert_entry-new nat_eq types number found
    (is_some-none (lookup (nat_eq number) types.entries) absent) in
    let finds_it : Finds now (Some found) (Some (signature_type last)) =
    finds (context_in before) (record { is = refl }) in
    let kept = row_kept stays.keeps is in
    let type_is : type_at (types_in now.table) found ≡ signature_type last = same_Some _ _ finds_it.is in
    let names_are : now.table.program.now.symbols ≡ names =
    ap (λ (program : _). program.now.symbols) stays.keeps.program_is in
    rw (pushed, entries) (record {
      among = All-push (IsEntry (types_in now.table)) types.entries (number, found) kept.among
          finds_it.found_is.among;
      are = map-append (entry_at (types_in now.table)) types.entries ((number, found) ∷ [])
          ∙ (ap₂ (λ (xs : List (ℕ × PlainType)) (x : ℕ × PlainType). xs ++ x ∷ []) kept.are
          (ap₂ (λ (n : ℕ) (type : PlainType). (n, type))
          (numbered ∙ ap (λ (all : List Name). number_of_name all last.name.name) (sym names_are)) type_is)
          ∙ sym (map-append (row_entry now.table.program.now.symbols) (first_of_each done) (last ∷ [])));
    })
