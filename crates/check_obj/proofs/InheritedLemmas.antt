-- The methods of declarations, and those of the interfaces above them.
--
--   `named_own`, `distinct_own`    the methods of a declaration have names of the table, which are different
--   `row_at`, `row_past`           the row of a declaration has its methods, and past all rows there are none
--   `Inherits`                     an interface above a declaration declares a method
--   `inherits`, `inherited`        a method is inherited exactly if an interface above the declaration declares it
use Rattle.std.proofs.Common.{◌≡◌, ℕ, ◌+◌, ◌<◌, ◌≤◌, zero, suc, Bool, true, false, not, cond, List, [], ◌∷◌, Option, Some, None, option_map, if◌then◌else◌, filter, get_or, length, All, Contains, refl, sym, ap, ◌∙◌, subst, ⊎_elim, arith}
use Rattle.std.specs.Prelude.{slice_get}
use Rattle.std.proofs.lemmas.Bool.{not-true}
use Rattle.std.proofs.lemmas.List.{length-map}
use Rattle.std.proofs.lemmas.List.Elements.{All-filter, All-weaker, Contains-append_cases, Contains-append_left, Contains-append_right, filter_passes}
use Rattle.std.proofs.lemmas.Option.{get_or_from_slice_get, none-some, same_Some, slice_get_past, slice_get_within, slice_get-map, slice_get_read}
use Rattle.abs_program.specs.Supertypes.{is_below}
use Rattle.abs_tree.specs.Syntax.{Name, DeclTree, DataTree, FunctionTree, InterfaceTree, ClassTree, SignatureTree}
use Rattle.abs_tree.specs.SyntaxViews.{decl_tree}
use Rattle.abs_tree.specs.declared.syntax.declaration.Decl.{Decl}
use Rattle.abs_tree.specs.declared.syntax.declaration.Decl.TheVariants as decl
use Rattle.abs_types.specs.Methods.{first_of_each, inherited_signatures, is_named, own_signatures, signatures_above, signatures_if_there, signatures_in}
use Rattle.abs_types.specs.TypeTables.{declarations_of}
use Rattle.abs_types.specs.declared.table.TypeTable.{TypeTable}
use Rattle.abs_types.specs.declared.table.shape.TypeIndex.{TypeIndex}
use Rattle.check_obj.proofs.FirstLemmas.{named_all, named_first, named_members, named_none, AreDistinct}
use Rattle.check_obj.proofs.RowsLemmas.{entries_of}
use Rattle.check_obj.specs.MethodRows.{AreNamed, AreRows, IsRow}
use Rattle.check_obj.specs.declared.method_types.MethodRow.{MethodRow}
use Rattle.list_facts.proofs.EntryLemmas.{slice_get-not_none}

-- the methods of a declaration of the code's trees have names of the table
named_in : (names : List Name) (declaration : Decl) → AreNamed names (signatures_in (decl_tree names declaration))
named_in names (decl.Data place name parameters constructors) = named_none
named_in names (decl.Function place result name parameters params value) = named_none
named_in names (decl.Interface place name extended signatures) = named_first _ (named_all names signatures.items)
named_in names (decl.Class place name params implemented members) = named_first _ (named_members names members.items)

-- so have those of one that may be there
named_there : (names : List Name) (found : Option Decl)
    → AreNamed names (signatures_if_there (option_map (decl_tree names) found))
named_there names None = named_none
named_there names (Some declaration) = named_in names declaration

-- the methods of a declaration have names of the table
pub named_own : (table : TypeTable) (index : ℕ)
    → AreNamed table.program.now.symbols (own_signatures (declarations_of table) index)
named_own table index =
    let names = table.program.now.symbols in
    subst (λ (found : Option DeclTree). AreNamed names (signatures_if_there found))
    (sym (slice_get-map (decl_tree names) table.program.now.declarations.items index))
    (named_there names (slice_get table.program.now.declarations.items index))

-- methods with different names have them where some are left out: the case of one more
distinct_step : (test : SignatureTree → Bool) (first : SignatureTree) (others : List SignatureTree) (kept : Bool)
    → All (λ (other : SignatureTree). is_named first.name.name other ≡ false) others
    → AreDistinct (filter test others) → AreDistinct (cond kept (first ∷ filter test others) (filter test others))
distinct_step test first others true apart distinct =
    (All-filter test (λ (other : SignatureTree). is_named first.name.name other ≡ false) others apart, distinct)
distinct_step test first others false apart distinct = distinct

-- methods with different names have them where some are left out
distinct_filter : (test : SignatureTree → Bool) (signatures : List SignatureTree) → AreDistinct signatures
    → AreDistinct (filter test signatures)
distinct_filter test [] distinct = distinct
distinct_filter test (first ∷ others) distinct =
    distinct_step test first others (test first) distinct.0 (distinct_filter test others distinct.1)

-- the first ones of each name have different names
first_distinct : (signatures : List SignatureTree) → AreDistinct (first_of_each signatures)
first_distinct [] = tt
first_distinct (first ∷ others) =
    let test : SignatureTree → Bool = λ (other : SignatureTree). not (is_named first.name.name other) in (
      All-weaker (λ (other : SignatureTree). test other ≡ true)
          (λ (other : SignatureTree). is_named first.name.name other ≡ false)
          (λ other. not-true (is_named first.name.name other)) (filter test (first_of_each others))
          (filter_passes test (first_of_each others)),
      distinct_filter test (first_of_each others) (first_distinct others),
    )

-- the methods of a declaration have different names
distinct_in : (declaration : DeclTree) → AreDistinct (signatures_in declaration)
distinct_in (InterfaceTree place name extended signatures) = first_distinct signatures
distinct_in (ClassTree place name params implemented members) = first_distinct _
distinct_in (DataTree place name type_params constructors) = tt
distinct_in (FunctionTree place result name type_params params value) = tt

-- so have those of one that may be there
distinct_there : (found : Option DeclTree) → AreDistinct (signatures_if_there found)
distinct_there None = tt
distinct_there (Some declaration) = distinct_in declaration

-- the methods of the declaration with an index have different names
pub distinct_own : (declarations : List DeclTree) (index : ℕ) → AreDistinct (own_signatures declarations index)
distinct_own declarations index = distinct_there (slice_get declarations index)

-- the row of a declaration has its methods: the case of one that may be there
row_there : {table : TypeTable} (rows : List MethodRow) (index : ℕ) (row : MethodRow) (found : Option DeclTree)
    → slice_get (declarations_of table) index ≡ found → AreRows table (entries_of rows)
    → slice_get rows index ≡ Some row → IsRow table (signatures_if_there found) row.types.entries
row_there {table} rows index row (Some declaration) there are is =
    let entries : slice_get (entries_of rows) index ≡ Some row.types.entries =
    slice_get-map (λ (one : MethodRow). one.types.entries) rows index
    ∙ ap (option_map (λ (one : MethodRow). one.types.entries)) is in
    subst (λ (found : List (ℕ × TypeIndex)). IsRow table (signatures_in declaration) found)
    (get_or_from_slice_get (entries_of rows) index row.types.entries [] entries) (are.each index declaration there)
row_there {table} rows index row None there are is =
    let entries : slice_get (entries_of rows) index ≡ Some row.types.entries =
    slice_get-map (λ (one : MethodRow). one.types.entries) rows index
    ∙ ap (option_map (λ (one : MethodRow). one.types.entries)) is in
    let within = slice_get_within (entries_of rows) index row.types.entries entries in
    absurd (slice_get-not_none (declarations_of table) index (omega (arith, within, are.count)) there)

-- the row of the declaration with an index has its methods
pub row_at : {table : TypeTable} (rows : List MethodRow) (index : ℕ) (row : MethodRow)
    → AreRows table (entries_of rows) → index < length rows → row ≡ get_or rows index row
    → IsRow table (own_signatures (declarations_of table) index) row.types.entries
row_at {table} rows index row are there is =
    row_there rows index row (slice_get (declarations_of table) index) refl are
    (slice_get_read rows (length rows) index row refl there is)

-- past all rows there are no methods
pub row_past : {table : TypeTable} (rows : List MethodRow) (index : ℕ) → AreRows table (entries_of rows)
    → length rows ≤ index → own_signatures (declarations_of table) index ≡ []
row_past {table} rows index are past =
    let count = are.count in
    let long : length (entries_of rows) ≡ length rows = length-map rows (λ (one : MethodRow). one.types.entries) in
    ap signatures_if_there (slice_get_past (declarations_of table) index (omega (arith, count, long, past)))

-- An interface above a declaration declares a method.
pub record Inherits (declarations : List DeclTree) (index : ℕ) (signature : SignatureTree) : Type 0 where
  pub other : ℕ
  pub below : is_below declarations index other ≡ true
  pub among : Contains (own_signatures declarations other) signature

-- no methods contain none
none_contained : (signature : SignatureTree) → Contains [] signature → ⊥
none_contained signature there = omega (arith, there.1)

-- a method of a declaration, if that is above another one
inherited_if : (declarations : List DeclTree) (index next : ℕ) (first : DeclTree) (signature : SignatureTree)
    (reported : Bool) → is_below declarations index next ≡ reported → slice_get declarations next ≡ Some first
    → Contains (if reported then signatures_in first else []) signature → Inherits declarations index signature
inherited_if declarations index next first signature true below there among = record {
  other = next;
  below = below;
  among = subst (λ (found : Option DeclTree). Contains (signatures_if_there found) signature) (sym there) among;
}
inherited_if declarations index next first signature false below there among =
    absurd (none_contained signature among)

-- what is inherited from some of the declarations is declared by an interface above
inherited_from : (declarations : List DeclTree) (index next : ℕ) (rest : List DeclTree) (signature : SignatureTree)
    → ((place : ℕ) → slice_get declarations (next + place) ≡ slice_get rest place)
    → Contains (signatures_above declarations index next rest) signature → Inherits declarations index signature
inherited_from declarations index next [] signature are among = absurd (none_contained signature among)
inherited_from declarations index next (first ∷ others) signature are among = ⊎_elim
    (inherited_if declarations index next first signature (is_below declarations index next) refl
    (ap (slice_get declarations) (omega arith) ∙ are 0))
    (inherited_from declarations index (1 + next) others signature
    (λ place. ap (slice_get declarations) (omega arith) ∙ are (suc place)))
    (Contains-append_cases (if is_below declarations index next then signatures_in first else [])
    (signatures_above declarations index (1 + next) others) signature among)

-- what is inherited is declared by an interface above
pub inherited : (declarations : List DeclTree) (index : ℕ) (signature : SignatureTree)
    → Contains (inherited_signatures declarations index) signature → Inherits declarations index signature
unfolding inherited_signatures
inherited declarations index signature among =
    inherited_from declarations index 0 declarations signature
    (λ place. ap (slice_get declarations) (omega arith)) among

-- what some of the declarations declare is inherited from them, if they are above
inherits_from : (declarations : List DeclTree) (index next : ℕ) (rest : List DeclTree) (place : ℕ)
    (declaration : DeclTree) (signature : SignatureTree) → slice_get rest place ≡ Some declaration
    → is_below declarations index (next + place) ≡ true → Contains (signatures_in declaration) signature
    → Contains (signatures_above declarations index next rest) signature
inherits_from declarations index next [] place declaration signature there below among =
    absurd (none-some declaration there)
inherits_from declarations index next (first ∷ others) zero declaration signature there below among =
    let here : is_below declarations index next ≡ true =
    ap (is_below declarations index) (omega arith) ∙ below in
    let own : (if is_below declarations index next then signatures_in first else []) ≡ signatures_in declaration =
    ap (λ (reported : Bool). if reported then signatures_in first else []) here
    ∙ ap signatures_in (same_Some first declaration there) in
    Contains-append_left (if is_below declarations index next then signatures_in first else [])
    (signatures_above declarations index (1 + next) others) signature
    (subst (λ (signatures : List SignatureTree). Contains signatures signature) (sym own) among)
inherits_from declarations index next (first ∷ others) (suc place) declaration signature there below among =
    Contains-append_right (if is_below declarations index next then signatures_in first else [])
    (signatures_above declarations index (1 + next) others) signature
    (inherits_from declarations index (1 + next) others place declaration signature there
    (ap (is_below declarations index) (omega arith) ∙ below) among)

-- what a declaration declares is inherited, if it is above: the case of one that may be there
inherits_if : (declarations : List DeclTree) (index other : ℕ) (signature : SignatureTree) (found : Option DeclTree)
    → slice_get declarations other ≡ found → is_below declarations index other ≡ true
    → Contains (signatures_if_there found) signature
    → Contains (signatures_above declarations index 0 declarations) signature
inherits_if declarations index other signature None there below among = absurd (none_contained signature among)
inherits_if declarations index other signature (Some declaration) there below among =
    inherits_from declarations index 0 declarations other declaration signature there
    (ap (is_below declarations index) (omega arith) ∙ below) among

-- what an interface above declares is inherited
pub inherits : (declarations : List DeclTree) (index other : ℕ) (signature : SignatureTree)
    → is_below declarations index other ≡ true → Contains (own_signatures declarations other) signature
    → Contains (inherited_signatures declarations index) signature
unfolding inherited_signatures
inherits declarations index other signature below among =
    inherits_if declarations index other signature (slice_get declarations other) refl below among
