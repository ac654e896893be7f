-- Whether a class has the methods of the interfaces above it.
--
--   `rows_tell`                    rows tell whether methods are among others
--   `MetSoFar`                     a class has the methods of some declarations
--   `met_none`, `met_next`         it is so of none, and of one more
--   `met_past`                     it is so of one that has no methods
--   `row_types`                    the types of a row of methods are of the table
--   `above_listed`, ..             what is above is listed, what is listed is above, and so it is by the same list
--   `met_all`, `met_not`           whether it has those of all interfaces above it
use Rattle.std.proofs.Common.{◌≡◌, ℕ, ◌+◌, ◌<◌, ◌≤◌, Bool, true, false, ◌&&◌, ◌||◌, cond, List, [], ◌∷◌, Option, Some, get_or, length, map, nat_eq, take, All, Contains, refl, sym, ap, ap₂, ◌∙◌, subst, eqb-true, true≢false}
use Rattle.std.specs.Map.{lookup}
use Rattle.std.specs.Prelude.{slice_get}
use Rattle.std.specs.Str.{bytes_eq}
use Rattle.std.proofs.lemmas.Bool.{and_from, and_parts, false_from_ne_true}
use Rattle.std.proofs.Math.Bool.{or-false}
use Rattle.std.proofs.lemmas.Cmp.{nat_eq_equiv}
use Rattle.std.proofs.lemmas.List.{take_all}
use Rattle.std.proofs.lemmas.List.Elements.{All-cons, All-contains, All-contains_itself, All-head, All-more, All-nil, All-tail, All-weaker, Contains-get_or}
use Rattle.std.proofs.lemmas.Map.Views.{Contains-from_any, list_any-from_Contains}
use Rattle.std.proofs.lemmas.Slice.Eq.{bytes_eq-Decides}
use Rattle.abs_graph.specs.Graphs.{is_listed}
use Rattle.abs_tree.specs.Names.{number_of_name}
use Rattle.abs_program.specs.Supertypes.{is_below}
use Rattle.abs_tree.specs.Syntax.{Name, ClassTree, DeclaredTree, DeclTree, MemberTree, ParamTree, SignatureTree}
use Rattle.abs_tree.specs.declared.place.Place.{Place}
use Rattle.abs_types.specs.InterfacesMet.{has_signature, has_signatures, is_same_signature, meets_interfaces, same_method}
use Rattle.abs_types.specs.Methods.{inherited_signatures, is_named, method_type, own_signatures, signatures_if_there}
use Rattle.abs_types.specs.PlainTypes.{PlainType}
use Rattle.abs_types.specs.TypeTables.{declarations_of}
use Rattle.abs_types.specs.declared.table.TypeTable.{TypeTable}
use Rattle.abs_types.specs.declared.table.shape.TypeIndex.{TypeIndex}
use Rattle.check_obj.proofs.FirstLemmas.{name_test, AreDistinct, IsNamed}
use Rattle.check_obj.proofs.InheritedLemmas.{distinct_own, inherited, inherits, named_own}
use Rattle.check_obj.proofs.SameTypeLemmas.{method_test}
use Rattle.check_obj.specs.MethodRows.{row_entry, signature_type, AreNamed, IsRow}
use Rattle.check_obj.specs.MethodsMet.{has_entries, has_entry, is_same, typed_row, HasTypes}

-- a method that has a name has no other one
other_name : (first other wanted : SignatureTree) → is_named wanted.name.name first ≡ true
    → is_named first.name.name other ≡ false → is_same_signature other wanted ≡ false
other_name first other wanted same apart =
    let name_is : first.name.name ≡ wanted.name.name =
    (bytes_eq-Decides first.name.name wanted.name.name).0 same in
    let differ : bytes_eq other.name.name wanted.name.name ≡ false =
    ap (bytes_eq other.name.name) (sym name_is) ∙ apart in
    ap (λ (reported : Bool). reported && same_method (method_type other) (method_type wanted)) differ

-- a method is not declared where others have its name
none_named : (first wanted : SignatureTree) (others : List SignatureTree) → is_named wanted.name.name first ≡ true
    → All (λ (other : SignatureTree). is_named first.name.name other ≡ false) others
    → has_signature others wanted ≡ false
none_named first wanted [] same apart = refl
none_named first wanted (other ∷ others) same apart =
    let IsApart : SignatureTree → Type 0 = λ (one : SignatureTree). is_named first.name.name one ≡ false in
    ap (λ (reported : Bool). reported || has_signature others wanted)
    (other_name first other wanted same (All-head IsApart other others apart))
    ∙ none_named first wanted others same (All-tail IsApart other others apart)

-- whether a row has a method with the type tells whether it is declared: the case of one more
entry_step : (first wanted : SignatureTree) (others : List SignatureTree) (found : Option PlainType) (reported : Bool)
    → reported ≡ is_named wanted.name.name first
    → All (λ (other : SignatureTree). is_named first.name.name other ≡ false) others
    → is_same (signature_type wanted) found ≡ has_signature others wanted
    → is_same (signature_type wanted) (cond reported (Some (signature_type first)) found)
    ≡ has_signature (first ∷ others) wanted
entry_step first wanted others found true same apart rest =
    method_test first wanted
    ∙ sym (ap₂ (λ (named other : Bool). (named && same_method (method_type first) (method_type wanted)) || other)
    (sym same) (none_named first wanted others (sym same) apart)
    ∙ or-false (same_method (method_type first) (method_type wanted)))
entry_step first wanted others found false differ apart rest =
    rest ∙ ap (λ (named : Bool). (named && same_method (method_type first) (method_type wanted))
    || has_signature others wanted) differ

-- whether a row has a method with the type tells whether it is declared
entry_tells : (names : List Name) (own : List SignatureTree) (wanted : SignatureTree) → AreNamed names own
    → IsNamed names wanted → AreDistinct own
    → has_entry (map (row_entry names) own) (row_entry names wanted) ≡ has_signature own wanted
entry_tells names [] wanted named wanted_named distinct = refl
entry_tells names (first ∷ others) wanted named wanted_named distinct =
    entry_step first wanted others
    (lookup (nat_eq (number_of_name names wanted.name.name)) (map (row_entry names) others))
    (nat_eq (number_of_name names wanted.name.name) (number_of_name names first.name.name))
    (name_test names first wanted (All-head (IsNamed names) first others named.each) wanted_named) distinct.0
    (entry_tells names others wanted (record { each = All-tail (IsNamed names) first others named.each }) wanted_named
    distinct.1)

-- whether a row has several tells whether they are declared
entries_tell : (names : List Name) (own asked : List SignatureTree) → AreNamed names own → AreNamed names asked
    → AreDistinct own
    → has_entries (map (row_entry names) own) (map (row_entry names) asked) ≡ has_signatures own asked
entries_tell names own [] named asked_named distinct = refl
entries_tell names own (first ∷ others) named asked_named distinct =
    ap₂ (λ (one more : Bool). one && more)
    (entry_tells names own first named (All-head (IsNamed names) first others asked_named.each) distinct)
    (entries_tell names own others named (record { each = All-tail (IsNamed names) first others asked_named.each })
    distinct)

-- a class has all methods of a declaration
abbrev pub HasMethodsOf : List DeclTree → ℕ → ℕ → Type 0
HasMethodsOf declarations class other =
    has_signatures (own_signatures declarations class) (own_signatures declarations other) ≡ true

-- rows tell whether the methods of a declaration are among those of another one
pub rows_tell : {table : TypeTable} {own asked : List (ℕ × TypeIndex)} (class other : ℕ)
    → IsRow table (own_signatures (declarations_of table) class) own
    → IsRow table (own_signatures (declarations_of table) other) asked
    → has_entries (typed_row table own) (typed_row table asked)
    ≡ has_signatures (own_signatures (declarations_of table) class) (own_signatures (declarations_of table) other)
rows_tell {table} class other own_is asked_is =
    ap₂ has_entries own_is.are asked_is.are
    ∙ entries_tell table.program.now.symbols (own_signatures (declarations_of table) class)
    (own_signatures (declarations_of table) other) (named_own table class) (named_own table other)
    (distinct_own (declarations_of table) class)

-- the types of a row of methods are of the table
pub row_types : {table : TypeTable} {signatures : List SignatureTree} {row : List (ℕ × TypeIndex)}
    → IsRow table signatures row → HasTypes table row
row_types is = record { among = is.among }

-- A class has the methods of some declarations.
pub record MetSoFar (declarations : List DeclTree) (class : ℕ) (above : List ℕ) : Type 0 where
  pub met : All (HasMethodsOf declarations class) above

-- it is so of none
pub met_none : {declarations : List DeclTree} {class : ℕ} → MetSoFar declarations class []
met_none {declarations} {class} = record { met = All-nil (HasMethodsOf declarations class) }

-- it is so of one more
pub met_next : {declarations : List DeclTree} {class : ℕ} (above : List ℕ) (index : ℕ)
    → MetSoFar declarations class (take index above) → index < length above
    → HasMethodsOf declarations class (get_or above index 0) → MetSoFar declarations class (take (index + 1) above)
met_next {declarations} {class} above index so there has =
    record { met = All-more (HasMethodsOf declarations class) above index 0 there so.met has }

-- it is so of one that has no methods
pub met_past : (declarations : List DeclTree) (class other : ℕ) → own_signatures declarations other ≡ []
    → HasMethodsOf declarations class other
met_past declarations class other none = ap (has_signatures (own_signatures declarations class)) none

-- each of several methods is declared
all_have : (own signatures : List SignatureTree) → has_signatures own signatures ≡ true
    → All (λ (one : SignatureTree). has_signature own one ≡ true) signatures
all_have own [] reported = All-nil (λ (one : SignatureTree). has_signature own one ≡ true)
all_have own (first ∷ others) reported =
    let both = and_parts (has_signature own first) (has_signatures own others) reported in
    All-cons (λ (one : SignatureTree). has_signature own one ≡ true) first others both.0
    (all_have own others both.1)

-- and the other way round
have_all : (own signatures : List SignatureTree)
    → All (λ (one : SignatureTree). has_signature own one ≡ true) signatures → has_signatures own signatures ≡ true
have_all own [] all = refl
have_all own (first ∷ others) all =
    and_from (has_signature own first) (has_signatures own others)
    (All-head (λ (one : SignatureTree). has_signature own one ≡ true) first others all)
    (have_all own others (All-tail (λ (one : SignatureTree). has_signature own one ≡ true) first others all))

-- the methods of a class, if it is there
class_is : (declarations : List DeclTree) (class : ℕ) {place : Place} {name : DeclaredTree} {params : List ParamTree}
    {implemented : List DeclaredTree} {members : List MemberTree}
    → slice_get declarations class ≡ Some (ClassTree place name params implemented members)
    → has_signatures (own_signatures declarations class) (inherited_signatures declarations class)
    ≡ meets_interfaces declarations class members
class_is declarations class there =
    ap (λ (found : Option DeclTree).
    has_signatures (signatures_if_there found) (inherited_signatures declarations class)) there

-- what is above is listed
pub above_listed : (declarations : List DeclTree) (class : ℕ) (above : List ℕ)
    → ((other : ℕ) → is_listed above other ≡ is_below declarations class other) → (other : ℕ)
    → is_below declarations class other ≡ true → Contains above other
unfolding is_listed
above_listed declarations class above lists other below =
    Contains-from_any eqb-true other above (lists other ∙ below)

-- what is listed is above
pub listed_above : (declarations : List DeclTree) (class : ℕ) (above : List ℕ)
    → ((other : ℕ) → is_listed above other ≡ is_below declarations class other) → (other : ℕ)
    → Contains above other → is_below declarations class other ≡ true
unfolding is_listed
listed_above declarations class above lists other there =
    sym (lists other) ∙ list_any-from_Contains nat_eq_equiv other above there

-- what is above is listed by the same list
pub same_list : (declarations : List DeclTree) (class : ℕ) (above items : List ℕ) → above ≡ items
    → ((other : ℕ) → is_listed items other ≡ is_below declarations class other)
    → (other : ℕ) → is_listed above other ≡ is_below declarations class other
same_list declarations class above items same lists other =
    ap (λ (list : List ℕ). is_listed list other) same ∙ lists other

-- a class has the methods of all interfaces above it
pub met_all : (declarations : List DeclTree) (class : ℕ) (above : List ℕ) (index : ℕ)
    → MetSoFar declarations class (take index above) → length above ≤ index
    → ((other : ℕ) → is_listed above other ≡ is_below declarations class other)
    → (place : Place) (name : DeclaredTree) (params : List ParamTree) (implemented : List DeclaredTree)
    (members : List MemberTree)
    → slice_get declarations class ≡ Some (ClassTree place name params implemented members)
    → true ≡ meets_interfaces declarations class members
met_all declarations class above index so over lists place name params implemented members there =
    let own = own_signatures declarations class in
    let Has : SignatureTree → Type 0 = λ (one : SignatureTree). has_signature own one ≡ true in
    let met : All (HasMethodsOf declarations class) above =
    subst (λ (items : List ℕ). All (HasMethodsOf declarations class) items) (take_all index above over) so.met in
    let each : (one : SignatureTree) → Contains (inherited_signatures declarations class) one → Has one =
    λ one among.
    let from = inherited declarations class one among in
    All-contains Has (own_signatures declarations from.other) one
    (all_have own (own_signatures declarations from.other)
    (All-contains (HasMethodsOf declarations class) above from.other met
    (above_listed declarations class above lists from.other from.below))) from.among in
    sym (have_all own (inherited_signatures declarations class)
    (All-weaker (Contains (inherited_signatures declarations class)) Has each (inherited_signatures declarations class)
    (All-contains_itself (inherited_signatures declarations class))))
    ∙ class_is declarations class there

-- a class that has not the methods of one interface above it does not have them all
pub met_not : (declarations : List DeclTree) (class : ℕ) (above : List ℕ) (index : ℕ) → index < length above
    → has_signatures (own_signatures declarations class) (own_signatures declarations (get_or above index 0)) ≡ false
    → ((other : ℕ) → is_listed above other ≡ is_below declarations class other)
    → (place : Place) (name : DeclaredTree) (params : List ParamTree) (implemented : List DeclaredTree)
    (members : List MemberTree)
    → slice_get declarations class ≡ Some (ClassTree place name params implemented members)
    → false ≡ meets_interfaces declarations class members
met_not declarations class above index below lacks lists place name params implemented members there =
    let own = own_signatures declarations class in
    let other = get_or above index 0 in
    let Has : SignatureTree → Type 0 = λ (one : SignatureTree). has_signature own one ≡ true in
    let is_above = listed_above declarations class above lists other (Contains-get_or above index 0 below) in
    let not_all : has_signatures own (inherited_signatures declarations class) ≡ true → ⊥ =
    λ reported.
    true≢false (sym (have_all own (own_signatures declarations other)
    (All-weaker (Contains (own_signatures declarations other)) Has
    (λ one among. All-contains Has (inherited_signatures declarations class) one
    (all_have own (inherited_signatures declarations class) reported)
    (inherits declarations class other one is_above among))
    (own_signatures declarations other) (All-contains_itself (own_signatures declarations other)))) ∙ lacks) in
    sym (false_from_ne_true (has_signatures own (inherited_signatures declarations class)) not_all)
    ∙ class_is declarations class there
