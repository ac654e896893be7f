-- Whether methods of one name have the same types in an interface and those above it.
--
--   `gathered`                     the entries of several declarations
--   `AgreedSoFar`                  those of the first interfaces above agree
--   `agreed_first`, `agreed_next`  it is so before the first one, and after one more
--   `agreed_fails`                 one that does not agree settles that not all do
--   `agreed_all`                   the interface itself settles whether all do
--   `agreed_none`                  all do, if no names have several types
use Rattle.std.proofs.Common.{◌≡◌, ℕ, ◌+◌, ◌<◌, ◌≤◌, Bool, true, false, ◌&&◌, List, [], ◌∷◌, ◌++◌, Option, Some, get_or, length, map, nat_eq, take, All, Contains, refl, sym, ap, true≢false, ◌∙◌, subst, ⊎_elim, arith}
use Rattle.std.specs.List.{list_any}
use Rattle.std.specs.Prelude.{slice_get}
use Rattle.std.proofs.lemmas.Bool.{cases_Bool, false_from_ne_true}
use Rattle.std.proofs.lemmas.List.{append-nil, append_assoc, get_or-map, length-map, nil_from_length, take_all, take_more}
use Rattle.std.proofs.lemmas.List.Elements.{All-append, All-contains, All-contains_itself, All-head, All-map, All-nil, All-tail, All-take, All-weaker, Contains-append_cases, Contains-append_left, Contains-append_right}
use Rattle.abs_graph.specs.Graphs.{is_listed}
use Rattle.abs_tree.specs.Names.{number_of_name}
use Rattle.abs_program.specs.Supertypes.{is_below}
use Rattle.abs_tree.specs.Syntax.{Name, DeclaredTree, DeclTree, InterfaceTree, SignatureTree}
use Rattle.abs_tree.specs.declared.place.Place.{Place}
use Rattle.abs_types.specs.InterfacesMet.{agree, agrees}
use Rattle.abs_types.specs.Methods.{inherited_signatures, own_signatures, signatures_if_there}
use Rattle.abs_types.specs.PlainTypes.{PlainType}
use Rattle.abs_types.specs.TypeShapes.{named_by}
use Rattle.abs_types.specs.TypeTables.{declarations_of}
use Rattle.abs_types.specs.declared.table.TypeTable.{TypeTable}
use Rattle.abs_types.specs.declared.table.shape.TypeIndex.{TypeIndex}
use Rattle.check_obj.proofs.BelowLemmas.{below_is_interface}
use Rattle.check_obj.proofs.EntriesLemmas.{after_append, agree_append, agree_one_type, consistent_agree, Consistent}
use Rattle.check_obj.proofs.FirstLemmas.{IsNamed}
use Rattle.check_obj.proofs.InheritedLemmas.{inherited, inherits, named_own}
use Rattle.check_obj.proofs.MeetLemmas.{above_listed, listed_above}
use Rattle.check_obj.proofs.OneTypeLemmas.{agree_found, agree_whole, HaveOneType}
use Rattle.check_obj.proofs.SeveralReportedLemmas.{no_types}
use Rattle.check_obj.specs.MethodRows.{row_entry, signature_type, IsDeclared, TellsSeveral}
use Rattle.check_obj.specs.MethodsMet.{entries_agree, entries_in, met_after, typed_row, HasTypes}
use Rattle.list_facts.proofs.AllLemmas.{Contains-head_or_tail}
use Rattle.std.specs.Cmp.{both_ways}

-- the methods of a declaration, and those of the interfaces above it
abbrev methods_at : List DeclTree → ℕ → List SignatureTree
methods_at declarations index = own_signatures declarations index ++ inherited_signatures declarations index

-- they have names of the table
named_at : (table : TypeTable) (index : ℕ) (one : SignatureTree)
    → Contains (methods_at (declarations_of table) index) one → IsNamed table.program.now.symbols one
named_at table index one among =
    let names = table.program.now.symbols in
    let named : (at : ℕ) → Contains (own_signatures (declarations_of table) at) one → IsNamed names one =
    λ at there. All-contains (IsNamed names) (own_signatures (declarations_of table) at) one (named_own table at).each
    there in
    ⊎_elim (named index)
    (λ above. let from = inherited (declarations_of table) index one above in named from.other from.among)
    (Contains-append_cases (own_signatures (declarations_of table) index)
    (inherited_signatures (declarations_of table) index) one among)

-- an interface declares what it declares by itself
own_declared : {declarations : List DeclTree} (index : ℕ) {place : Place} {name : DeclaredTree}
    {extended : List DeclaredTree} {signatures : List SignatureTree} {one : SignatureTree}
    → slice_get declarations index ≡ Some (InterfaceTree place name extended signatures)
    → Contains (own_signatures declarations index) one → IsDeclared declarations one
own_declared {declarations} index {place} {name} {extended} {signatures} {one} there among = record {
  index = index;
  declaration = InterfaceTree place name extended signatures;
  there = there;
  is_one = refl;
  among = subst (λ (found : Option DeclTree). Contains (signatures_if_there found) one) there among;
}

-- the methods of an interface, and those of the interfaces above it, are declared by interfaces
declared_at : (declarations : List DeclTree) (index : ℕ) {place : Place} {name : DeclaredTree}
    {extended : List DeclaredTree} {signatures : List SignatureTree} (one : SignatureTree)
    → slice_get declarations index ≡ Some (InterfaceTree place name extended signatures)
    → Contains (methods_at declarations index) one → IsDeclared declarations one
declared_at declarations index one there among = ⊎_elim
    (λ own. own_declared index there own)
    (λ above.
    let from = inherited declarations index one above in
    own_declared from.other (below_is_interface declarations index from.other from.below).is.there from.among)
    (Contains-append_cases (own_signatures declarations index) (inherited_signatures declarations index) one among)

-- whether they agree
agree_at : (declarations : List DeclTree) (index : ℕ) {place : Place} {name : DeclaredTree}
    {extended : List DeclaredTree} {signatures : List SignatureTree}
    → slice_get declarations index ≡ Some (InterfaceTree place name extended signatures)
    → agree (methods_at declarations index) ≡ agrees declarations index signatures
agree_at declarations index there =
    ap (λ (found : Option DeclTree). agree (signatures_if_there found ++ inherited_signatures declarations index)) there

-- An entry is that of one of them.
record IsEntryOf (table : TypeTable) (index : ℕ) (entry : ℕ × PlainType) : Type 0 where
  pub one : SignatureTree
  pub among : Contains (methods_at (declarations_of table) index) one
  pub is : row_entry table.program.now.symbols one ≡ entry

-- where they agree, their entries have one type under each number
entries_consistent : (table : TypeTable) (index : ℕ) (several : List ℕ)
    → agree (methods_at (declarations_of table) index) ≡ true → Consistent several (IsEntryOf table index)
entries_consistent table index several agreed = record {
  one_type = λ number one other first second counts.
      let names = table.program.now.symbols in
      let numbers : number_of_name names first.one.name.name ≡ number_of_name names second.one.name.name =
      ap (λ (entry : ℕ × PlainType). entry.0) first.is ∙ sym (ap (λ (entry : ℕ × PlainType). entry.0) second.is) in
      let same : first.one.name.name ≡ second.one.name.name =
      sym (named_at table index first.one first.among)
      ∙ (ap (named_by names) numbers ∙ named_at table index second.one second.among) in
      sym (ap (λ (entry : ℕ × PlainType). entry.1) first.is)
      ∙ ((agree_found (methods_at (declarations_of table) index) agreed).one_type first.one second.one first.among
      second.among same
      ∙ ap (λ (entry : ℕ × PlainType). entry.1) second.is);
}

-- the entries of several declarations
abbrev pub gathered : TypeTable → List ℕ → List (ℕ × PlainType)
gathered table [] = []
gathered table (index ∷ others) = entries_in table index ++ gathered table others

-- those of one more
gathered_push : (table : TypeTable) (indices : List ℕ) (index : ℕ)
    → gathered table (indices ++ index ∷ []) ≡ gathered table indices ++ entries_in table index
gathered_push table [] index = append-nil (entries_in table index)
gathered_push table (first ∷ others) index =
    ap (λ (entries : List (ℕ × PlainType)). entries_in table first ++ entries) (gathered_push table others index)
    ∙ sym (append_assoc (entries_in table first) (gathered table others) (entries_in table index))

-- the entry of a method is among those of its declaration
entry_among : (table : TypeTable) (index : ℕ) (one : SignatureTree)
    → Contains (own_signatures (declarations_of table) index) one
    → Contains (entries_in table index) (row_entry table.program.now.symbols one)
entry_among table index one there =
    let entry = row_entry table.program.now.symbols in
    let own = own_signatures (declarations_of table) index in
    let long : length (map entry own) ≡ length own = length-map own entry in
    (there.0, omega (arith, there.1), get_or-map entry own there.0 one (entry one) there.1 ∙ ap entry there.2)

-- it is among those of several declarations
entry_gathered : (table : TypeTable) (indices : List ℕ) (index : ℕ) (one : SignatureTree) → Contains indices index
    → Contains (own_signatures (declarations_of table) index) one
    → Contains (gathered table indices) (row_entry table.program.now.symbols one)
entry_gathered table [] index one there among = absurd (omega (arith, there.1))
entry_gathered table (first ∷ others) index one there among = ⊎_elim
    (λ same. Contains-append_left (entries_in table first) (gathered table others)
    (row_entry table.program.now.symbols one)
    (entry_among table first one
    (subst (λ (at : ℕ). Contains (own_signatures (declarations_of table) at) one) (sym same) among)))
    (λ rest. Contains-append_right (entries_in table first) (gathered table others)
    (row_entry table.program.now.symbols one) (entry_gathered table others index one rest among))
    (Contains-head_or_tail first others index there)

-- the entries of a declaration are entries of methods at an interface, if its methods are such
entries_of_own : (table : TypeTable) (index other : ℕ)
    → ((one : SignatureTree) → Contains (own_signatures (declarations_of table) other) one
    → Contains (methods_at (declarations_of table) index) one)
    → All (IsEntryOf table index) (entries_in table other)
entries_of_own table index other such =
    let own = own_signatures (declarations_of table) other in
    let entry = row_entry table.program.now.symbols in
    All-map (IsEntryOf table index) entry own
    (All-weaker (Contains own) (λ (one : SignatureTree). IsEntryOf table index (entry one))
    (λ one among. record { one = one; among = such one among; is = refl }) own (All-contains_itself own))

-- so are those of the interface itself
own_entries : (table : TypeTable) (index : ℕ) → All (IsEntryOf table index) (entries_in table index)
own_entries table index =
    entries_of_own table index index
    (Contains-append_left (own_signatures (declarations_of table) index)
    (inherited_signatures (declarations_of table) index))

-- so are those of the interfaces above it
above_entries : (table : TypeTable) (index : ℕ) (above : List ℕ)
    → All (λ (other : ℕ). is_below (declarations_of table) index other ≡ true) above
    → All (IsEntryOf table index) (gathered table above)
above_entries table index [] below = All-nil (IsEntryOf table index)
above_entries table index (first ∷ others) below =
    let IsBelow : ℕ → Type 0 = λ (other : ℕ). is_below (declarations_of table) index other ≡ true in
    All-append (IsEntryOf table index) (entries_in table first) (gathered table others)
    (entries_of_own table index first
    (λ one among. Contains-append_right (own_signatures (declarations_of table) index)
    (inherited_signatures (declarations_of table) index) one
    (inherits (declarations_of table) index first one (All-head IsBelow first others below) among)))
    (above_entries table index others (All-tail IsBelow first others below))

-- those that a list has are below
all_below : (declarations : List DeclTree) (index : ℕ) (above : List ℕ)
    → ((other : ℕ) → is_listed above other ≡ is_below declarations index other)
    → All (λ (other : ℕ). is_below declarations index other ≡ true) above
all_below declarations index above lists =
    All-weaker (Contains above) (λ (other : ℕ). is_below declarations index other ≡ true)
    (listed_above declarations index above lists) above (All-contains_itself above)

-- Those of some interfaces above agree, and this is met after them.
pub record AgreedSoFar (table : TypeTable) (several : List ℕ) (met : List (ℕ × TypeIndex)) (above : List ℕ) : Type 0
  where
    pub among : HasTypes table met
    pub agreed : entries_agree several [] (gathered table above) ≡ true
    pub after : typed_row table met ≡ met_after several [] (gathered table above)

-- it is so before the first one
pub agreed_first : {table : TypeTable} {several : List ℕ} {met : List (ℕ × TypeIndex)} → met ≡ []
    → AgreedSoFar table several met []
agreed_first {table} none =
    record { among = rw none (no_types table); agreed = refl; after = ap (typed_row table) none }

-- those of one more agree, if they agree with what is met
agreed_more : {table : TypeTable} {several : List ℕ} {met : List (ℕ × TypeIndex)} {above : List ℕ} (index : ℕ)
    (reported : Bool) → AgreedSoFar table several met above
    → reported ≡ entries_agree several (typed_row table met) (entries_in table index)
    → reported ≡ entries_agree several [] (gathered table above ++ entries_in table index)
agreed_more {table} {several} {met} {above} index reported so tells =
    tells ∙ (ap (λ (entries : List (ℕ × PlainType)). entries_agree several entries (entries_in table index)) so.after
    ∙ (ap (λ (agreed : Bool). agreed
    && entries_agree several (met_after several [] (gathered table above)) (entries_in table index)) (sym so.agreed)
    ∙ sym (agree_append several [] (gathered table above) (entries_in table index))))

-- it is so after one more
pub agreed_next : {table : TypeTable} {several : List ℕ} {met after : List (ℕ × TypeIndex)} (above : List ℕ)
    (index : ℕ) (reported : Bool) → AgreedSoFar table several met (take index above) → index < length above
    → reported ≡ entries_agree several (typed_row table met) (entries_in table (get_or above index 0)) → reported ≡ true
    → HasTypes table after
    → (reported ≡ true → typed_row table after
    ≡ met_after several (typed_row table met) (entries_in table (get_or above index 0)))
    → AgreedSoFar table several after (take (index + 1) above)
agreed_next {table} {several} {met} {after} above index reported so there tells agrees_here among met_is =
    let other = get_or above index 0 in
    let is : gathered table (take (index + 1) above) ≡ gathered table (take index above) ++ entries_in table other =
    ap (gathered table) (take_more above index 0 there) ∙ gathered_push table (take index above) other in
    record {
      among = among;
      agreed = ap (entries_agree several []) is ∙ (sym (agreed_more other reported so tells) ∙ agrees_here);
      after = met_is agrees_here
          ∙ (ap (λ (entries : List (ℕ × PlainType)). met_after several entries (entries_in table other)) so.after
          ∙ (sym (after_append several [] (gathered table (take index above)) (entries_in table other))
          ∙ ap (met_after several []) (sym is)));
    }

-- one that does not agree settles that not all do
pub agreed_fails : {table : TypeTable} {several : List ℕ} {met : List (ℕ × TypeIndex)} (interface : ℕ)
    (above : List ℕ) (index : ℕ) (reported : Bool) → AgreedSoFar table several met (take index above)
    → index < length above
    → reported ≡ entries_agree several (typed_row table met) (entries_in table (get_or above index 0)) → reported ≡ false
    → ((other : ℕ) → is_listed above other ≡ is_below (declarations_of table) interface other)
    → (place : Place) (name : DeclaredTree) (extended : List DeclaredTree) (signatures : List SignatureTree)
    → slice_get (declarations_of table) interface ≡ Some (InterfaceTree place name extended signatures)
    → false ≡ agrees (declarations_of table) interface signatures
agreed_fails {table} {several} {met} interface above index reported so there tells fails lists place name extended
    signatures found =
    let declarations = declarations_of table in
    let IsBelow : ℕ → Type 0 = λ (other : ℕ). is_below declarations interface other ≡ true in
    let other = get_or above index 0 in
    let below = all_below declarations interface above lists in
    let such : All (IsEntryOf table interface) (gathered table (take index above) ++ entries_in table other) =
    subst (λ (entries : List (ℕ × PlainType)). All (IsEntryOf table interface) entries)
    (ap (gathered table) (take_more above index 0 there) ∙ gathered_push table (take index above) other)
    (above_entries table interface (take (index + 1) above) (All-take IsBelow (index + 1) above below)) in
    sym (false_from_ne_true (agree (methods_at declarations interface))
    (λ agreed. true≢false (sym (consistent_agree [] (gathered table (take index above) ++ entries_in table other)
    (entries_consistent table interface several agreed) (All-nil (IsEntryOf table interface)) such)
    ∙ (sym (agreed_more other reported so tells) ∙ fails))))
    ∙ agree_at declarations interface found

-- methods of one name at an interface have one type, where names that are not reported have one type, and entries agree
one_type_at : (table : TypeTable) (several : List ℕ) (interface : ℕ) (entries : List (ℕ × PlainType))
    → TellsSeveral table several → entries_agree several [] entries ≡ true
    → ((one : SignatureTree) → Contains (methods_at (declarations_of table) interface) one
    → Contains entries (row_entry table.program.now.symbols one))
    → ((one : SignatureTree) → Contains (methods_at (declarations_of table) interface) one
    → IsDeclared (declarations_of table) one)
    → HaveOneType (methods_at (declarations_of table) interface)
one_type_at table several interface entries tells agreed has declared = record {
  one_type = λ one other one_there other_there same.
      let number = number_of_name table.program.now.symbols in
      ⊎_elim
      (λ counts. agree_one_type several entries (number one.name.name) (signature_type one) (signature_type other)
      agreed (has one one_there)
      (subst (λ (name : Name). Contains entries (number name, signature_type other)) (sym same)
      (has other other_there)) counts)
      (λ alone. tells.one_type one other (declared one one_there) (declared other other_there) same alone)
      (cases_Bool (list_any (nat_eq (number one.name.name)) several));
}

-- the entries of the methods at an interface are among those of the interfaces above it and its own
has_gathered : (table : TypeTable) (interface : ℕ) (above : List ℕ) (one : SignatureTree)
    → ((other : ℕ) → is_listed above other ≡ is_below (declarations_of table) interface other)
    → Contains (methods_at (declarations_of table) interface) one
    → Contains (gathered table above ++ entries_in table interface) (row_entry table.program.now.symbols one)
has_gathered table interface above one lists among = ⊎_elim
    (λ own. Contains-append_right (gathered table above) (entries_in table interface)
    (row_entry table.program.now.symbols one) (entry_among table interface one own))
    (λ inherits_it.
    let from = inherited (declarations_of table) interface one inherits_it in
    Contains-append_left (gathered table above) (entries_in table interface)
    (row_entry table.program.now.symbols one)
    (entry_gathered table above from.other one
    (above_listed (declarations_of table) interface above lists from.other from.below) from.among))
    (Contains-append_cases (own_signatures (declarations_of table) interface)
    (inherited_signatures (declarations_of table) interface) one among)

-- the interface itself settles whether all agree
pub agreed_all : {table : TypeTable} {several : List ℕ} {met : List (ℕ × TypeIndex)} (interface : ℕ)
    (above : List ℕ) (index : ℕ) (reported : Bool) → AgreedSoFar table several met (take index above)
    → length above ≤ index → reported ≡ entries_agree several (typed_row table met) (entries_in table interface)
    → ((other : ℕ) → is_listed above other ≡ is_below (declarations_of table) interface other)
    → TellsSeveral table several
    → (place : Place) (name : DeclaredTree) (extended : List DeclaredTree) (signatures : List SignatureTree)
    → slice_get (declarations_of table) interface ≡ Some (InterfaceTree place name extended signatures)
    → reported ≡ agrees (declarations_of table) interface signatures
agreed_all {table} {several} {met} interface above index reported so over tells lists several_reported place name extended
    signatures found =
    let declarations = declarations_of table in
    let entries = gathered table above ++ entries_in table interface in
    let settled : reported ≡ entries_agree several [] entries =
    agreed_more interface reported so tells
    ∙ ap (λ (items : List ℕ). entries_agree several [] (gathered table items ++ entries_in table interface))
    (take_all index above over) in
    both_ways reported (agree (methods_at declarations interface))
    (λ agrees_here. agree_whole (methods_at declarations interface)
    (one_type_at table several interface entries several_reported (sym settled ∙ agrees_here)
    (λ one among. has_gathered table interface above one lists among)
    (λ one among. declared_at declarations interface one found among)))
    (λ agreed. settled ∙ consistent_agree [] entries (entries_consistent table interface several agreed)
    (All-nil (IsEntryOf table interface))
    (All-append (IsEntryOf table interface) (gathered table above) (entries_in table interface)
    (above_entries table interface above (all_below declarations interface above lists))
    (own_entries table interface)))
    ∙ agree_at declarations interface found

-- all agree, if no names have several types
pub agreed_none : {table : TypeTable} (several : List ℕ) (interface : ℕ) → length several ≡ 0
    → TellsSeveral table several
    → (place : Place) (name : DeclaredTree) (extended : List DeclaredTree) (signatures : List SignatureTree)
    → slice_get (declarations_of table) interface ≡ Some (InterfaceTree place name extended signatures)
    → true ≡ agrees (declarations_of table) interface signatures
agreed_none {table} several interface none tells place name extended signatures found =
    let declarations = declarations_of table in
    sym (agree_whole (methods_at declarations interface) (record {
      one_type = λ one other one_there other_there same.
          tells.one_type one other (declared_at declarations interface one found one_there)
          (declared_at declarations interface other found other_there) same
          (ap (list_any (nat_eq (number_of_name table.program.now.symbols one.name.name)))
          (nil_from_length several none));
    }))
    ∙ agree_at declarations interface found
