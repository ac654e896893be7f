-- The methods of an interface that have a name and take so many parameters: those at places of interfaces that are
-- picked, which are the interface itself and those above it.
--
--   `own_called`, `inherited_called`   those that an interface declares, and those that it inherits
--   `interface_called`                 those of an interface are both
--   `AddedSoFar`                       those at the places before an index were added
--   `added_begins`, `added_picked`, `added_other`, `added_ends`    before the first place, one more, and all
use Rattle.std.proofs.Common.{◌≡◌, ℕ, suc, zero, ◌+◌, ◌<◌, ◌≤◌, Bool, true, false, List, [], ◌∷◌, ◌++◌, Option, Some, if◌then◌else◌, filter, length, take, get_or, nat_eq, refl, sym, ap, ap₂, ◌∙◌, zero-add, arith, append_assoc, append-nil, true≢false, eqb-true}
use Rattle.std.specs.Prelude.{slice_get}
use Rattle.std.specs.Str.{bytes_eq}
use Rattle.std.proofs.lemmas.Bool.Decides.{nat_tests}
use Rattle.std.proofs.lemmas.List.{take_all, take_more}
use Rattle.std.proofs.lemmas.List.Elements.{filter-append}
use Rattle.std.proofs.lemmas.Option.{same_Some}
use Rattle.abs_program.proofs.DeclaredLemmas.{interface_is_declared}
use Rattle.abs_program.specs.Members.{signature_among as places_among, signature_in as places_in, signatures_from as places_from, signatures_of}
use Rattle.abs_program.specs.NameSpaces.{spaces_of}
use Rattle.abs_program.specs.Supertypes.{is_below}
use Rattle.abs_tree.specs.Syntax.{Name, DeclaredTree, SignatureTree, DeclTree, DataTree, FunctionTree, InterfaceTree, ClassTree}
use Rattle.abs_program.specs.Tables.{meaning_of}
use Rattle.abs_program.specs.declared.name_spaces.TypeMeaning.TheVariants as type
use Rattle.abs_tree.specs.declared.place.Place.{Place}
use Rattle.abs_program.specs.declared.tables.members.SignatureAt.{SignatureAt}
use Rattle.abs_types.specs.Methods.{inherited_signatures, is_called, own_signatures, signatures_above, signatures_if_there, signatures_in, signatures_of_type}
use Rattle.check_fun.specs.ObjectHeads.{OfInterface}
use Rattle.check_obj.proofs.BelowLemmas.{IsInterfaceAt, below_is_interface}
use Rattle.check_obj.proofs.CallLemmas.{first_called, first_named}
use Rattle.check_obj.specs.Calls.{called, if_called, if_there, picked, signature_tree_at}
use Rattle.list_facts.proofs.RestLemmas.{IsRest, rest_first, rest_others}

-- whether a declaration is an interface
abbrev is_interface : DeclTree → Bool
is_interface (InterfaceTree place name extended signatures) = true
is_interface (ClassTree place name params implemented members) = false
is_interface (DataTree place name type_params constructors) = false
is_interface (FunctionTree place result name type_params params value) = false

-- what is declared at the index of an interface is one
declared_is_interface : {declarations : List DeclTree} {index : ℕ} {declaration : DeclTree}
    → IsInterfaceAt declarations index → slice_get declarations index ≡ Some declaration
    → is_interface declaration ≡ true
declared_is_interface at there =
    ap is_interface (same_Some _ _ (sym there ∙ at.is.there))

-- the places that are picked in two lists
picked_append : (pick : ℕ → Bool) (declarations : List DeclTree) (count : ℕ) (first others : List SignatureAt)
    → picked pick declarations count (first ++ others)
    ≡ picked pick declarations count first ++ picked pick declarations count others
picked_append pick declarations count [] others = refl
picked_append pick declarations count (at ∷ first) others =
    let own = if pick at.interface then if_there count (signature_tree_at declarations at) else [] in
    ap (λ (rest : List SignatureTree). own ++ rest) (picked_append pick declarations count first others)
    ∙ sym (append_assoc own (picked pick declarations count first) (picked pick declarations count others))

-- none is picked in an interface that is not: the case of one more
none_picked_step : (pick : ℕ → Bool) (declarations : List DeclTree) (count interface base : ℕ)
    (rest : List SignatureAt) (reported : Bool) → pick interface ≡ false → [] ≡ picked pick declarations count rest
    → [] ≡ picked pick declarations count
    (if reported then record { interface = interface; index = base } ∷ [] else rest)
none_picked_step pick declarations count interface base rest true apart none = rw apart refl
none_picked_step pick declarations count interface base rest false apart none = none

-- none is picked in an interface that is not
none_picked : (pick : ℕ → Bool) (declarations : List DeclTree) (count interface base : ℕ)
    (signatures : List SignatureTree) (name : Name) → pick interface ≡ false
    → [] ≡ picked pick declarations count (places_among interface base signatures name)
none_picked pick declarations count interface base [] name apart = refl
none_picked pick declarations count interface base (first ∷ others) name apart =
    none_picked_step pick declarations count interface base (places_among interface (base + 1) others name)
    (bytes_eq first.name.name name) apart
    (none_picked pick declarations count interface (base + 1) others name apart)

-- the method at a place of an interface
method_there : (declarations : List DeclTree) (interface index : ℕ) (place : Place) (own : DeclaredTree)
    (extended : List DeclaredTree) (signatures : List SignatureTree) (first : SignatureTree)
    → slice_get declarations interface ≡ Some (InterfaceTree place own extended signatures)
    → slice_get signatures index ≡ Some first
    → signature_tree_at declarations (record { interface = interface; index = index }) ≡ Some first
unfolding signature_tree_at
method_there declarations interface index place own extended signatures first there is = rw there is

-- the place of the first method with a name is picked: the case of one more
one_picked_step : (pick : ℕ → Bool) (declarations : List DeclTree) (count interface base : ℕ) (first : SignatureTree)
    (rest : List SignatureAt) (later : Option SignatureTree) (reported : Bool) → pick interface ≡ true
    → signature_tree_at declarations (record { interface = interface; index = base }) ≡ Some first
    → if_there count later ≡ picked pick declarations count rest
    → if_there count (if reported then Some first else later)
    ≡ picked pick declarations count (if reported then record { interface = interface; index = base } ∷ [] else rest)
one_picked_step pick declarations count interface base first rest later true picks is found =
    rw (picks, is) (sym (append-nil (if_called count first)))
one_picked_step pick declarations count interface base first rest later false picks is found = found

-- the place of the first method with a name is picked, if the interface is
one_picked : (pick : ℕ → Bool) (declarations : List DeclTree) (count interface base : ℕ) (place : Place)
    (own : DeclaredTree) (extended : List DeclaredTree) (all signatures : List SignatureTree) (name : Name)
    → pick interface ≡ true → slice_get declarations interface ≡ Some (InterfaceTree place own extended all)
    → IsRest all base signatures
    → if_there count (first_named name signatures)
    ≡ picked pick declarations count (places_among interface base signatures name)
one_picked pick declarations count interface base place own extended all [] name picks there is = refl
one_picked pick declarations count interface base place own extended all (first ∷ others) name picks there is =
    one_picked_step pick declarations count interface base first (places_among interface (base + 1) others name)
    (first_named name others) (bytes_eq first.name.name name) picks
    (method_there declarations interface base place own extended all first there (rest_first all base first others is))
    (one_picked pick declarations count interface (base + 1) place own extended all others name picks there
    (rest_others all base first others is))

-- the methods of a declaration that is picked
abbrev methods_if : Bool → DeclTree → List SignatureTree
methods_if reported declaration = if reported then signatures_in declaration else []

-- those called so of a declaration are at the places that are picked
picked_in : (pick : ℕ → Bool) (declarations : List DeclTree) (count index : ℕ) (declaration : DeclTree) (name : Name)
    (reported : Bool) → pick index ≡ reported → slice_get declarations index ≡ Some declaration
    → (pick index ≡ true → IsInterfaceAt declarations index)
    → filter (is_called name count) (methods_if reported declaration)
    ≡ picked pick declarations count (places_in index declaration name)
picked_in pick declarations count index (InterfaceTree place own extended signatures) name true picks there so =
    first_called name count signatures
    ∙ one_picked pick declarations count index 0 place own extended signatures signatures name picks there
    (λ k. ap (slice_get signatures) (sym (zero-add k)))
picked_in pick declarations count index (InterfaceTree place own extended signatures) name false picks there so =
    none_picked pick declarations count index 0 signatures name picks
picked_in pick declarations count index (ClassTree place own params implemented members) name true picks there so =
    absurd (true≢false (sym (declared_is_interface (so picks) there)))
picked_in pick declarations count index (DataTree place own type_params constructors) name true picks there so =
    absurd (true≢false (sym (declared_is_interface (so picks) there)))
picked_in pick declarations count index (FunctionTree place result own type_params params value) name true picks there
    so = absurd (true≢false (sym (declared_is_interface (so picks) there)))
picked_in pick declarations count index (ClassTree place own params implemented members) name false picks there so =
    refl
picked_in pick declarations count index (DataTree place own type_params constructors) name false picks there so = refl
picked_in pick declarations count index (FunctionTree place result own type_params params value) name false picks there
    so = refl

-- the methods of the declarations that are picked, the first of which has this index
abbrev methods_picked : (ℕ → Bool) → ℕ → List DeclTree → List SignatureTree
methods_picked pick index [] = []
methods_picked pick index (first ∷ others) =
    methods_if (pick index) first ++ methods_picked pick (index + 1) others

-- those called so are at the places that are picked
picked_from : (pick : ℕ → Bool) (declarations : List DeclTree) (count index : ℕ) (rest : List DeclTree) (name : Name)
    → IsRest declarations index rest → ((one : ℕ) → pick one ≡ true → IsInterfaceAt declarations one)
    → filter (is_called name count) (methods_picked pick index rest)
    ≡ picked pick declarations count (places_from index rest name)
picked_from pick declarations count index [] name is so = refl
picked_from pick declarations count index (first ∷ others) name is so =
    filter-append (is_called name count) (methods_if (pick index) first) (methods_picked pick (index + 1) others)
    ∙ ap₂ (λ (own more : List SignatureTree). own ++ more)
    (picked_in pick declarations count index first name (pick index) refl
    (rest_first declarations index first others is) (so index))
    (picked_from pick declarations count (index + 1) others name (rest_others declarations index first others is) so)
    ∙ sym (picked_append pick declarations count (places_in index first name) (places_from (index + 1) others name))

-- those of all declarations
all_picked : (pick : ℕ → Bool) (declarations : List DeclTree) (count : ℕ) (name : Name)
    → ((one : ℕ) → pick one ≡ true → IsInterfaceAt declarations one)
    → filter (is_called name count) (methods_picked pick 0 declarations)
    ≡ picked pick declarations count (signatures_of declarations name)
unfolding signatures_of
all_picked pick declarations count name so =
    picked_from pick declarations count 0 declarations name (λ k. ap (slice_get declarations) (sym (zero-add k))) so

-- the methods of the interfaces above another one are those of the declarations that are picked so
above_is : (declarations : List DeclTree) (own index : ℕ) (rest : List DeclTree)
    → signatures_above declarations own index rest ≡ methods_picked (is_below declarations own) index rest
above_is declarations own index [] = refl
above_is declarations own index (first ∷ others) =
    let next : 1 + index ≡ index + 1 = omega arith in
    ap (λ (more : List SignatureTree). methods_if (is_below declarations own index) first ++ more)
    (above_is declarations own (1 + index) others
    ∙ ap (λ (at : ℕ). methods_picked (is_below declarations own) at others) next)

-- no declaration after an index is the one with the index
none_after : (own index : ℕ) (rest : List DeclTree) → own < index
    → methods_picked (λ (one : ℕ). nat_eq one own) index rest ≡ []
none_after own index [] below = refl
none_after own index (first ∷ others) below =
    let differs : nat_eq index own ≡ false = grind (arith, nat_tests) in
    rw differs (none_after own (index + 1) others (omega arith))

-- one declaration is the one with the index
own_is : (own index place : ℕ) (rest : List DeclTree) → own ≡ index + place
    → methods_picked (λ (one : ℕ). nat_eq one own) index rest ≡ signatures_if_there (slice_get rest place)
own_is own index place [] is = refl
own_is own index zero (first ∷ others) is =
    let same : nat_eq index own ≡ true = grind (arith, nat_tests) in
    rw (same, none_after own (index + 1) others (omega arith)) (append-nil (signatures_in first))
own_is own index (suc place) (first ∷ others) is =
    let differs : nat_eq index own ≡ false = grind (arith, nat_tests) in
    rw differs (own_is own (index + 1) place others (omega arith))

-- those that an interface declares are at its own places
pub own_called : (declarations : List DeclTree) (count own : ℕ) (name : Name) → IsInterfaceAt declarations own
    → filter (is_called name count) (own_signatures declarations own)
    ≡ picked (λ (one : ℕ). nat_eq one own) declarations count (signatures_of declarations name)
own_called declarations count own name at =
    ap (filter (is_called name count)) (sym (own_is own 0 own declarations (sym (zero-add own))))
    ∙ all_picked (λ (one : ℕ). nat_eq one own) declarations count name
    (λ one same. let is : one ≡ own = eqb-true one own same in rw is at)

-- those that it inherits are at the places of the interfaces above it
pub inherited_called : (declarations : List DeclTree) (count own : ℕ) (name : Name)
    → filter (is_called name count) (inherited_signatures declarations own)
    ≡ picked (is_below declarations own) declarations count (signatures_of declarations name)
unfolding inherited_signatures
inherited_called declarations count own name =
    ap (filter (is_called name count)) (above_is declarations own 0 declarations)
    ∙ all_picked (is_below declarations own) declarations count name
    (λ one below. below_is_interface declarations own one below)

-- those of an interface are both
pub interface_called : (declarations : List DeclTree) (interface name : Name) (own count : ℕ)
    → meaning_of (spaces_of declarations).types interface ≡ Some (type.Interface own)
    → picked (λ (one : ℕ). nat_eq one own) declarations count (signatures_of declarations name)
    ++ picked (is_below declarations own) declarations count (signatures_of declarations name)
    ≡ called declarations (OfInterface interface) name count
unfolding signatures_of_type
interface_called declarations interface name own count known =
    let at : IsInterfaceAt declarations own =
    record { name = interface; is = interface_is_declared declarations interface own known } in
    rw known (sym (filter-append (is_called name count) (own_signatures declarations own)
    (inherited_signatures declarations own)
    ∙ ap₂ (λ (first others : List SignatureTree). first ++ others) (own_called declarations count own name at)
    (inherited_called declarations count own name)))

-- The methods at the places before an index were added to others.
pub record AddedSoFar (pick : ℕ → Bool) (declarations : List DeclTree) (count : ℕ) (places : List SignatureAt)
    (index : ℕ) (before now : List SignatureTree) : Type 0 where
  pub added : now ≡ before ++ picked pick declarations count (take index places)

-- nothing was added
pub added_begins : {pick : ℕ → Bool} {declarations : List DeclTree} {count : ℕ} {places : List SignatureAt}
    {before : List SignatureTree} → AddedSoFar pick declarations count places 0 before before
added_begins {before = before} = record { added = sym (append-nil before) }

-- the method at one more place
added_one : (pick : ℕ → Bool) (declarations : List DeclTree) (count : ℕ) (places : List SignatureAt) (index : ℕ)
    (default : SignatureAt) (reported : Bool) → index < length places → pick (get_or places index default).interface ≡ reported
    → picked pick declarations count (take (index + 1) places)
    ≡ picked pick declarations count (take index places)
    ++ (if reported then if_there count (signature_tree_at declarations (get_or places index default)) else [])
added_one pick declarations count places index default reported there is =
    let at = get_or places index default in
    ap (picked pick declarations count) (take_more places index default there)
    ∙ picked_append pick declarations count (take index places) (at ∷ [])
    ∙ ap (λ (one : List SignatureTree). picked pick declarations count (take index places) ++ one)
    (append-nil (if pick at.interface then if_there count (signature_tree_at declarations at) else [])
    ∙ ap (λ (one : Bool). if one then if_there count (signature_tree_at declarations at) else []) is)

-- it was added, if its interface is picked
pub added_picked : {pick : ℕ → Bool} {declarations : List DeclTree} {count : ℕ} {places : List SignatureAt} {index : ℕ}
    {before now later : List SignatureTree} (default : SignatureAt)
    → AddedSoFar pick declarations count places index before now → index < length places
    → pick (get_or places index default).interface ≡ true
    → later ≡ now ++ if_there count (signature_tree_at declarations (get_or places index default))
    → AddedSoFar pick declarations count places (index + 1) before later
added_picked {pick} {declarations} {count} {places} {index} {before} default so there picks more =
    let at = get_or places index default in
    record {
      added = more
          ∙ ap (λ (all : List SignatureTree). all ++ if_there count (signature_tree_at declarations at)) so.added
          ∙ append_assoc before (picked pick declarations count (take index places))
          (if_there count (signature_tree_at declarations at))
          ∙ ap (λ (all : List SignatureTree). before ++ all)
          (sym (added_one pick declarations count places index default true there picks));
    }

-- nothing more was added, if it is not
pub added_other : {pick : ℕ → Bool} {declarations : List DeclTree} {count : ℕ} {places : List SignatureAt} {index : ℕ}
    {before now : List SignatureTree} (default : SignatureAt)
    → AddedSoFar pick declarations count places index before now → index < length places
    → pick (get_or places index default).interface ≡ false
    → AddedSoFar pick declarations count places (index + 1) before now
added_other {pick} {declarations} {count} {places} {index} {before} default so there apart =
    record {
      added = so.added
          ∙ ap (λ (all : List SignatureTree). before ++ all)
          (sym (added_one pick declarations count places index default false there apart
          ∙ append-nil (picked pick declarations count (take index places))));
    }

-- all were added
pub added_ends : {pick : ℕ → Bool} {declarations : List DeclTree} {count : ℕ} {places all : List SignatureAt}
    {index : ℕ} {before now : List SignatureTree} → AddedSoFar pick declarations count places index before now
    → length places ≤ index → places ≡ all → now ≡ before ++ picked pick declarations count all
added_ends {pick} {declarations} {count} {places} {index = index} {before = before} so over is =
    so.added ∙ ap (λ (tried : List SignatureAt). before ++ picked pick declarations count tried)
    (take_all index places over ∙ is)
