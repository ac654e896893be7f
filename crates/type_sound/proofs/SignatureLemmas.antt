-- Signatures of methods: a class has, by the names of their methods, those that it declares and those of the interfaces
-- above it, and so those of each type that it fits.
--
--   `HasMethod`                the first method of the name of a signature, among members, takes and gives the same
--   `HasMethods`               so it is for several signatures
--   `own_methods`              so it is for the signatures of the members themselves, the first one of each name
--   `met_methods`              and for those that the members are tested to have
--   `receiver_methods`         and for all of a type that the class fits
use Rattle.std.proofs.Common.{◌≡◌, ℕ, zero, suc, ◌+◌, Bool, true, false, true≢false, List, [], ◌∷◌, ◌++◌, Option, Some, None, refl, sym, ap, ap₂, ◌∙◌, subst, arith, filter, eqb-true, ⊎_elim}
use Rattle.std.specs.Prelude.{⊤, not, slice_get, if◌then◌else◌}
use Rattle.std.specs.Str.{bytes_eq}
use Rattle.std.proofs.lemmas.Bool.{and_parts, or_cases, false_from_ne_true}
use Rattle.std.proofs.lemmas.Option.{none-some, same_Some}
use Rattle.std.proofs.lemmas.Slice.Eq.{bytes_eq-Decides}
use Rattle.abs_program.specs.Members.{method_among}
use Rattle.abs_program.specs.NameSpaces.{spaces_of}
use Rattle.abs_program.specs.Supertypes.{is_below}
use Rattle.abs_program.specs.Tables.{meaning_of}
use Rattle.abs_program.specs.declared.name_spaces.Taking.{Taking}
use Rattle.abs_program.specs.declared.name_spaces.TypeMeaning.{TypeMeaning}
use Rattle.abs_program.specs.declared.name_spaces.TypeMeaning.TheVariants as type
use Rattle.abs_tree.specs.Syntax.{Name, SignatureTree, MemberTree, FieldTree, MethodTree, DeclTree, Statements}
use Rattle.abs_tree.specs.declared.place.Place.{Place}
use Rattle.abs_types.specs.InterfacesMet.{same_type, same_types, same_method, is_same_signature, has_signature, has_signatures}
use Rattle.abs_types.specs.Methods.{MethodType, method_type, is_named, first_of_each, member_signatures, signatures_in, signatures_if_there, own_signatures, signatures_above, inherited_signatures, class_signatures, interface_signatures, signatures_of_type}
use Rattle.abs_types.specs.PlainTypes.{PlainType, PlainInt, PlainString, PlainBottom, PlainNull, PlainFut, PlainData, PlainApplied, PlainInterface, PlainClass, PlainParameter}
use Rattle.abs_types.specs.Subtyping.{class_below, implements_name, fits}
use Rattle.abs_types.proofs.SubtypingLemmas.{below_transitive}
use Rattle.type_sound.proofs.ClassLemmas.{IsClassAt}

-- Among members, the first of which has the index `start`, the first method of the name of the signature takes and
-- gives the same types.
pub record HasMethod (start : ℕ) (members : List MemberTree) (wanted : SignatureTree) : Type 0 where
  pub member : ℕ
  pub signature : SignatureTree
  pub end : Place
  pub statements : Statements
  pub found : method_among start members wanted.name.name ≡ Some (start + member)
  pub there : slice_get members member ≡ Some (MethodTree signature end statements)
  pub same : method_type signature ≡ method_type wanted

-- so it is for each of several signatures
abbrev pub HasMethods : ℕ → List MemberTree → List SignatureTree → Type 0
HasMethods start members [] = ⊤
HasMethods start members (first ∷ others) = HasMethod start members first × HasMethods start members others

-- there are methods of the signatures of two lists, if there are those of each
both_methods : (start : ℕ) (members : List MemberTree) (one other : List SignatureTree) → HasMethods start members one
    → HasMethods start members other → HasMethods start members (one ++ other)
both_methods start members [] other first second = second
both_methods start members (signature ∷ one) other first second =
    (first.0, both_methods start members one other first.1 second)

-- if there are those of both, there are those of the first
first_methods : (start : ℕ) (members : List MemberTree) (one other : List SignatureTree)
    → HasMethods start members (one ++ other) → HasMethods start members one
first_methods start members [] other both = tt
first_methods start members (signature ∷ one) other both = (both.0, first_methods start members one other both.1)

-- and those of the second
second_methods : (start : ℕ) (members : List MemberTree) (one other : List SignatureTree)
    → HasMethods start members (one ++ other) → HasMethods start members other
second_methods start members [] other both = both
second_methods start members (signature ∷ one) other both = second_methods start members one other both.1

-- a method is the first one of its name after a member of another name too
method_after : (start : ℕ) (first : MemberTree) (others : List MemberTree) (wanted : SignatureTree)
    → method_among start (first ∷ others) wanted.name.name ≡ method_among (start + 1) others wanted.name.name
    → HasMethod (start + 1) others wanted → HasMethod start (first ∷ others) wanted
method_after start first others wanted later has =
    let at : start + 1 + has.member ≡ start + suc has.member = omega arith in
    record {
      member = suc has.member;
      signature = has.signature;
      end = has.end;
      statements = has.statements;
      found = later ∙ (has.found ∙ ap Some at);
      there = has.there;
      same = has.same;
    }

-- so are all methods after a field
methods_after_field : (start : ℕ) (first : MemberTree) (others : List MemberTree) (wanted : List SignatureTree)
    → ((name : Name) → method_among start (first ∷ others) name ≡ method_among (start + 1) others name)
    → HasMethods (start + 1) others wanted → HasMethods start (first ∷ others) wanted
methods_after_field start first others [] later has = tt
methods_after_field start first others (one ∷ more) later has = (
  method_after start first others one (later one.name.name) has.0,
  methods_after_field start first others more later has.1,
)

-- names that are not equal by the test are not in the other order
names_apart : (one other : Name) → bytes_eq one other ≡ false → bytes_eq other one ≡ false
names_apart one other apart = false_from_ne_true (bytes_eq other one) (λ same.
    let equal = (bytes_eq-Decides other one).0 same in
    true≢false (sym ((bytes_eq-Decides one other).1 (sym equal)) ∙ apart))

-- after a method so are those of other names
methods_after_method : (start : ℕ) (signature : SignatureTree) (end : Place) (body : Statements)
    (others : List MemberTree) (wanted : List SignatureTree) → HasMethods (start + 1) others wanted
    → HasMethods start (MethodTree signature end body ∷ others)
    (filter (λ other. not (is_named signature.name.name other)) wanted)
methods_after_method start signature end body others [] has = tt
methods_after_method start signature end body others (one ∷ more) has =
    by_name (is_named signature.name.name one) refl
    (methods_after_method start signature end body others more has.1)
  where
    members : List MemberTree
    members = MethodTree signature end body ∷ others

    kept : List SignatureTree
    kept = filter (λ other. not (is_named signature.name.name other)) more

    by_name : (named : Bool) → is_named signature.name.name one ≡ named → HasMethods start members kept
        → HasMethods start members (if not named then one ∷ kept else kept)
    by_name true is rest = rest
    by_name false is rest =
        let later = ap (λ (named : Bool). if named then Some start else method_among (start + 1) others one.name.name)
        (names_apart one.name.name signature.name.name is) in
        (method_after start (MethodTree signature end body) others one later has.0, rest)

-- The signatures of members, of each name the first one, are those of methods of them.
pub own_methods : (start : ℕ) (members : List MemberTree)
    → HasMethods start members (first_of_each (member_signatures members))
own_methods start [] = tt
own_methods start (FieldTree type name initial ∷ others) =
    methods_after_field start (FieldTree type name initial) others (first_of_each (member_signatures others))
    (λ name. refl) (own_methods (start + 1) others)
own_methods start (MethodTree signature end body ∷ others) =
    let name = signature.name.name in
    let at : start ≡ start + 0 = omega arith in
    let first : HasMethod start (MethodTree signature end body ∷ others) signature = record {
      member = 0;
      signature = signature;
      end = end;
      statements = body;
      found = ap (λ (named : Bool). if named then Some start else method_among (start + 1) others name)
          ((bytes_eq-Decides name name).1 refl)
          ∙ ap Some at;
      there = refl;
      same = refl;
    } in (
      first,
      methods_after_method start signature end body others (first_of_each (member_signatures others))
          (own_methods (start + 1) others),
    )

-- types that are the same by the test are equal
same_type_found : (one other : PlainType) → same_type one other ≡ true → one ≡ other
same_type_found PlainInt PlainInt reported = refl
same_type_found PlainString PlainString reported = refl
same_type_found PlainBottom PlainBottom reported = refl
same_type_found PlainNull PlainNull reported = refl
same_type_found (PlainFut one) (PlainFut other) reported = ap PlainFut (same_type_found one other reported)
same_type_found (PlainData one) (PlainData other) reported = ap PlainData ((bytes_eq-Decides one other).0 reported)
same_type_found (PlainApplied head argument) (PlainApplied other_head other_argument) reported =
    let both = and_parts (same_type head other_head) (same_type argument other_argument) reported in
    ap₂ PlainApplied (same_type_found head other_head both.0) (same_type_found argument other_argument both.1)
same_type_found (PlainInterface one) (PlainInterface other) reported =
    ap PlainInterface ((bytes_eq-Decides one other).0 reported)
same_type_found (PlainClass one) (PlainClass other) reported = ap PlainClass ((bytes_eq-Decides one other).0 reported)
same_type_found (PlainParameter one) (PlainParameter other) reported = ap PlainParameter (eqb-true one other reported)
same_type_found _ _ reported = absurd (true≢false (sym reported))

-- so are types in order
same_types_found : (ones others : List PlainType) → same_types ones others ≡ true → ones ≡ others
same_types_found [] [] reported = refl
same_types_found (one ∷ ones) (other ∷ others) reported =
    let both = and_parts (same_type one other) (same_types ones others) reported in
    ap₂ (λ (type : PlainType) (types : List PlainType). type ∷ types) (same_type_found one other both.0)
    (same_types_found ones others both.1)
same_types_found _ _ reported = absurd (true≢false (sym reported))

-- and methods that take and give the same types
same_method_found : (one other : MethodType) → same_method one other ≡ true → one ≡ other
same_method_found one other reported =
    let both = and_parts (same_types one.takes other.takes) (same_type one.gives other.gives) reported in
    ap₂ (λ (takes : List PlainType) (gives : PlainType).
    let made : MethodType = record { takes = takes; gives = gives } in made)
    (same_types_found one.takes other.takes both.0) (same_type_found one.gives other.gives both.1)

-- a method that is declared like another signature is one of it
method_like : (start : ℕ) (members : List MemberTree) (one wanted : SignatureTree)
    → is_same_signature one wanted ≡ true → HasMethod start members one → HasMethod start members wanted
method_like start members one wanted reported has =
    let both = and_parts (bytes_eq one.name.name wanted.name.name)
    (same_method (method_type one) (method_type wanted)) reported in
    let named = (bytes_eq-Decides one.name.name wanted.name.name).0 both.0 in
    record {
      member = has.member;
      signature = has.signature;
      end = has.end;
      statements = has.statements;
      found = ap (method_among start members) (sym named) ∙ has.found;
      there = has.there;
      same = has.same ∙ same_method_found (method_type one) (method_type wanted) both.1;
    }

-- one of several methods is declared like it
one_method_like : (start : ℕ) (members : List MemberTree) (own : List SignatureTree) (wanted : SignatureTree)
    → has_signature own wanted ≡ true → HasMethods start members own → HasMethod start members wanted
one_method_like start members [] wanted reported has = absurd (true≢false (sym reported))
one_method_like start members (first ∷ others) wanted reported has =
    ⊎_elim (λ same. method_like start members first wanted same has.0)
    (λ later. one_method_like start members others wanted later has.1)
    (or_cases (is_same_signature first wanted) (has_signature others wanted) reported)

-- Members that are tested to have signatures have methods of them.
pub met_methods : (start : ℕ) (members : List MemberTree) (own wanted : List SignatureTree)
    → has_signatures own wanted ≡ true → HasMethods start members own → HasMethods start members wanted
met_methods start members own [] reported has = tt
met_methods start members own (first ∷ others) reported has =
    let both = and_parts (has_signature own first) (has_signatures own others) reported in
    (one_method_like start members own first both.0 has, met_methods start members own others both.1 has)

module _ (members : List MemberTree) (declarations : List DeclTree) where
  -- if there are methods of the interfaces above a class, there are those of each of them
  interface_methods : (class next index : ℕ) (some : List DeclTree) (declaration : DeclTree)
      → HasMethods 0 members (signatures_above declarations class next some)
      → slice_get some index ≡ Some declaration → is_below declarations class (next + index) ≡ true
      → HasMethods 0 members (signatures_in declaration)
  interface_methods class next index [] declaration has there below = absurd (none-some declaration there)
  interface_methods class next zero (first ∷ others) declaration has there below =
      let at : next + 0 ≡ next = omega arith in
      let here : is_below declarations class next ≡ true =
      ap (is_below declarations class) (sym at) ∙ below in
      let own = first_methods 0 members (if is_below declarations class next then signatures_in first else [])
      (signatures_above declarations class (1 + next) others) has in
      subst (λ (one : DeclTree). HasMethods 0 members (signatures_in one)) (same_Some first declaration there)
      (subst (λ (reported : Bool). HasMethods 0 members (if reported then signatures_in first else [])) here own)
  interface_methods class next (suc index) (first ∷ others) declaration has there below =
      let at : next + suc index ≡ 1 + next + index = omega arith in
      interface_methods class (1 + next) index others declaration
      (second_methods 0 members (if is_below declarations class next then signatures_in first else [])
      (signatures_above declarations class (1 + next) others) has)
      there (ap (is_below declarations class) (sym at) ∙ below)

  -- and of all that are above an interface above the class
  methods_above : (class interface next : ℕ) (some : List DeclTree) → is_below declarations class interface ≡ true
      → HasMethods 0 members (signatures_above declarations class next some)
      → HasMethods 0 members (signatures_above declarations interface next some)
  methods_above class interface next [] below has = tt
  methods_above class interface next (first ∷ others) below has =
      by_test (is_below declarations interface next) refl
      (methods_above class interface (1 + next) others below
      (second_methods 0 members (if is_below declarations class next then signatures_in first else [])
      (signatures_above declarations class (1 + next) others) has))
    where
      by_test : (reported : Bool) → is_below declarations interface next ≡ reported
          → HasMethods 0 members (signatures_above declarations interface (1 + next) others)
          → HasMethods 0 members ((if reported then signatures_in first else [])
          ++ signatures_above declarations interface (1 + next) others)
      by_test false is rest = rest
      by_test true is rest =
          let above = below_transitive declarations class interface next below is in
          let own = first_methods 0 members (if is_below declarations class next then signatures_in first else [])
          (signatures_above declarations class (1 + next) others) has in
          both_methods 0 members (signatures_in first) (signatures_above declarations interface (1 + next) others)
          (subst (λ (one : Bool). HasMethods 0 members (if one then signatures_in first else [])) above own) rest

  -- so there are methods of an interface above the class, its own and inherited ones
  methods_below : (class interface : ℕ) → is_below declarations class interface ≡ true
      → HasMethods 0 members (inherited_signatures declarations class)
      → HasMethods 0 members (own_signatures declarations interface ++ inherited_signatures declarations interface)
  unfolding inherited_signatures
  methods_below class interface below has =
      both_methods 0 members (own_signatures declarations interface) (inherited_signatures declarations interface)
      (by_declaration (slice_get declarations interface) refl)
      (methods_above class interface 0 declarations below has)
    where
      by_declaration : (declaration : Option DeclTree) → slice_get declarations interface ≡ declaration
          → HasMethods 0 members (signatures_if_there declaration)
      by_declaration None there = tt
      by_declaration (Some declaration) there =
          let at : interface ≡ 0 + interface = omega arith in
          interface_methods class 0 interface declarations declaration has there
          (ap (is_below declarations class) (sym at) ∙ below)

-- what the name of a class stands for has the methods that the class declares
declared_methods : (declarations : List DeclTree) (class : Name) (index : ℕ) (own : IsClassAt declarations class index)
    → HasMethods 0 own.members (class_signatures declarations (meaning_of (spaces_of declarations).classes class))
declared_methods declarations class index own =
    let signatures = first_of_each (member_signatures own.members) in
    let declared : class_signatures declarations (meaning_of (spaces_of declarations).classes class) ≡ signatures =
    ap (class_signatures declarations) own.means.1
    ∙ (ap (own_signatures declarations) own.means.2 ∙ ap signatures_if_there own.there) in
    subst (HasMethods 0 own.members) (sym declared) (own_methods 0 own.members)

-- what the name of an interface stands for has those of it, if the class is below it
implemented_methods : (declarations : List DeclTree) (class : Name) (index : ℕ)
    (own : IsClassAt declarations class index) (meaning : Option TypeMeaning)
    → class_below declarations (meaning_of (spaces_of declarations).classes class) meaning ≡ true
    → HasMethods 0 own.members (inherited_signatures declarations index)
    → HasMethods 0 own.members (interface_signatures declarations meaning)
implemented_methods declarations class index own (Some (type.Interface interface)) below has =
    let at : is_below declarations index interface ≡ true =
    sym (ap (λ (meaning : Option Taking). class_below declarations meaning (Some (type.Interface interface)))
    own.means.1
    ∙ ap (λ (place : ℕ). is_below declarations place interface) own.means.2) ∙ below in
    methods_below own.members declarations index interface at has
implemented_methods declarations class index own meaning below has = tt

-- A class has methods of all signatures of a type that it fits, if it has those of the interfaces above it.
pub receiver_methods : (declarations : List DeclTree) (class : Name) (index : ℕ)
    (own : IsClassAt declarations class index) (receiver : PlainType)
    → fits declarations (PlainClass class) receiver ≡ true
    → HasMethods 0 own.members (inherited_signatures declarations index)
    → HasMethods 0 own.members (signatures_of_type declarations receiver)
unfolding fits implements_name signatures_of_type
receiver_methods declarations class index own (PlainClass other) reported has =
    subst (λ (name : Name). HasMethods 0 own.members
    (class_signatures declarations (meaning_of (spaces_of declarations).classes name)))
    ((bytes_eq-Decides class other).0 reported) (declared_methods declarations class index own)
receiver_methods declarations class index own (PlainInterface name) reported has =
    implemented_methods declarations class index own (meaning_of (spaces_of declarations).types name) reported has
receiver_methods declarations class index own other reported has = absurd (true≢false (sym reported))
