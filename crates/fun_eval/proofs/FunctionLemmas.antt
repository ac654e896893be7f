-- The function that a name stands for in the name spaces of declarations is the first of this name.
--
--   `IsFirstFunction`          a function is declared at an index, and is the first of this name
--   `defined_is_first`         this is so of what the name spaces say
--   `to_string_is_named`, `unknown_has_none`       the two other cases
use Rattle.std.proofs.Common.{◌≡◌, ℕ, suc, ◌+◌, Bool, true, false, List, [], ◌∷◌, codes, length, Option, Some, None, refl, sym, ap, ◌∙◌, subst, arith}
use Rattle.std.specs.Option.{option_or}
use Rattle.std.specs.Prelude.{if◌then◌else◌, slice_get}
use Rattle.std.specs.Str.{bytes_eq}
use Rattle.std.proofs.lemmas.Slice.Eq.{bytes_eq-Decides}
use Rattle.abs_program.specs.NameSpaces.{NameSpaces, built_in, spaces_of, with_declaration, with_declarations}
use Rattle.abs_program.specs.NamedDeclarations.{IsFunction}
use Rattle.abs_values.specs.Scopes.{FunctionBody, function_named, functions_of}
use Rattle.abs_tree.specs.Syntax.{Name, DeclTree, DataTree, FunctionTree, InterfaceTree, ClassTree}
use Rattle.abs_program.specs.Tables.{Table, meaning_of, with_first}
use Rattle.abs_program.specs.declared.name_spaces.FunctionMeaning.{FunctionMeaning}
use Rattle.abs_program.specs.declared.name_spaces.FunctionMeaning.TheVariants as function
use Rattle.abs_program.specs.declared.name_spaces.Taking.{Taking}
use Rattle.list_facts.proofs.OptionLemmas.{option_or-none, option_or-assoc}

-- what a table says of a name, with one more name of which the first meaning counts
first_meaning : {A : Type 0} (known : Table A) (own name : Name) (meaning : A)
    → meaning_of (with_first known own meaning) name
    ≡ option_or (meaning_of known name) (if bytes_eq own name then Some meaning else None)
first_meaning known own name meaning = by_own (meaning_of known own) refl (bytes_eq own name) refl
  where
    by_own : (found : Option _) → meaning_of known own ≡ found → (same : Bool) → bytes_eq own name ≡ same
        → meaning_of (with_first known own meaning) name
        ≡ option_or (meaning_of known name) (if bytes_eq own name then Some meaning else None)
    by_own (Some other) has true same =
        let is : own ≡ name = (bytes_eq-Decides own name).0 same in
        let here : meaning_of known name ≡ Some other = ap (meaning_of known) (sym is) ∙ has in
        rw (has, here) refl
    by_own (Some other) has false same = rw (has, same) (sym (option_or-none (meaning_of known name)))
    by_own None has true same =
        let is : own ≡ name = (bytes_eq-Decides own name).0 same in
        let here : meaning_of known name ≡ None = ap (meaning_of known) (sym is) ∙ has in
        rw (has, same, here) refl
    by_own None has false same = rw (has, same) (sym (option_or-none (meaning_of known name)))

-- what the first function of a name among declarations means, where the first declaration has this index
abbrev first_function : ℕ → List DeclTree → Name → Option FunctionMeaning
first_function index [] name = None
first_function index (FunctionTree place result declared type_params params value ∷ others) name =
    option_or (if bytes_eq declared.name name then Some (function.Defined (record {
      declaration = index;
      arity = length params;
    })) else None) (first_function (index + 1) others name)
first_function index (declaration ∷ others) name = first_function (index + 1) others name

-- the name spaces say just that of functions
functions_say : (index : ℕ) (known : NameSpaces) (rest : List DeclTree) (name : Name)
    → meaning_of (with_declarations index known rest).functions name
    ≡ option_or (meaning_of known.functions name) (first_function index rest name)
functions_say index known [] name = sym (option_or-none (meaning_of known.functions name))
functions_say index known (FunctionTree place result declared type_params params value ∷ others) name =
    let meaning : FunctionMeaning = function.Defined (record { declaration = index; arity = length params }) in
    functions_say (index + 1)
    (with_declaration index known (FunctionTree place result declared type_params params value)) others name
    ∙ (ap (λ (found : Option FunctionMeaning). option_or found (first_function (index + 1) others name))
    (first_meaning known.functions declared.name name meaning)
    ∙ option_or-assoc (meaning_of known.functions name) (if bytes_eq declared.name name then Some meaning else None)
    (first_function (index + 1) others name))
functions_say index known (DataTree place declared type_params constructors ∷ others) name =
    functions_say (index + 1) (with_declaration index known (DataTree place declared type_params constructors)) others name
functions_say index known (InterfaceTree place declared extended signatures ∷ others) name =
    functions_say (index + 1) (with_declaration index known (InterfaceTree place declared extended signatures)) others name
functions_say index known (ClassTree place declared params implemented members ∷ others) name =
    functions_say (index + 1) (with_declaration index known (ClassTree place declared params implemented members)) others
    name

-- A function of this name is declared at the index, and is the first one of this name among these.
pub record IsFirstFunction (declarations : List DeclTree) (functions : List FunctionBody) (name : Name)
    (taking : Taking) : Type 0 where
  pub function : IsFunction declarations name taking
  pub first : function_named functions name
      ≡ Some (record { name = function.declared.name; arity = length function.params; value = function.value })

-- the declarations from an index on
abbrev IsRest : List DeclTree → ℕ → List DeclTree → Type 0
IsRest declarations index rest = (k : ℕ) → slice_get rest k ≡ slice_get declarations (index + k)

rest_others : (declarations : List DeclTree) (index : ℕ) (one : DeclTree) (others : List DeclTree)
    → IsRest declarations index (one ∷ others) → IsRest declarations (index + 1) others
rest_others declarations index one others is = λ k.
    let at : index + suc k ≡ index + 1 + k = omega arith in
    is (suc k) ∙ ap (slice_get declarations) at

-- a function that is not of this name is not the first one
later_first : (declarations : List DeclTree) (functions : List FunctionBody) (own : FunctionBody) (name : Name)
    (taking : Taking) → bytes_eq own.name name ≡ false → IsFirstFunction declarations functions name taking
    → IsFirstFunction declarations (own ∷ functions) name taking
later_first declarations functions own name taking other is = record {
  function = is.function;
  first = rw other is.first;
}

first_is_first : (declarations : List DeclTree) (index : ℕ) (rest : List DeclTree) (name : Name) (taking : Taking)
    → IsRest declarations index rest → first_function index rest name ≡ Some (function.Defined taking)
    → IsFirstFunction declarations (functions_of rest) name taking
first_is_first declarations index [] name taking is found = absurd (cc)
first_is_first declarations index (FunctionTree place result declared type_params params value ∷ others) name taking is
    found =
    by_name (λ later. first_is_first declarations (index + 1) others name taking
    (rest_others declarations index _ others is) later) (bytes_eq declared.name name) refl
  where
    own : FunctionBody
    own = record { name = declared.name; arity = length params; value = value }

    by_name : (first_function (index + 1) others name ≡ Some (function.Defined taking)
        → IsFirstFunction declarations (functions_of others) name taking) → (same : Bool)
        → bytes_eq declared.name name ≡ same
        → IsFirstFunction declarations (own ∷ functions_of others) name taking
    by_name later true same =
        let here : Some (function.Defined (record { declaration = index; arity = length params }))
        ≡ Some (function.Defined taking) = subst (λ (b : Bool). option_or (if b then Some (function.Defined (record {
          declaration = index;
          arity = length params;
        })) else None) (first_function (index + 1) others name) ≡ Some (function.Defined taking)) same found in
        let taken : record { declaration = index; arity = length params } ≡ taking = cc in
        let at : index + 0 ≡ index = omega arith in
        subst (IsFirstFunction declarations (own ∷ functions_of others) name) taken (record {
          function = record {
            place = place;
            result = result;
            declared = declared;
            type_params = type_params;
            params = params;
            value = value;
            there = ap (slice_get declarations) (sym at) ∙ sym (is 0);
            name_is = (bytes_eq-Decides declared.name name).0 same;
            arity_is = refl;
          };
          first = rw same refl;
        })
    by_name later false same =
        later_first declarations (functions_of others) own name taking same
        (later
        (subst (λ (b : Bool). option_or (if b then Some (function.Defined (record {
          declaration = index;
          arity = length params;
        })) else None) (first_function (index + 1) others name) ≡ Some (function.Defined taking)) same found))
first_is_first declarations index (DataTree place declared type_params constructors ∷ others) name taking is found =
    first_is_first declarations (index + 1) others name taking (rest_others declarations index _ others is) found
first_is_first declarations index (InterfaceTree place declared extended signatures ∷ others) name taking is found =
    first_is_first declarations (index + 1) others name taking (rest_others declarations index _ others is) found
first_is_first declarations index (ClassTree place declared params implemented members ∷ others) name taking is found =
    first_is_first declarations (index + 1) others name taking (rest_others declarations index _ others is) found

-- of one declaration and the others, where neither is `toString` itself
either_defined : (same : Bool) (taking : Taking) (rest : Option FunctionMeaning) → (rest ≡ Some function.ToString → ⊥)
    → option_or (if same then Some (function.Defined taking) else None) rest ≡ Some function.ToString → ⊥
either_defined true taking rest other found = absurd (cc)
either_defined false taking rest other found = other found

-- no declared function is `toString` itself
first_is_defined : (index : ℕ) (rest : List DeclTree) (name : Name)
    → first_function index rest name ≡ Some function.ToString → ⊥
first_is_defined index [] name found = absurd (cc)
first_is_defined index (FunctionTree place result declared type_params params value ∷ others) name found =
    either_defined (bytes_eq declared.name name) (record { declaration = index; arity = length params })
    (first_function (index + 1) others name) (first_is_defined (index + 1) others name) found
first_is_defined index (DataTree place declared type_params constructors ∷ others) name found =
    first_is_defined (index + 1) others name found
first_is_defined index (InterfaceTree place declared extended signatures ∷ others) name found =
    first_is_defined (index + 1) others name found
first_is_defined index (ClassTree place declared params implemented members ∷ others) name found =
    first_is_defined (index + 1) others name found

-- of one declaration and the others, where neither is of the name
neither_named : (same : Bool) (meaning : FunctionMeaning) (rest : Option FunctionMeaning) (own : FunctionBody)
    (functions : Option FunctionBody) → (rest ≡ None → functions ≡ None)
    → option_or (if same then Some meaning else None) rest ≡ None → (if same then Some own else functions) ≡ None
neither_named true meaning rest own functions others none = absurd (cc)
neither_named false meaning rest own functions others none = others none

-- where the name spaces have none, there is no function of the name
none_is_first : (index : ℕ) (rest : List DeclTree) (name : Name) → first_function index rest name ≡ None
    → function_named (functions_of rest) name ≡ None
none_is_first index [] name none = refl
none_is_first index (FunctionTree place result declared type_params params value ∷ others) name none =
    neither_named (bytes_eq declared.name name)
    (function.Defined (record { declaration = index; arity = length params }))
    (first_function (index + 1) others name)
    (record { name = declared.name; arity = length params; value = value })
    (function_named (functions_of others) name) (none_is_first (index + 1) others name) none
none_is_first index (DataTree place declared type_params constructors ∷ others) name none =
    none_is_first (index + 1) others name none
none_is_first index (InterfaceTree place declared extended signatures ∷ others) name none =
    none_is_first (index + 1) others name none
none_is_first index (ClassTree place declared params implemented members ∷ others) name none =
    none_is_first (index + 1) others name none

-- what name spaces say of a name: `toString` is built in
spaces_say : (declarations : List DeclTree) (name : Name) (meaning : Option FunctionMeaning)
    → meaning_of (spaces_of declarations).functions name ≡ meaning
    → option_or (if bytes_eq (codes "toString") name then Some function.ToString else None)
    (first_function 0 declarations name) ≡ meaning
spaces_say declarations name meaning is = sym (functions_say 0 built_in declarations name) ∙ is

-- whether two names are the same, the other way round
same_turned : (name : Name) (same : Bool) → bytes_eq (codes "toString") name ≡ same → bytes_eq name (codes "toString") ≡ same
same_turned name true is =
    rw (sym ((bytes_eq-Decides (codes "toString") name).0 is)) refl
same_turned name false is = by_answer (bytes_eq name (codes "toString")) refl
  where
    by_answer : (other : Bool) → bytes_eq name (codes "toString") ≡ other → bytes_eq name (codes "toString") ≡ false
    by_answer true other =
        let turned : bytes_eq (codes "toString") name ≡ true =
        rw ((bytes_eq-Decides name (codes "toString")).0 other) refl in absurd (cc)
    by_answer false other = other

-- what the name spaces say is defined is the first function of the name, which is not `toString`
pub record IsDefined (declarations : List DeclTree) (name : Name) (taking : Taking) : Type 0 where
  pub other : bytes_eq name (codes "toString") ≡ false
  pub first : IsFirstFunction declarations (functions_of declarations) name taking

pub defined_is_first : (declarations : List DeclTree) (name : Name) (taking : Taking)
    → meaning_of (spaces_of declarations).functions name ≡ Some (function.Defined taking)
    → IsDefined declarations name taking
defined_is_first declarations name taking found =
    by_name (bytes_eq (codes "toString") name) refl (spaces_say declarations name (Some (function.Defined taking)) found)
  where
    by_name : (same : Bool) → bytes_eq (codes "toString") name ≡ same
        → option_or (if same then Some function.ToString else None) (first_function 0 declarations name)
        ≡ Some (function.Defined taking) → IsDefined declarations name taking
    by_name true same is = absurd (cc)
    by_name false same is = record {
      other = same_turned name false same;
      first =
          first_is_first declarations 0 declarations name taking
          (λ k. let at : k ≡ 0 + k = omega arith in ap (slice_get declarations) at) is;
    }

pub to_string_is_named : (declarations : List DeclTree) (name : Name)
    → meaning_of (spaces_of declarations).functions name ≡ Some function.ToString
    → bytes_eq name (codes "toString") ≡ true
to_string_is_named declarations name found =
    by_name (bytes_eq (codes "toString") name) refl (spaces_say declarations name (Some function.ToString) found)
  where
    by_name : (same : Bool) → bytes_eq (codes "toString") name ≡ same
        → option_or (if same then Some function.ToString else None) (first_function 0 declarations name)
        ≡ Some function.ToString → bytes_eq name (codes "toString") ≡ true
    by_name true same is = same_turned name true same
    by_name false same is = absurd (first_is_defined 0 declarations name is)

pub record IsUnknown (declarations : List DeclTree) (name : Name) : Type 0 where
  pub other : bytes_eq name (codes "toString") ≡ false
  pub none : function_named (functions_of declarations) name ≡ None

pub unknown_has_none : (declarations : List DeclTree) (name : Name)
    → meaning_of (spaces_of declarations).functions name ≡ None → IsUnknown declarations name
unknown_has_none declarations name found =
    by_name (bytes_eq (codes "toString") name) refl (spaces_say declarations name None found)
  where
    by_name : (same : Bool) → bytes_eq (codes "toString") name ≡ same
        → option_or (if same then Some function.ToString else None) (first_function 0 declarations name) ≡ None
        → IsUnknown declarations name
    by_name true same is = absurd (cc)
    by_name false same is =
        record { other = same_turned name false same; none = none_is_first 0 declarations name is }
