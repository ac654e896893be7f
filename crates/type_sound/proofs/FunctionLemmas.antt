-- What the name of a function stands for: `toString` is built in, and of the declared functions with a name the first
-- counts, which is also the one that evaluation takes.
--
--   `functions_stay`           what the name of a function stands for stays when more is declared
--   `FirstFunction`            the first of some declarations that is a function with a name
--   `first_function`           a name that stood for nothing before some declarations stands for the first of them
use Rattle.std.proofs.Common.{◌≡◌, ℕ, ◌+◌, suc, Bool, true, false, List, [], ◌∷◌, Some, None, refl, sym, ap, ◌∙◌, length, arith}
use Rattle.std.specs.Prelude.{is_some, slice_get, if◌then◌else◌}
use Rattle.std.specs.Str.{bytes_eq}
use Rattle.std.proofs.lemmas.Option.{none-some, same_Some}
use Rattle.std.proofs.lemmas.Slice.Eq.{bytes_eq-Decides}
use Rattle.abs_program.specs.NameSpaces.{NameSpaces, with_declaration, with_declarations}
use Rattle.abs_program.specs.Tables.{Table, meaning_of, with_first}
use Rattle.abs_program.specs.declared.name_spaces.FunctionMeaning.{FunctionMeaning}
use Rattle.abs_program.specs.declared.name_spaces.FunctionMeaning.TheVariants as function
use Rattle.abs_tree.specs.Syntax.{Name, TypeTree, ExprTree, ParamTree, DeclaredTree, DeclTree, DataTree, FunctionTree, InterfaceTree, ClassTree}
use Rattle.abs_tree.specs.declared.place.Place.{Place}
use Rattle.abs_values.specs.Scopes.{functions_of, function_named}

-- a name that has a meaning keeps it when another one is added
first_kept : {A : Type 0} (known : Table A) (name new : Name) (meaning other : A) → meaning_of known name ≡ Some meaning
    → meaning_of (with_first known new other) name ≡ Some meaning
first_kept {A} known name new meaning other found =
    by_known (is_some (meaning_of known new)) refl
  where
    by_name : (test : Bool) → bytes_eq new name ≡ test → is_some (meaning_of known new) ≡ false
        → (if test then Some other else meaning_of known name) ≡ Some meaning
    by_name true same free =
        let there : is_some (meaning_of known new) ≡ true =
        ap is_some (ap (meaning_of known) ((bytes_eq-Decides new name).0 same) ∙ found) in
        absurd cc
    by_name false apart free = found

    by_known : (has : Bool) → is_some (meaning_of known new) ≡ has
        → meaning_of (if has then known else (new, other) ∷ known) name ≡ Some meaning
    by_known true has = found
    by_known false free = by_name (bytes_eq new name) refl free

-- a name without a meaning has the one that is added for it
first_added : {A : Type 0} (known : Table A) (name new : Name) (other : A) → meaning_of known name ≡ None
    → bytes_eq new name ≡ true → meaning_of (with_first known new other) name ≡ Some other
first_added {A} known name new other none same =
    let free : is_some (meaning_of known new) ≡ false =
    ap is_some (ap (meaning_of known) ((bytes_eq-Decides new name).0 same) ∙ none) in
    ap (λ has. meaning_of (if has then known else (new, other) ∷ known) name) free
    ∙ ap (λ test. if test then Some other else meaning_of known name) same

-- and has none after one for another name
first_passed : {A : Type 0} (known : Table A) (name new : Name) (other : A) → meaning_of known name ≡ None
    → bytes_eq new name ≡ false → meaning_of (with_first known new other) name ≡ None
first_passed {A} known name new other none apart = by_known (is_some (meaning_of known new))
  where
    by_known : (has : Bool) → meaning_of (if has then known else (new, other) ∷ known) name ≡ None
    by_known true = none
    by_known false = ap (λ test. if test then Some other else meaning_of known name) apart ∙ none

-- what the name of a function stands for stays when more is declared
pub functions_stay : (index : ℕ) (known : NameSpaces) (declarations : List DeclTree) (name : Name)
    (meaning : FunctionMeaning) → meaning_of known.functions name ≡ Some meaning
    → meaning_of (with_declarations index known declarations).functions name ≡ Some meaning
functions_stay index known [] name meaning found = found
functions_stay index known (FunctionTree place result declared type_params params value ∷ others) name meaning found =
    functions_stay (index + 1)
    (with_declaration index known (FunctionTree place result declared type_params params value)) others name meaning
    (first_kept known.functions name declared.name meaning
    (function.Defined (record { declaration = index; arity = length params })) found)
functions_stay index known (DataTree place declared type_params constructors ∷ others) name meaning found =
    functions_stay (index + 1) (with_declaration index known (DataTree place declared type_params constructors)) others
    name meaning found
functions_stay index known (InterfaceTree place declared extended signatures ∷ others) name meaning found =
    functions_stay (index + 1) (with_declaration index known (InterfaceTree place declared extended signatures)) others
    name meaning found
functions_stay index known (ClassTree place declared params implemented members ∷ others) name meaning found =
    functions_stay (index + 1) (with_declaration index known (ClassTree place declared params implemented members))
    others name meaning found

-- The first of some declarations that is a function with this name: its offset among them, and what its name stands
-- for where the first of the declarations has this index.
pub record FirstFunction (index : ℕ) (declarations : List DeclTree) (name : Name) (meaning : FunctionMeaning) : Type 0
  where
    pub offset : ℕ
    pub place : Place
    pub result : TypeTree
    pub declared : DeclaredTree
    pub type_params : List DeclaredTree
    pub params : List ParamTree
    pub value : ExprTree
    pub there : slice_get declarations offset ≡ Some (FunctionTree place result declared type_params params value)
    pub means : meaning ≡ function.Defined (record { declaration = index + offset; arity = length params })
    pub named : function_named (functions_of declarations) name
        ≡ Some (record { name = declared.name; arity = length params; value = value })

-- it is the first after one more declaration, which is no function with this name
later : (index : ℕ) (declaration : DeclTree) (others : List DeclTree) (name : Name) (meaning : FunctionMeaning)
    → function_named (functions_of (declaration ∷ others)) name ≡ function_named (functions_of others) name
    → FirstFunction (index + 1) others name meaning → FirstFunction index (declaration ∷ others) name meaning
later index declaration others name meaning passed first = record {
  offset = suc first.offset;
  place = first.place;
  result = first.result;
  declared = first.declared;
  type_params = first.type_params;
  params = first.params;
  value = first.value;
  there = first.there;
  means = first.means
      ∙ ap (λ (at : ℕ). function.Defined (record { declaration = at; arity = length first.params })) (omega arith);
  named = passed ∙ first.named;
}

-- the first declaration is that function if it has the name, and otherwise it is the first of the others
first_or_later : (index : ℕ) (known : NameSpaces) (place : Place) (result : TypeTree) (declared : DeclaredTree)
    (type_params : List DeclaredTree) (params : List ParamTree) (value : ExprTree) (others : List DeclTree)
    (name : Name) (meaning : FunctionMeaning) (same : Bool) → meaning_of known.functions name ≡ None
    → meaning_of (with_declarations index known
    (FunctionTree place result declared type_params params value ∷ others)).functions name ≡ Some meaning
    → (meaning_of (with_first known.functions declared.name
    (function.Defined (record { declaration = index; arity = length params }))) name ≡ None
    → FirstFunction (index + 1) others name meaning)
    → bytes_eq declared.name name ≡ same
    → FirstFunction index (FunctionTree place result declared type_params params value ∷ others) name meaning
first_or_later index known place result declared type_params params value others name meaning true none found rest
    same =
    let own : FunctionMeaning = function.Defined (record { declaration = index; arity = length params }) in
    record {
      offset = 0;
      place = place;
      result = result;
      declared = declared;
      type_params = type_params;
      params = params;
      value = value;
      there = refl;
      means = same_Some meaning own
          (sym found ∙ functions_stay (index + 1)
          (with_declaration index known (FunctionTree place result declared type_params params value)) others name own
          (first_added known.functions name declared.name own none same))
          ∙ ap (λ (at : ℕ). function.Defined (record { declaration = at; arity = length params })) (omega arith);
      named = ap (λ test. if test then Some (record { name = declared.name; arity = length params; value = value })
          else function_named (functions_of others) name) same;
    }
first_or_later index known place result declared type_params params value others name meaning false none found rest
    apart =
    later index (FunctionTree place result declared type_params params value) others name meaning
    (ap (λ test. if test then Some (record { name = declared.name; arity = length params; value = value })
    else function_named (functions_of others) name) apart)
    (rest (first_passed known.functions name declared.name
    (function.Defined (record { declaration = index; arity = length params })) none apart))

-- a name that stood for nothing before some declarations stands for the first function of them with this name
pub first_function : (index : ℕ) (known : NameSpaces) (declarations : List DeclTree) (name : Name)
    (meaning : FunctionMeaning) → meaning_of known.functions name ≡ None
    → meaning_of (with_declarations index known declarations).functions name ≡ Some meaning
    → FirstFunction index declarations name meaning
first_function index known [] name meaning none found = absurd (none-some meaning (sym none ∙ found))
first_function index known (FunctionTree place result declared type_params params value ∷ others) name meaning none
    found =
    first_or_later index known place result declared type_params params value others name meaning
    (bytes_eq declared.name name) none found
    (λ still. first_function (index + 1)
    (with_declaration index known (FunctionTree place result declared type_params params value)) others name meaning
    still found)
    refl
first_function index known (DataTree place declared type_params constructors ∷ others) name meaning none found =
    later index (DataTree place declared type_params constructors) others name meaning refl
    (first_function (index + 1) (with_declaration index known (DataTree place declared type_params constructors)) others
    name meaning none found)
first_function index known (InterfaceTree place declared extended signatures ∷ others) name meaning none found =
    later index (InterfaceTree place declared extended signatures) others name meaning refl
    (first_function (index + 1) (with_declaration index known (InterfaceTree place declared extended signatures)) others
    name meaning none found)
first_function index known (ClassTree place declared params implemented members ∷ others) name meaning none found =
    later index (ClassTree place declared params implemented members) others name meaning refl
    (first_function (index + 1) (with_declaration index known (ClassTree place declared params implemented members))
    others name meaning none found)
