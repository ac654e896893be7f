-- What name spaces say of a name is declared.
use Rattle.std.proofs.Common.{◌≡◌, ℕ, ◌+◌, Bool, true, false, List, [], ◌∷◌, arith, refl, ap, subst, length}
use Rattle.std.specs.Prelude.{⊤, Option, Some, if◌then◌else◌, is_some, slice_get}
use Rattle.std.specs.Str.{bytes_eq}
use Rattle.std.proofs.lemmas.Slice.Eq.{bytes_eq-Decides}
use Rattle.abs_program.specs.NamedDeclarations.{IsData, IsInterface, IsFunction, IsClass, IsConstructor}
use Rattle.abs_program.specs.NameSpaces.{NameSpaces, built_in, count_types, with_constructor, with_constructors, with_declaration, with_declarations, spaces_of}
use Rattle.abs_tree.specs.Syntax.{Name, DeclaredTree, ConstructorTree, DeclTree, DataTree, FunctionTree, InterfaceTree, ClassTree}
use Rattle.abs_program.specs.Tables.{Table, meaning_of}
use Rattle.abs_program.specs.declared.name_spaces.ConstructorMeaning.{ConstructorMeaning}
use Rattle.abs_program.specs.declared.name_spaces.FunctionMeaning.{FunctionMeaning}
use Rattle.abs_program.specs.declared.name_spaces.FunctionMeaning.TheVariants as function
use Rattle.abs_program.specs.declared.name_spaces.Taking.{Taking}
use Rattle.abs_program.specs.declared.name_spaces.TypeMeaning.{TypeMeaning}
use Rattle.abs_program.specs.declared.name_spaces.TypeMeaning.TheVariants as type
use Rattle.abs_tree.specs.declared.place.Place.{Place}
use Rattle.list_facts.proofs.RestLemmas.{IsRest, rest_first, rest_others}

-- each entry of a table is so
abbrev AreSo : {A : Type 0} → (Name → A → Type 0) → Table A → Type 0
AreSo Is [] = ⊤
AreSo Is (one ∷ others) = Is one.0 one.1 × AreSo Is others

-- so is what a name means in it
either_is : {A : Type 0} (Is : Name → A → Type 0) (own name : Name) (meaning wanted : A) (rest : Option A) (b : Bool)
    → bytes_eq own name ≡ b → Is own meaning → (rest ≡ Some wanted → Is name wanted)
    → (if b then Some meaning else rest) ≡ Some wanted → Is name wanted
either_is Is own name meaning wanted rest true same is other found =
    let taken : meaning ≡ wanted = cc in
    subst (Is name) taken (subst (λ (n : Name). Is n meaning) ((bytes_eq-Decides own name).0 same) is)
either_is Is own name meaning wanted rest false same is other found = other found

meaning_is : {A : Type 0} (Is : Name → A → Type 0) (known : Table A) (name : Name) (meaning : A) → AreSo Is known
    → meaning_of known name ≡ Some meaning → Is name meaning
meaning_is Is [] name meaning are found = absurd (cc)
meaning_is Is (one ∷ others) name meaning are found =
    either_is Is one.0 name one.1 meaning (meaning_of others name) (bytes_eq one.0 name) refl are.0
    (meaning_is Is others name meaning are.1) found

-- and a table with one more
first_is : {A : Type 0} (Is : Name → A → Type 0) (known : Table A) (name : Name) (meaning : A) (b : Bool)
    → AreSo Is known → Is name meaning → AreSo Is (if b then known else (name, meaning) ∷ known)
first_is Is known name meaning true are is = are
first_is Is known name meaning false are is = (is, are)

-- what the name of a type or of a function stands for is declared, or is built in
abbrev IsType : List DeclTree → Name → TypeMeaning → Type 0
IsType declarations name type.Int = ⊤
IsType declarations name type.String = ⊤
IsType declarations name type.Fut = ⊤
IsType declarations name (type.Data taking) = IsData declarations name taking
IsType declarations name (type.Interface index) = IsInterface declarations name index

abbrev IsApplied : List DeclTree → Name → FunctionMeaning → Type 0
IsApplied declarations name function.ToString = ⊤
IsApplied declarations name (function.Defined taking) = IsFunction declarations name taking

-- All that name spaces say is so.
record AreDeclared (declarations : List DeclTree) (spaces : NameSpaces) : Type 0 where
  types : AreSo (IsType declarations) spaces.types
  constructors : AreSo (IsConstructor declarations) spaces.constructors
  functions : AreSo (IsApplied declarations) spaces.functions
  classes : AreSo (IsClass declarations) spaces.classes

-- constructors of data that is declared
constructors_declared : (declarations : List DeclTree) (place : Place) (declared : DeclaredTree)
    (type_params : List DeclaredTree) (constructors : List ConstructorTree) (owner index : ℕ)
    (known : Table ConstructorMeaning) (rest : List ConstructorTree)
    → slice_get declarations owner ≡ Some (DataTree place declared type_params constructors)
    → IsRest constructors index rest → AreSo (IsConstructor declarations) known
    → AreSo (IsConstructor declarations) (with_constructors owner index known rest)
constructors_declared declarations place declared type_params constructors owner index known [] there is are = are
constructors_declared declarations place declared type_params constructors owner index known (constructor ∷ others)
    there is are =
    let meaning : ConstructorMeaning = record {
      taking = record { declaration = owner; arity = count_types constructor.types };
      index = index;
    } in
    let own : IsConstructor declarations constructor.name.name meaning = record {
      place = place;
      declared = declared;
      type_params = type_params;
      constructors = constructors;
      constructor = constructor;
      there = there;
      constructor_there = rest_first constructors index constructor others is;
      name_is = refl;
      arity_is = refl;
    } in
    constructors_declared declarations place declared type_params constructors owner (index + 1)
    (with_constructor owner index known constructor) others there (rest_others constructors index constructor others is)
    (first_is (IsConstructor declarations) known constructor.name.name meaning
    (is_some (meaning_of known constructor.name.name)) are own)

-- one more declaration
declaration_declared : (declarations : List DeclTree) (index : ℕ) (known : NameSpaces) (declaration : DeclTree)
    → slice_get declarations index ≡ Some declaration → AreDeclared declarations known
    → AreDeclared declarations (with_declaration index known declaration)
declaration_declared declarations index known (DataTree place declared type_params constructors) there are =
    let own : IsData declarations declared.name (record { declaration = index; arity = length type_params }) = record {
      place = place;
      declared = declared;
      type_params = type_params;
      constructors = constructors;
      there = there;
      name_is = refl;
      arity_is = refl;
    } in
    record {
      types =
          first_is (IsType declarations) known.types declared.name
          (type.Data (record { declaration = index; arity = length type_params }))
          (is_some (meaning_of known.types declared.name)) are.types own;
      constructors =
          constructors_declared declarations place declared type_params constructors index 0 known.constructors
          constructors there (λ k. let at : k ≡ 0 + k = omega arith in ap (slice_get constructors) at) are.constructors;
      functions = are.functions;
      classes = are.classes;
    }
declaration_declared declarations index known (FunctionTree place result declared type_params params value) there are =
    let own : IsFunction declarations declared.name (record { declaration = index; arity = length params }) = record {
      place = place;
      result = result;
      declared = declared;
      type_params = type_params;
      params = params;
      value = value;
      there = there;
      name_is = refl;
      arity_is = refl;
    } in
    record {
      types = are.types;
      constructors = are.constructors;
      functions =
          first_is (IsApplied declarations) known.functions declared.name
          (function.Defined (record { declaration = index; arity = length params }))
          (is_some (meaning_of known.functions declared.name)) are.functions own;
      classes = are.classes;
    }
declaration_declared declarations index known (InterfaceTree place declared extended signatures) there are =
    let own : IsInterface declarations declared.name index = record {
      place = place;
      declared = declared;
      extended = extended;
      signatures = signatures;
      there = there;
      name_is = refl;
    } in
    record {
      types =
          first_is (IsType declarations) known.types declared.name (type.Interface index)
          (is_some (meaning_of known.types declared.name)) are.types own;
      constructors = are.constructors;
      functions = are.functions;
      classes = are.classes;
    }
declaration_declared declarations index known (ClassTree place declared params implemented members) there are =
    let own : IsClass declarations declared.name (record { declaration = index; arity = length params }) = record {
      place = place;
      declared = declared;
      params = params;
      implemented = implemented;
      members = members;
      there = there;
      name_is = refl;
      arity_is = refl;
    } in
    record {
      types = are.types;
      constructors = are.constructors;
      functions = are.functions;
      classes =
          first_is (IsClass declarations) known.classes declared.name
          (record { declaration = index; arity = length params })
          (is_some (meaning_of known.classes declared.name)) are.classes own;
    }

-- more declarations, and all
declarations_declared : (declarations : List DeclTree) (index : ℕ) (known : NameSpaces) (rest : List DeclTree)
    → IsRest declarations index rest → AreDeclared declarations known
    → AreDeclared declarations (with_declarations index known rest)
declarations_declared declarations index known [] is are = are
declarations_declared declarations index known (declaration ∷ others) is are =
    declarations_declared declarations (index + 1) (with_declaration index known declaration) others
    (rest_others declarations index declaration others is)
    (declaration_declared declarations index known declaration
    (rest_first declarations index declaration others is) are)

spaces_declared : (declarations : List DeclTree) → AreDeclared declarations (spaces_of declarations)
spaces_declared declarations =
    declarations_declared declarations 0 built_in declarations
    (λ k. let at : k ≡ 0 + k = omega arith in ap (slice_get declarations) at)
    (record { types = (tt, (tt, (tt, tt))); constructors = tt; functions = (tt, tt); classes = tt })

-- what a name stands for in each name space is declared
pub data_is_declared : (declarations : List DeclTree) (name : Name) (taking : Taking)
    → meaning_of (spaces_of declarations).types name ≡ Some (type.Data taking) → IsData declarations name taking
data_is_declared declarations name taking found =
    meaning_is (IsType declarations) (spaces_of declarations).types name (type.Data taking)
    (spaces_declared declarations).types found

pub interface_is_declared : (declarations : List DeclTree) (name : Name) (index : ℕ)
    → meaning_of (spaces_of declarations).types name ≡ Some (type.Interface index)
    → IsInterface declarations name index
interface_is_declared declarations name index found =
    meaning_is (IsType declarations) (spaces_of declarations).types name (type.Interface index)
    (spaces_declared declarations).types found

pub constructor_is_declared : (declarations : List DeclTree) (name : Name) (meaning : ConstructorMeaning)
    → meaning_of (spaces_of declarations).constructors name ≡ Some meaning → IsConstructor declarations name meaning
constructor_is_declared declarations name meaning found =
    meaning_is (IsConstructor declarations) (spaces_of declarations).constructors name meaning
    (spaces_declared declarations).constructors found

pub function_is_declared : (declarations : List DeclTree) (name : Name) (taking : Taking)
    → meaning_of (spaces_of declarations).functions name ≡ Some (function.Defined taking)
    → IsFunction declarations name taking
function_is_declared declarations name taking found =
    meaning_is (IsApplied declarations) (spaces_of declarations).functions name (function.Defined taking)
    (spaces_declared declarations).functions found

pub class_is_declared : (declarations : List DeclTree) (name : Name) (taking : Taking)
    → meaning_of (spaces_of declarations).classes name ≡ Some taking → IsClass declarations name taking
class_is_declared declarations name taking found =
    meaning_is (IsClass declarations) (spaces_of declarations).classes name taking
    (spaces_declared declarations).classes found
