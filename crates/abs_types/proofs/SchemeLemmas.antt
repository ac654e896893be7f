-- What functions and constructors take and give. In a program in which each name stands for what is there, they have
-- no type parameters but their own.
--
--   `function_is_closed`, `constructor_is_closed`      the schemes of functions and constructors
--   `Constructs`, `constructor_scheme_is`              where the scheme of a constructor comes from
use Rattle.std.proofs.Common.{◌≡◌, ℕ, ◌+◌, ◌<◌, List, [], ◌∷◌, Option, Some, None, sym, subst, length, map, All, arith}
use Rattle.std.specs.Prelude.{slice_get}
use Rattle.std.specs.List.{range_with_len}
use Rattle.std.proofs.lemmas.List.Elements.{All-nil, All-cons, All-head, All-tail}
use Rattle.std.proofs.lemmas.List.FromFn.{get_or-map-range_with_len, length-map-range_with_len}
use Rattle.std.proofs.lemmas.Option.{none-some, same_Some, option_and_then_some}
use Rattle.abs_program.specs.NameSpaces.{NameSpaces, spaces_of}
use Rattle.abs_tree.specs.Syntax.{Name, VariableTree, AtSlot, TypeTree, UnresolvedType, IntType, StringType, FutType, DataType, InterfaceType, ParameterType, BottomType, NullType, ClassType, TypeTrees, NoType, NextType, ParamTree, DeclaredTree, ConstructorTree, DeclTree, DataTree, FunctionTree, SourceTree}
use Rattle.abs_program.specs.Tables.{meaning_of}
use Rattle.abs_program.specs.Whole.{Inside, inside_types, TypeIsThere, TypesAreThere, ParamsAreThere, DeclarationIsThere, IsWhole}
use Rattle.abs_program.specs.declared.name_spaces.ConstructorMeaning.{ConstructorMeaning}
use Rattle.abs_program.specs.declared.name_spaces.FunctionMeaning.{FunctionMeaning}
use Rattle.abs_program.specs.declared.name_spaces.FunctionMeaning.TheVariants as function
use Rattle.abs_tree.specs.declared.place.Place.{Place}
use Rattle.abs_types.specs.PlainTypes.{PlainType, PlainData, PlainApplied, PlainParameter, applied_to, plain, plains}
use Rattle.abs_types.specs.Schemes.{Scheme, param_types, declared_scheme, to_string_scheme, function_scheme, scheme_of_function, built_scheme, data_scheme, constructor_scheme, scheme_of_constructor, ParametersBelow, IsClosed}
use Rattle.list_facts.proofs.AllLemmas.{All-slice_get}

-- a type has its type parameters below a number if it is applied to types that have them there
applied_below : (count : ℕ) (head : PlainType) (arguments : List PlainType) → ParametersBelow count head
    → All (ParametersBelow count) arguments → ParametersBelow count (applied_to head arguments)
applied_below count head [] below all = below
applied_below count head (argument ∷ others) below all =
    applied_below count (PlainApplied head argument) others
    (below, All-head (ParametersBelow count) argument others all)
    (All-tail (ParametersBelow count) argument others all)

mutual
  -- the type parameters of a type that is there are below their number
  type_below : (inside : Inside) (type : TypeTree) → TypeIsThere inside type
      → ParametersBelow inside.type_params (plain type)
  type_below inside (IntType place) there = tt
  type_below inside (StringType place) there = tt
  type_below inside (FutType place value) there = type_below inside value there
  type_below inside (DataType place name arguments) there =
      applied_below inside.type_params (PlainData name) (plains arguments) tt (types_below inside arguments there.1)
  type_below inside (InterfaceType place name) there = tt
  type_below inside (ParameterType place parameter) there = there
  type_below inside (UnresolvedType place name arguments) there = absurd there
  type_below inside BottomType there = tt
  type_below inside NullType there = tt
  type_below inside (ClassType name) there = tt

  types_below : (inside : Inside) (types : TypeTrees) → TypesAreThere inside types
      → All (ParametersBelow inside.type_params) (plains types)
  types_below inside NoType there = All-nil (ParametersBelow inside.type_params)
  types_below inside (NextType first others) there =
      All-cons (ParametersBelow inside.type_params) (plain first) (plains others)
      (type_below inside first there.0) (types_below inside others there.1)

-- the same of parameters that are there
params_below : (inside : Inside) (make : ℕ → VariableTree) (index : ℕ) (params : List ParamTree)
    → ParamsAreThere inside make index params → All (ParametersBelow inside.type_params) (param_types params)
params_below inside make index [] there = All-nil (ParametersBelow inside.type_params)
params_below inside make index (param ∷ others) there =
    All-cons (ParametersBelow inside.type_params) (plain param.type_of) (param_types others)
    (type_below inside param.type_of there.0) (params_below inside make (index + 1) others there.2)

-- so many type parameters are below their number
own_below : (count : ℕ) → All (ParametersBelow count) (map PlainParameter (range_with_len 0 count))
own_below count index other within =
    let below : index < count =
    subst (λ (n : ℕ). index < n) (length-map-range_with_len PlainParameter 0 count) within in
    subst (ParametersBelow count)
    (sym (get_or-map-range_with_len PlainParameter 0 count index index other below (omega arith))) below

-- the scheme of a declaration that is there has its own type parameters alone
declared_closed : (spaces : NameSpaces) (declaration : DeclTree) (scheme : Scheme)
    → DeclarationIsThere spaces declaration → declared_scheme declaration ≡ Some scheme → IsClosed scheme
declared_closed spaces (FunctionTree place result name type_params params value) scheme there is =
    let inside = inside_types spaces (length type_params) in
    subst IsClosed
    (same_Some (record { parameters = length type_params; takes = param_types params; gives = plain result }) scheme is)
    (record {
      takes_own = params_below inside AtSlot 0 params there.1;
      gives_own = type_below inside result there.0;
    })
declared_closed spaces declaration scheme there is = absurd (none-some scheme is)

-- so has that of what a name stands for
function_closed : (source : SourceTree) (meaning : Option FunctionMeaning) (scheme : Scheme) → IsWhole source
    → function_scheme source.declarations meaning ≡ Some scheme → IsClosed scheme
function_closed source (Some function.ToString) scheme whole is =
    subst IsClosed (same_Some to_string_scheme scheme is)
    (record {
      takes_own = All-cons (ParametersBelow 1) (PlainParameter 0) [] (omega arith) (All-nil (ParametersBelow 1));
      gives_own = tt;
    })
function_closed source (Some (function.Defined taking)) scheme whole is =
    option_and_then_some declared_scheme (slice_get source.declarations taking.declaration) scheme is
    (λ declaration at reported. declared_closed (spaces_of source.declarations) declaration scheme
    (All-slice_get (DeclarationIsThere (spaces_of source.declarations)) source.declarations taking.declaration
    declaration
    whole.declarations_are at) reported)
function_closed source None scheme whole is = absurd (none-some scheme is)

-- so has that of the function with a name
pub function_is_closed : (source : SourceTree) (name : Name) (scheme : Scheme) → IsWhole source
    → scheme_of_function source.declarations name ≡ Some scheme → IsClosed scheme
unfolding scheme_of_function
function_is_closed source name scheme whole is =
    function_closed source (meaning_of (spaces_of source.declarations).functions name) scheme whole is

-- A scheme is that of a constructor of data which is declared.
pub record Constructs (declarations : List DeclTree) (scheme : Scheme) : Type 0 where
  pub place : Place
  pub owner : DeclaredTree
  pub type_params : List DeclaredTree
  pub constructors : List ConstructorTree
  pub declaration : ℕ
  pub index : ℕ
  pub constructor : ConstructorTree
  pub declared : slice_get declarations declaration ≡ Some (DataTree place owner type_params constructors)
  pub among : slice_get constructors index ≡ Some constructor
  pub is : built_scheme owner.name (length type_params) constructor ≡ scheme

-- the scheme of a constructor of a declaration is such a scheme
data_constructs : (declarations : List DeclTree) (at index : ℕ) (declaration : DeclTree) (scheme : Scheme)
    → slice_get declarations at ≡ Some declaration → data_scheme index declaration ≡ Some scheme
    → Constructs declarations scheme
data_constructs declarations at index (DataTree place name type_params constructors) scheme declared is =
    option_and_then_some (λ constructor. Some (built_scheme name.name (length type_params) constructor))
    (slice_get constructors index) scheme is
    (λ constructor among reported. record {
      place = place;
      owner = name;
      type_params = type_params;
      constructors = constructors;
      declaration = at;
      index = index;
      constructor = constructor;
      declared = declared;
      among = among;
      is = same_Some (built_scheme name.name (length type_params) constructor) scheme reported;
    })
data_constructs declarations at index declaration scheme declared is = absurd (none-some scheme is)

-- so is that of what a name stands for
meaning_constructs : (declarations : List DeclTree) (meaning : Option ConstructorMeaning) (scheme : Scheme)
    → constructor_scheme declarations meaning ≡ Some scheme → Constructs declarations scheme
meaning_constructs declarations (Some meaning) scheme is =
    option_and_then_some (data_scheme meaning.index) (slice_get declarations meaning.taking.declaration) scheme is
    (λ declaration at reported.
    data_constructs declarations meaning.taking.declaration meaning.index declaration scheme at reported)
meaning_constructs declarations None scheme is = absurd (none-some scheme is)

-- so is that of the constructor with a name
pub constructor_scheme_is : (declarations : List DeclTree) (name : Name) (scheme : Scheme)
    → scheme_of_constructor declarations name ≡ Some scheme → Constructs declarations scheme
unfolding scheme_of_constructor
constructor_scheme_is declarations name scheme is =
    meaning_constructs declarations (meaning_of (spaces_of declarations).constructors name) scheme is

-- the scheme of a constructor has its own type parameters alone
pub constructor_is_closed : (source : SourceTree) (name : Name) (scheme : Scheme) → IsWhole source
    → scheme_of_constructor source.declarations name ≡ Some scheme → IsClosed scheme
constructor_is_closed source name scheme whole is =
    let from = constructor_scheme_is source.declarations name scheme is in
    let spaces = spaces_of source.declarations in
    let inside = inside_types spaces (length from.type_params) in
    subst IsClosed from.is
    (record {
      takes_own = types_below inside from.constructor.types
          (All-slice_get (λ (constructor : ConstructorTree). TypesAreThere inside constructor.types) from.constructors
          from.index from.constructor
          (All-slice_get (DeclarationIsThere spaces) source.declarations from.declaration
          (DataTree from.place from.owner from.type_params from.constructors) whole.declarations_are from.declared)
          from.among);
      gives_own = applied_below (length from.type_params) (PlainData from.owner.name)
          (map PlainParameter (range_with_len 0 (length from.type_params))) tt (own_below (length from.type_params));
    })
