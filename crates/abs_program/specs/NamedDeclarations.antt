-- The declarations that names stand for.
--
--   `IsData`, `IsInterface`        data and an interface of this name are declared at an index
--   `IsFunction`, `IsClass`        so is a function or a class
--   `IsConstructor`                so is data, which has a constructor of this name
--   `IsFirstType`, `TypesAreOnce`  data or an interface is what its name stands for, and so is each of declarations
use Rattle.std.specs.Prelude.{◌≡◌, ⊤, ℕ, ◌+◌, List, [], ◌∷◌, length, slice_get, Some}
use Rattle.abs_program.specs.NameSpaces.{NameSpaces, count_types}
use Rattle.abs_program.specs.Tables.{meaning_of}
use Rattle.abs_tree.specs.Syntax.{Name, TypeTree, ExprTree, ParamTree, DeclaredTree, ConstructorTree, SignatureTree, MemberTree, DeclTree, DataTree, FunctionTree, InterfaceTree, ClassTree}
use Rattle.abs_program.specs.declared.name_spaces.ConstructorMeaning.{ConstructorMeaning}
use Rattle.abs_program.specs.declared.name_spaces.Taking.{Taking}
use Rattle.abs_program.specs.declared.name_spaces.TypeMeaning.TheVariants as type
use Rattle.abs_tree.specs.declared.place.Place.{Place}

-- Data of this name is declared at the index, and takes as many types as it has type parameters.
pub record IsData (declarations : List DeclTree) (name : Name) (taking : Taking) : Type 0 where
  pub place : Place
  pub declared : DeclaredTree
  pub type_params : List DeclaredTree
  pub constructors : List ConstructorTree
  pub there : slice_get declarations taking.declaration ≡ Some (DataTree place declared type_params constructors)
  pub name_is : declared.name ≡ name
  pub arity_is : length type_params ≡ taking.arity

-- An interface of this name is declared at the index.
pub record IsInterface (declarations : List DeclTree) (name : Name) (index : ℕ) : Type 0 where
  pub place : Place
  pub declared : DeclaredTree
  pub extended : List DeclaredTree
  pub signatures : List SignatureTree
  pub there : slice_get declarations index ≡ Some (InterfaceTree place declared extended signatures)
  pub name_is : declared.name ≡ name

-- A function of this name is declared at the index, and takes as many arguments as it has parameters.
pub record IsFunction (declarations : List DeclTree) (name : Name) (taking : Taking) : Type 0 where
  pub place : Place
  pub result : TypeTree
  pub declared : DeclaredTree
  pub type_params : List DeclaredTree
  pub params : List ParamTree
  pub value : ExprTree
  pub there : slice_get declarations taking.declaration
      ≡ Some (FunctionTree place result declared type_params params value)
  pub name_is : declared.name ≡ name
  pub arity_is : length params ≡ taking.arity

-- A class of this name is declared at the index, and takes as many arguments as it has parameters.
pub record IsClass (declarations : List DeclTree) (name : Name) (taking : Taking) : Type 0 where
  pub place : Place
  pub declared : DeclaredTree
  pub params : List ParamTree
  pub implemented : List DeclaredTree
  pub members : List MemberTree
  pub there : slice_get declarations taking.declaration ≡ Some (ClassTree place declared params implemented members)
  pub name_is : declared.name ≡ name
  pub arity_is : length params ≡ taking.arity

-- Data is declared at the index of its declaration. The constructor at the other index, which is that among its
-- constructors, has this name, and takes as many arguments as it has types.
pub record IsConstructor (declarations : List DeclTree) (name : Name) (meaning : ConstructorMeaning) : Type 0 where
  pub place : Place
  pub declared : DeclaredTree
  pub type_params : List DeclaredTree
  pub constructors : List ConstructorTree
  pub constructor : ConstructorTree
  pub there : slice_get declarations meaning.taking.declaration
      ≡ Some (DataTree place declared type_params constructors)
  pub constructor_there : slice_get constructors meaning.index ≡ Some constructor
  pub name_is : constructor.name.name ≡ name
  pub arity_is : count_types constructor.types ≡ meaning.taking.arity

-- data or an interface at an index is what its name stands for
abbrev pub IsFirstType : NameSpaces → ℕ → DeclTree → Type 0
IsFirstType spaces index (DataTree place name type_params constructors) =
    meaning_of spaces.types name.name ≡ Some (type.Data (record { declaration = index; arity = length type_params }))
IsFirstType spaces index (InterfaceTree place name extended signatures) =
    meaning_of spaces.types name.name ≡ Some (type.Interface index)
IsFirstType spaces index (FunctionTree place result name type_params params value) = ⊤
IsFirstType spaces index (ClassTree place name params implemented members) = ⊤

-- so is each data and each interface of declarations, the first of which has this index: no two types have one name
abbrev pub TypesAreOnce : NameSpaces → ℕ → List DeclTree → Type 0
TypesAreOnce spaces index [] = ⊤
TypesAreOnce spaces index (first ∷ others) =
    IsFirstType spaces index first × TypesAreOnce spaces (index + 1) others
