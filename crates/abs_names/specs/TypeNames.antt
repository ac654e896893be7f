-- Types: which written ones offend (N2, N3), and what each is after its names are resolved. A type parameter hides the
-- type with its name, and takes no arguments.
--
--   `Around`                               what is declared, and the type parameters of a declaration
--   `applied`, `counted`                   the offence of a name with so many arguments
--   `type_offences`, `types_offences`      the offences of types
--   `resolved_type`, `resolved_types`      resolved types
use Rattle.std.specs.Prelude.{ℕ, ◌+◌, List, [], ◌∷◌, ◌++◌, Option, Some, None, option_map, nat_eq, if◌then◌else◌}
use Rattle.abs_program.specs.NameSpaces.{NameSpaces, count_types, type_arity, function_arity}
use Rattle.abs_tree.specs.Places.{start}
use Rattle.abs_tree.specs.Syntax.{Name, TypeTree, UnresolvedType, IntType, StringType, FutType, DataType, InterfaceType, ParameterType, BottomType, NullType, ClassType, TypeTrees, NoType, NextType, DeclaredTree}
use Rattle.abs_program.specs.Tables.{Table, meaning_of, with_first}
use Rattle.abs_program.specs.declared.name_spaces.Taking.{Taking}
use Rattle.abs_program.specs.declared.name_spaces.ConstructorMeaning.{ConstructorMeaning}
use Rattle.abs_program.specs.declared.name_spaces.TypeMeaning.{TypeMeaning}
use Rattle.abs_program.specs.declared.name_spaces.TypeMeaning.TheVariants as type
use Rattle.abs_tree.specs.declared.place.Place.{Place}
use Rattle.abs_tree.specs.declared.refusal.Offence.{Offence}
use Rattle.abs_tree.specs.declared.refusal.Code.TheVariants.{N2, N3}
use Rattle.abs_names.specs.Single.{unwritten}

-- what is around a part of a source: what is declared, and the type parameters with their indices
pub record Around : Type 0 where
  pub spaces : NameSpaces
  pub type_params : Table ℕ

-- type parameters with their indices, from this one on
abbrev pub with_type_params : ℕ → Table ℕ → List DeclaredTree → Table ℕ
with_type_params index known [] = known
with_type_params index known (declared ∷ others) =
    with_type_params (index + 1) (with_first known declared.name index) others

-- what is around the parts of a declaration with these type parameters
abbrev pub around_of : NameSpaces → List DeclaredTree → Around
around_of spaces type_params = record { spaces = spaces; type_params = with_type_params 0 [] type_params }

-- the offence of a name at this place that is given so many arguments, unless it takes so many
abbrev pub counted : ℕ → ℕ → Place → List Offence
counted taken given place = if nat_eq taken given then [] else record { place = place; code = N3 } ∷ []

-- the offence of a name at this place that is unknown, or is given so many arguments and does not take so many
abbrev pub applied : Option ℕ → ℕ → Place → List Offence
applied (Some taken) given place = counted taken given place
applied None given place = record { place = place; code = N2 } ∷ []

-- how many arguments a name takes as a type
abbrev pub taken_by : Option ℕ → Option TypeMeaning → Option ℕ
taken_by (Some parameter) meaning = Some 0
taken_by None meaning = option_map type_arity meaning

abbrev pub type_taking : Around → Name → Option ℕ
type_taking around name = taken_by (meaning_of around.type_params name) (meaning_of around.spaces.types name)

-- how many arguments a name takes as a function, as a constructor, and as a class
abbrev pub function_taking : Around → Name → Option ℕ
function_taking around name = option_map function_arity (meaning_of around.spaces.functions name)

abbrev pub constructor_taking : Around → Name → Option ℕ
constructor_taking around name =
    option_map (λ (c : ConstructorMeaning). c.taking.arity) (meaning_of around.spaces.constructors name)

abbrev pub class_taking : Around → Name → Option ℕ
class_taking around name = option_map (λ (c : Taking). c.arity) (meaning_of around.spaces.classes name)

abbrev mutual
  -- a type, whose name comes before its arguments; a source does not write one that is resolved already
  pub type_offences : Around → TypeTree → List Offence
  type_offences around (UnresolvedType place name arguments) =
      applied (type_taking around name) (count_types arguments) place ++ types_offences around arguments
  type_offences around (FutType place value) = unwritten place ++ type_offences around value
  type_offences around (DataType place name arguments) = unwritten place ++ types_offences around arguments
  type_offences around (IntType place) = unwritten place
  type_offences around (StringType place) = unwritten place
  type_offences around (InterfaceType place name) = unwritten place
  type_offences around (ParameterType place parameter) = unwritten place
  type_offences around BottomType = unwritten start
  type_offences around NullType = unwritten start
  type_offences around (ClassType name) = unwritten start

  pub types_offences : Around → TypeTrees → List Offence
  types_offences around NoType = []
  types_offences around (NextType first others) = type_offences around first ++ types_offences around others

-- `Fut` of one type; of another number of types it stays as it is
abbrev pub future_type : Place → Name → TypeTrees → TypeTree
future_type place name (NextType value NoType) = FutType place value
future_type place name arguments = UnresolvedType place name arguments

-- a name with resolved arguments, by what it stands for; one that is unknown stays as it is
abbrev pub named_type : Place → Name → TypeTrees → Option ℕ → Option TypeMeaning → TypeTree
named_type place name arguments (Some parameter) meaning = ParameterType place parameter
named_type place name arguments None (Some type.Int) = IntType place
named_type place name arguments None (Some type.String) = StringType place
named_type place name arguments None (Some type.Fut) = future_type place name arguments
named_type place name arguments None (Some (type.Data taking)) = DataType place name arguments
named_type place name arguments None (Some (type.Interface index)) = InterfaceType place name
named_type place name arguments None None = UnresolvedType place name arguments

abbrev mutual
  -- a type
  pub resolved_type : Around → TypeTree → TypeTree
  resolved_type around (UnresolvedType place name arguments) =
      named_type place name (resolved_types around arguments) (meaning_of around.type_params name)
      (meaning_of around.spaces.types name)
  resolved_type around (FutType place value) = FutType place (resolved_type around value)
  resolved_type around (DataType place name arguments) = DataType place name (resolved_types around arguments)
  resolved_type around (IntType place) = IntType place
  resolved_type around (StringType place) = StringType place
  resolved_type around (InterfaceType place name) = InterfaceType place name
  resolved_type around (ParameterType place parameter) = ParameterType place parameter
  resolved_type around BottomType = BottomType
  resolved_type around NullType = NullType
  resolved_type around (ClassType name) = ClassType name

  pub resolved_types : Around → TypeTrees → TypeTrees
  resolved_types around NoType = NoType
  resolved_types around (NextType first others) = NextType (resolved_type around first) (resolved_types around others)
