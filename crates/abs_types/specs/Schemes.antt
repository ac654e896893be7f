-- What functions and constructors take and give.
--
--   `Scheme`                       how many type parameters there are, the types that are taken, and that which is
--                                  given
--   `scheme_of_function`           that of the function with a name
--   `scheme_of_constructor`        that of the constructor with a name
--   `has_parameter`                a type has a type parameter in it
--   `IsClosed`                     a scheme has no type parameters but its own
use Rattle.std.specs.Prelude.{ℕ, ◌<◌, ⊤, Bool, true, false, ◌||◌, List, [], ◌∷◌, length, map, slice_get, All, Option, Some, None, option_and_then}
use Rattle.std.specs.List.{range_with_len}
use Rattle.abs_program.specs.NameSpaces.{spaces_of}
use Rattle.abs_tree.specs.Syntax.{Name, ParamTree, ConstructorTree, DeclTree, DataTree, FunctionTree, InterfaceTree, ClassTree}
use Rattle.abs_program.specs.Tables.{meaning_of}
use Rattle.abs_program.specs.declared.name_spaces.ConstructorMeaning.{ConstructorMeaning}
use Rattle.abs_program.specs.declared.name_spaces.FunctionMeaning.{FunctionMeaning}
use Rattle.abs_program.specs.declared.name_spaces.FunctionMeaning.TheVariants as function
use Rattle.abs_types.specs.PlainTypes.{PlainType, PlainInt, PlainString, PlainBottom, PlainNull, PlainFut, PlainData, PlainApplied, PlainInterface, PlainClass, PlainParameter, applied_to, plain, plains}

-- how many type parameters there are, the types that are taken in order, and that which is given
pub record Scheme : Type 0 where
  pub parameters : ℕ
  pub takes : List PlainType
  pub gives : PlainType

-- the types of parameters
abbrev pub param_types : List ParamTree → List PlainType
param_types params = map (λ (param : ParamTree). plain param.type_of) params

-- the scheme of a declared function
abbrev pub declared_scheme : DeclTree → Option Scheme
declared_scheme (FunctionTree place result name type_params params value) =
    Some (record { parameters = length type_params; takes = param_types params; gives = plain result })
declared_scheme (DataTree place name type_params constructors) = None
declared_scheme (InterfaceTree place name extended signatures) = None
declared_scheme (ClassTree place name params implemented members) = None

-- the scheme of `toString`, which takes any value
abbrev pub to_string_scheme : Scheme
to_string_scheme = record { parameters = 1; takes = PlainParameter 0 ∷ []; gives = PlainString }

abbrev pub function_scheme : List DeclTree → Option FunctionMeaning → Option Scheme
function_scheme declarations (Some function.ToString) = Some to_string_scheme
function_scheme declarations (Some (function.Defined taking)) =
    option_and_then declared_scheme (slice_get declarations taking.declaration)
function_scheme declarations None = None

-- the scheme of the function with a name
unfoldable pub scheme_of_function : List DeclTree → Name → Option Scheme
scheme_of_function declarations name =
    function_scheme declarations (meaning_of (spaces_of declarations).functions name)

-- the scheme of a constructor of data with a name and so many type parameters: it gives the data, applied to these
abbrev pub built_scheme : Name → ℕ → ConstructorTree → Scheme
built_scheme owner parameters constructor = record {
  parameters = parameters;
  takes = plains constructor.types;
  gives = applied_to (PlainData owner) (map PlainParameter (range_with_len 0 parameters));
}

abbrev pub data_scheme : ℕ → DeclTree → Option Scheme
data_scheme index (DataTree place name type_params constructors) =
    option_and_then (λ constructor. Some (built_scheme name.name (length type_params) constructor))
    (slice_get constructors index)
data_scheme index (FunctionTree place result name type_params params value) = None
data_scheme index (InterfaceTree place name extended signatures) = None
data_scheme index (ClassTree place name params implemented members) = None

abbrev pub constructor_scheme : List DeclTree → Option ConstructorMeaning → Option Scheme
constructor_scheme declarations (Some meaning) =
    option_and_then (data_scheme meaning.index) (slice_get declarations meaning.taking.declaration)
constructor_scheme declarations None = None

-- the scheme of the constructor with a name
unfoldable pub scheme_of_constructor : List DeclTree → Name → Option Scheme
scheme_of_constructor declarations name =
    constructor_scheme declarations (meaning_of (spaces_of declarations).constructors name)

-- whether a type has a type parameter in it
abbrev pub has_parameter : PlainType → Bool
has_parameter (PlainParameter index) = true
has_parameter (PlainFut value) = has_parameter value
has_parameter (PlainApplied head argument) = has_parameter head || has_parameter argument
has_parameter PlainInt = false
has_parameter PlainString = false
has_parameter PlainBottom = false
has_parameter PlainNull = false
has_parameter (PlainData name) = false
has_parameter (PlainInterface name) = false
has_parameter (PlainClass name) = false

-- the type parameters of a type have indices below a number
abbrev pub ParametersBelow : ℕ → PlainType → Type 0
ParametersBelow count (PlainParameter index) = index < count
ParametersBelow count (PlainFut value) = ParametersBelow count value
ParametersBelow count (PlainApplied head argument) = ParametersBelow count head × ParametersBelow count argument
ParametersBelow count PlainInt = ⊤
ParametersBelow count PlainString = ⊤
ParametersBelow count PlainBottom = ⊤
ParametersBelow count PlainNull = ⊤
ParametersBelow count (PlainData name) = ⊤
ParametersBelow count (PlainInterface name) = ⊤
ParametersBelow count (PlainClass name) = ⊤

-- A scheme has no type parameters but its own.
pub record IsClosed (scheme : Scheme) : Type 0 where
  pub takes_own : All (ParametersBelow scheme.parameters) scheme.takes
  pub gives_own : ParametersBelow scheme.parameters scheme.gives
