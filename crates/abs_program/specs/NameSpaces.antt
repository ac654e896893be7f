-- What the names of a source are declared as. Types, constructors, functions and classes have a name space each, and of
-- several declarations of a name in one of them the first counts.
--
--   `NameSpaces`                             the four name spaces
--   `built_in`                             what is declared before all declarations
--   `with_declaration`, `spaces_of`      name spaces with a declaration, and those of declarations
--   `type_arity`, `function_arity`         how many arguments a name of a type or a function takes
--   `data_arity`, `means_interface`        how many that of data takes, and whether a name is that of an interface
use Rattle.std.specs.Prelude.{ℕ, ◌+◌, Bool, true, false, List, [], ◌∷◌, codes, length, Option, Some, None}
use Rattle.abs_tree.specs.Syntax.{TypeTrees, NoType, NextType, ConstructorTree, DeclTree, DataTree, FunctionTree, InterfaceTree, ClassTree}
use Rattle.abs_program.specs.Tables.{Table, with_first}
use Rattle.abs_program.specs.declared.name_spaces.Taking.{Taking}
use Rattle.abs_program.specs.declared.name_spaces.TypeMeaning.{TypeMeaning}
use Rattle.abs_program.specs.declared.name_spaces.TypeMeaning.TheVariants as type
use Rattle.abs_program.specs.declared.name_spaces.FunctionMeaning.{FunctionMeaning}
use Rattle.abs_program.specs.declared.name_spaces.FunctionMeaning.TheVariants as function
use Rattle.abs_program.specs.declared.name_spaces.ConstructorMeaning.{ConstructorMeaning}

-- what the names of each name space stand for
pub record NameSpaces : Type 0 where
  pub types : Table TypeMeaning
  pub constructors : Table ConstructorMeaning
  pub functions : Table FunctionMeaning
  pub classes : Table Taking

-- what is declared before all declarations
abbrev pub built_in : NameSpaces
built_in = record {
  types = (codes "Int", type.Int) ∷ (codes "String", type.String) ∷ (codes "Fut", type.Fut) ∷ [];
  constructors = [];
  functions = (codes "toString", function.ToString) ∷ [];
  classes = [];
}

-- how many types there are
abbrev pub count_types : TypeTrees → ℕ
count_types NoType = 0
count_types (NextType first others) = 1 + count_types others

-- the constructors of a name space with one more of some data, which is at this index among those of the data
abbrev pub with_constructor : ℕ → ℕ → Table ConstructorMeaning → ConstructorTree → Table ConstructorMeaning
with_constructor owner index known constructor = with_first known constructor.name.name (record {
  taking = record { declaration = owner; arity = count_types constructor.types };
  index = index;
})

abbrev pub with_constructors : ℕ → ℕ → Table ConstructorMeaning → List ConstructorTree → Table ConstructorMeaning
with_constructors owner index known [] = known
with_constructors owner index known (constructor ∷ others) =
    with_constructors owner (index + 1) (with_constructor owner index known constructor) others

-- name spaces with one more declaration, which is at this index
abbrev pub with_declaration : ℕ → NameSpaces → DeclTree → NameSpaces
with_declaration index known (DataTree place name type_params constructors) = record known {
  types = with_first known.types name.name (type.Data (record { declaration = index; arity = length type_params }));
  constructors = with_constructors index 0 known.constructors constructors;
}
with_declaration index known (FunctionTree place result name type_params params value) = record known {
  functions = with_first known.functions name.name
      (function.Defined (record { declaration = index; arity = length params }));
}
with_declaration index known (InterfaceTree place name extended signatures) =
    record known { types = with_first known.types name.name (type.Interface index) }
with_declaration index known (ClassTree place name params implemented members) =
    record known { classes = with_first known.classes name.name (record { declaration = index; arity = length params }) }

-- name spaces with more declarations, from this index on, and those of all declarations of a source
abbrev pub with_declarations : ℕ → NameSpaces → List DeclTree → NameSpaces
with_declarations index known [] = known
with_declarations index known (declaration ∷ others) =
    with_declarations (index + 1) (with_declaration index known declaration) others

abbrev pub spaces_of : List DeclTree → NameSpaces
spaces_of declarations = with_declarations 0 built_in declarations

-- how many arguments the name of a type, and that of a function, takes
abbrev pub type_arity : TypeMeaning → ℕ
type_arity type.Int = 0
type_arity type.String = 0
type_arity type.Fut = 1
type_arity (type.Data taking) = taking.arity
type_arity (type.Interface index) = 0

abbrev pub function_arity : FunctionMeaning → ℕ
function_arity function.ToString = 1
function_arity (function.Defined taking) = taking.arity

-- how many arguments data takes, by what its name stands for
abbrev pub data_arity : Option TypeMeaning → Option ℕ
data_arity (Some (type.Data taking)) = Some taking.arity
data_arity (Some type.Int) = None
data_arity (Some type.String) = None
data_arity (Some type.Fut) = None
data_arity (Some (type.Interface index)) = None
data_arity None = None

-- whether a name stands for an interface
abbrev pub means_interface : Option TypeMeaning → Bool
means_interface (Some (type.Interface index)) = true
means_interface _ = false
