-- What an expression can use: the library of its program, and the values of its scope.
--
--   `FunctionBody`, `functions_of`     functions without their types, and those of declarations
--   `function_named`                   the function with a name; the first one counts
--   `Library`, `library_of`            what a program gives to evaluation: its functions and its names
--   `Scope`, `own_scope`               the values that an expression can read, and the scope of a function's body
--   `with_bound`                       a scope with more bound variables
--   `Location`, `location_of`          where a value is read, and where that of a variable is
--   `value_at`                         the value at a location
use Rattle.std.specs.Prelude.{ℕ, List, [], ◌∷◌, ◌++◌, length, slice_get, Option, Some, None, if◌then◌else◌}
use Rattle.std.specs.Option.{option_map}
use Rattle.std.specs.Str.{bytes_eq}
use Rattle.abs_tree.specs.Syntax.{Name, VariableTree, Unresolved, AtSlot, AtBound, AtField, ExprTree, DeclTree, DataTree, FunctionTree, InterfaceTree, ClassTree, ProgramTree}
use Rattle.abs_values.specs.ValueTrees.{ValueTree, ObjectValue}

-- a function: its name, how many parameters it has, and its value
pub record FunctionBody : Type 0 where
  pub name : Name
  pub arity : ℕ
  pub value : ExprTree

-- the functions among declarations, in their order
abbrev pub functions_of : List DeclTree → List FunctionBody
functions_of [] = []
functions_of (FunctionTree place result name type_params params value ∷ others) =
    record { name = name.name; arity = length params; value = value } ∷ functions_of others
functions_of (DataTree place name type_params constructors ∷ others) = functions_of others
functions_of (InterfaceTree place name extended signatures ∷ others) = functions_of others
functions_of (ClassTree place name params implemented members ∷ others) = functions_of others

-- the first function with a name
abbrev pub function_named : List FunctionBody → Name → Option FunctionBody
function_named [] name = None
function_named (function ∷ others) name =
    if bytes_eq function.name name then Some function else function_named others name

-- all that evaluation takes from a program: its functions, and the table of its names
pub record Library : Type 0 where
  pub functions : List FunctionBody
  pub names : List Name

-- the library of a program
abbrev pub library_of : ProgramTree → Library
library_of program = record { functions = functions_of program.source.declarations; names = program.names }

-- the values that an expression can read: the own object, the slots of its body, the fields of the own object, and the
-- variables that patterns and `let` bind around it, the innermost last
pub record Scope : Type 0 where
  pub this : Option ℕ
  pub slots : List ValueTree
  pub fields : List ValueTree
  pub bound : List ValueTree

-- the scope of a function's body, whose slots are its arguments
abbrev pub own_scope : List ValueTree → Scope
own_scope values = record { this = None; slots = values; fields = []; bound = [] }

-- a scope with more bound variables
abbrev pub with_bound : Scope → List ValueTree → Scope
with_bound scope values = record scope { bound = scope.bound ++ values }

-- where a value is read: a slot, a field, a bound variable, or the own object
pub data Location : Type 0 where
  InSlot : (slot : ℕ) → Location
  InField : (field : ℕ) → Location
  InBound : (depth : ℕ) → Location
  InThis : Location

-- where the value of a variable is
abbrev pub location_of : VariableTree → Option Location
location_of (Unresolved name) = None
location_of (AtSlot slot) = Some (InSlot slot)
location_of (AtBound depth) = Some (InBound depth)
location_of (AtField field) = Some (InField field)

-- the value at a location, if there is one
abbrev pub value_at : Scope → Location → Option ValueTree
value_at scope (InSlot slot) = slice_get scope.slots slot
value_at scope (InField field) = slice_get scope.fields field
value_at scope (InBound depth) = slice_get scope.bound depth
value_at scope InThis = option_map ObjectValue scope.this
