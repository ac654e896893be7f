-- When two programs are the same, and when they have the same functions. Symbols are numbers in the table of a program,
-- so the tables are compared, and then trees that are the same whatever names the symbols have.
--
--   `IsSameProgram`            the same names, declarations and main block
--   `function_declarations`    the functions among declarations
--   `HaveSameFunctions`        the same names and the same functions
--   `is_function`, `functions_among`       the functions among the code's declarations
use Rattle.std.specs.Prelude.{◌≡◌, Bool, true, false, List, [], ◌∷◌, map}
use Rattle.std.specs.List.{filter}
use Rattle.abs_tree.specs.Syntax.{Name, DeclTree, DataTree, FunctionTree, InterfaceTree, ClassTree}
use Rattle.abs_tree.specs.SyntaxViews.{decl_tree, tree_of_parts}
use Rattle.abs_tree.specs.declared.syntax.declaration.Decl.{Decl}
use Rattle.abs_tree.specs.declared.syntax.declaration.Decl.TheVariants as decl
use Rattle.abs_program.specs.declared.named.Named.{Named}

-- Two programs have the same names, and the same tree, places included.
abbrev pub IsSameProgram : Named → Named → Type 0
IsSameProgram left right =
    (left.symbols ≡ right.symbols)
    × ((names : List Name)
    → tree_of_parts names left.declarations.items left.main ≡ tree_of_parts names right.declarations.items right.main)

-- the functions among declarations, in their order
abbrev pub function_declarations : List DeclTree → List DeclTree
function_declarations [] = []
function_declarations (FunctionTree place result name type_params params value ∷ others) =
    FunctionTree place result name type_params params value ∷ function_declarations others
function_declarations (DataTree place name type_params constructors ∷ others) = function_declarations others
function_declarations (InterfaceTree place name extended signatures ∷ others) = function_declarations others
function_declarations (ClassTree place name params implemented members ∷ others) = function_declarations others

-- Two programs have the same names, and the same functions, places included.
abbrev pub HaveSameFunctions : Named → Named → Type 0
HaveSameFunctions left right =
    (left.symbols ≡ right.symbols)
    × ((names : List Name)
    → function_declarations (map (decl_tree names) left.declarations.items)
    ≡ function_declarations (map (decl_tree names) right.declarations.items))

-- whether a declaration is that of a function, and the functions among declarations of the code
abbrev pub is_function : Decl → Bool
is_function (decl.Data place name type_params constructors) = false
is_function (decl.Function place result name type_params params value) = true
is_function (decl.Interface place name extended signatures) = false
is_function (decl.Class place name params implemented members) = false

abbrev pub functions_among : List Decl → List Decl
functions_among = filter is_function
