-- Which declarations hold objects: an interface does, and so does data if an interface, or data that holds objects, is
-- in the type of an argument of its constructors outside of `Fut`.
--
--   `declarations_in`          the data and the interfaces that are in a type outside of `Fut`
--   `holdings`                 the graph of them, whose nodes are the declarations
--   `are_interfaces`           for each declaration, whether it is that of an interface
--   `holders`                  for each declaration, whether it holds objects
use Rattle.std.specs.Prelude.{ℕ, Bool, true, false, List, [], ◌∷◌, ◌++◌, map, Option, Some, None}
use Rattle.abs_graph.specs.Graphs.{Graph, reach_marked}
use Rattle.abs_program.specs.NameSpaces.{NameSpaces, spaces_of}
use Rattle.abs_tree.specs.Syntax.{TypeTree, UnresolvedType, IntType, StringType, FutType, DataType, InterfaceType, ParameterType, BottomType, NullType, ClassType, TypeTrees, NoType, NextType, ConstructorTree, DeclTree, DataTree, FunctionTree, InterfaceTree, ClassTree}
use Rattle.abs_program.specs.Tables.{meaning_of}
use Rattle.abs_program.specs.declared.name_spaces.TypeMeaning.{TypeMeaning}
use Rattle.abs_program.specs.declared.name_spaces.TypeMeaning.TheVariants as type

-- the declaration that the name of a type stands for, by its index, if it is that of data or of an interface
abbrev pub declaration_of : Option TypeMeaning → List ℕ
declaration_of (Some type.Int) = []
declaration_of (Some type.String) = []
declaration_of (Some type.Fut) = []
declaration_of (Some (type.Data taking)) = taking.declaration ∷ []
declaration_of (Some (type.Interface index)) = index ∷ []
declaration_of None = []

abbrev mutual
  -- the data and the interfaces that are in a resolved type outside of `Fut`
  pub declarations_in : NameSpaces → TypeTree → List ℕ
  declarations_in spaces (DataType place name arguments) =
      declaration_of (meaning_of spaces.types name) ++ declarations_in_all spaces arguments
  declarations_in spaces (InterfaceType place name) = declaration_of (meaning_of spaces.types name)
  declarations_in spaces (UnresolvedType place name arguments) = []
  declarations_in spaces (IntType place) = []
  declarations_in spaces (StringType place) = []
  declarations_in spaces (FutType place value) = []
  declarations_in spaces (ParameterType place parameter) = []
  declarations_in spaces BottomType = []
  declarations_in spaces NullType = []
  declarations_in spaces (ClassType name) = []

  pub declarations_in_all : NameSpaces → TypeTrees → List ℕ
  declarations_in_all spaces NoType = []
  declarations_in_all spaces (NextType first others) =
      declarations_in spaces first ++ declarations_in_all spaces others

-- those in the types of the arguments of constructors
abbrev pub held_by_constructors : NameSpaces → List ConstructorTree → List ℕ
held_by_constructors spaces [] = []
held_by_constructors spaces (constructor ∷ others) =
    declarations_in_all spaces constructor.types ++ held_by_constructors spaces others

-- those that are in a declaration of data
abbrev pub held_by : NameSpaces → DeclTree → List ℕ
held_by spaces (DataTree place name type_params constructors) = held_by_constructors spaces constructors
held_by spaces (FunctionTree place result name type_params params value) = []
held_by spaces (InterfaceTree place name extended signatures) = []
held_by spaces (ClassTree place name params implemented members) = []

-- the graph of declarations: edges lead to what is in each
abbrev pub holdings_in : NameSpaces → List DeclTree → Graph
holdings_in spaces declarations = map (held_by spaces) declarations

abbrev pub holdings : List DeclTree → Graph
holdings declarations = holdings_in (spaces_of declarations) declarations

-- for each declaration, whether it is that of an interface
abbrev pub is_interface : DeclTree → Bool
is_interface (InterfaceTree place name extended signatures) = true
is_interface (DataTree place name type_params constructors) = false
is_interface (FunctionTree place result name type_params params value) = false
is_interface (ClassTree place name params implemented members) = false

abbrev pub are_interfaces : List DeclTree → List Bool
are_interfaces declarations = map is_interface declarations

-- for each declaration, whether it is that of an interface, or leads to one
unfoldable pub holders : List DeclTree → List Bool
holders declarations = reach_marked (holdings declarations) (are_interfaces declarations)
