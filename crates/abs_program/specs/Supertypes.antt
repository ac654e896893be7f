-- The interfaces above a declaration: those that an interface extends, and those that a class implements.
--
--   `interface_of`             the interface that a name stands for, if it is that of one
--   `interfaces_named`         those of several names
--   `above`                    the interfaces that a declaration extends or implements in one step
--   `supertypes`               the graph of them, whose nodes are the declarations
--   `is_below`                 whether a declaration extends or implements an interface in any number of steps
use Rattle.std.specs.Prelude.{ℕ, Bool, List, [], ◌∷◌, ◌++◌, map, Option, Some}
use Rattle.abs_graph.specs.Graphs.{Graph, reaches}
use Rattle.abs_program.specs.NameSpaces.{NameSpaces, spaces_of}
use Rattle.abs_tree.specs.Syntax.{DeclaredTree, DeclTree, DataTree, FunctionTree, InterfaceTree, ClassTree}
use Rattle.abs_program.specs.Tables.{meaning_of}
use Rattle.abs_program.specs.declared.name_spaces.TypeMeaning.{TypeMeaning}
use Rattle.abs_program.specs.declared.name_spaces.TypeMeaning.TheVariants as type

-- the interface that a name stands for, if it is that of one
abbrev pub interface_of : Option TypeMeaning → List ℕ
interface_of (Some (type.Interface index)) = index ∷ []
interface_of _ = []

-- the interfaces that several names stand for
abbrev pub interfaces_named : NameSpaces → List DeclaredTree → List ℕ
interfaces_named spaces [] = []
interfaces_named spaces (name ∷ others) =
    interface_of (meaning_of spaces.types name.name) ++ interfaces_named spaces others

-- the interfaces that a declaration extends or implements in one step, by the indices of their declarations
abbrev pub above : NameSpaces → DeclTree → List ℕ
above spaces (InterfaceTree place name extended signatures) = interfaces_named spaces extended
above spaces (ClassTree place name params implemented members) = interfaces_named spaces implemented
above spaces (DataTree place name type_params constructors) = []
above spaces (FunctionTree place result name type_params params value) = []

-- the graph of declarations: edges lead to the interfaces that each extends or implements in one step
abbrev pub supertypes_in : NameSpaces → List DeclTree → Graph
supertypes_in spaces declarations = map (above spaces) declarations

abbrev pub supertypes : List DeclTree → Graph
supertypes declarations = supertypes_in (spaces_of declarations) declarations

-- whether an interface extends another one, or a class implements it, in one step or in more
unfoldable pub is_below : List DeclTree → ℕ → ℕ → Bool
is_below declarations one other = reaches (supertypes declarations) one other
