-- What can be inside the values of a type.
--
--   `IsKnownType`              a type whose names are declared, or that of the objects of a class
--   `CanHold`                  the objects of a class can be inside values of a type
use Rattle.std.specs.Prelude.{◌≡◌, ⊤, true, List}
use Rattle.abs_program.specs.NameSpaces.{spaces_of}
use Rattle.abs_program.specs.Whole.{inside_types, TypeIsThere}
use Rattle.abs_tree.specs.Syntax.{Name, TypeTree, InterfaceType, ClassType, DeclTree, ProgramTree}
use Rattle.abs_types.specs.Holds.{holds_objects_in}
use Rattle.abs_types.specs.Subtyping.{implements_name}

-- what the type names is declared, and it has no type parameter; or it is that of the objects of a class
abbrev pub IsKnownType : ProgramTree → TypeTree → Type 0
IsKnownType program (ClassType name) = ⊤
IsKnownType program type = TypeIsThere (inside_types (spaces_of program.source.declarations) 0) type

-- The objects of a class can be inside values of the type: of an interface that the class implements, of the class
-- itself, or of data that holds objects.
abbrev pub CanHold : List DeclTree → Name → TypeTree → Type 0
CanHold declarations class (InterfaceType place name) = implements_name declarations class name ≡ true
CanHold declarations class (ClassType name) = class ≡ name
CanHold declarations class type = holds_objects_in declarations type ≡ true
