-- What a type lets in: the objects and futures that can be inside its values, as far as the analysis tells them apart.
--
--   `ObjectsTree`, `AcceptsTree`           objects that are let in, and whether futures are
--   `nothing`                              no object and no future
--   `objects_in`, `accepts_in`             what a type of a source lets in
--   `accepts_of`                           what a type lets in that may be missing
--   `receivers_of`                         the objects that can be the receiver of a call, by its type
use Rattle.std.specs.Prelude.{Bool, false, List, Option, Some, None, if◌then◌else◌}
use Rattle.abs_tree.specs.Syntax.{Name, TypeTree, InterfaceType, ClassType, DeclTree}
use Rattle.abs_types.specs.Holds.{holds_objects_in, holds_futures_in}
use Rattle.abs_types.specs.PlainTypes.{PlainType, PlainInterface, PlainClass}

-- no object; the objects of one class; those of all classes that implement an interface; or all objects
pub data ObjectsTree : Type 0 where
  NoObject : ObjectsTree
  OfClass : (class : Name) → ObjectsTree
  Implementing : (interface : Name) → ObjectsTree
  AllObjects : ObjectsTree

-- objects that are let in, and whether futures are
pub record AcceptsTree : Type 0 where
  pub objects : ObjectsTree
  pub futures : Bool

-- no object and no future
abbrev pub nothing : AcceptsTree
nothing = record { objects = NoObject; futures = false }

-- The objects that a type of a source lets in. Those of an interface implement it, and those of a class are of it. Any
-- other type that holds objects lets in all of them.
unfoldable pub objects_in : List DeclTree → TypeTree → ObjectsTree
objects_in declarations (InterfaceType place name) = Implementing name
objects_in declarations (ClassType name) = OfClass name
objects_in declarations type = if holds_objects_in declarations type then AllObjects else NoObject

-- What a type of a source lets in. It lets in futures if `Fut` occurs in it.
unfoldable pub accepts_in : List DeclTree → TypeTree → AcceptsTree
accepts_in declarations type = record {
  objects = objects_in declarations type;
  futures = holds_futures_in type;
}

-- what a type lets in: where there is none, nothing
abbrev pub accepts_of : List DeclTree → Option TypeTree → AcceptsTree
accepts_of declarations None = nothing
accepts_of declarations (Some type) = accepts_in declarations type

-- The objects that can be the receiver of a call, by its type: an interface or a class. Another type has none, and
-- neither has a receiver without a type.
abbrev pub receivers_of : Option PlainType → ObjectsTree
receivers_of (Some (PlainInterface name)) = Implementing name
receivers_of (Some (PlainClass name)) = OfClass name
receivers_of _ = NoObject
