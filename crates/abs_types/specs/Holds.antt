-- What types hold.
--
--   `holds_objects_in`         an interface, or data that leads to one, is in a type outside of `Fut`
--   `holds_futures_in`         `Fut` is in a type
use Rattle.std.specs.Prelude.{Bool, true, false, ◌||◌, List, get_or, Option, Some}
use Rattle.abs_program.specs.Holdings.{holders}
use Rattle.abs_program.specs.NameSpaces.{spaces_of}
use Rattle.abs_tree.specs.Syntax.{DeclTree, TypeTree, UnresolvedType, IntType, StringType, FutType, DataType, InterfaceType, ParameterType, BottomType, NullType, ClassType, TypeTrees, NoType, NextType}
use Rattle.abs_program.specs.Tables.{meaning_of}
use Rattle.abs_program.specs.declared.name_spaces.TypeMeaning.{TypeMeaning}
use Rattle.abs_program.specs.declared.name_spaces.TypeMeaning.TheVariants as type

-- whether what the name of data stands for holds objects
abbrev pub data_holds : List DeclTree → Option TypeMeaning → Bool
data_holds declarations (Some (type.Data taking)) = get_or (holders declarations) taking.declaration false
data_holds declarations _ = false

abbrev mutual
  -- whether an interface, or data whose declaration leads to one, is in a type outside of `Fut`
  pub holds_objects_in : List DeclTree → TypeTree → Bool
  holds_objects_in declarations (InterfaceType place name) = true
  holds_objects_in declarations (DataType place name arguments) =
      data_holds declarations (meaning_of (spaces_of declarations).types name)
      || any_holds_objects declarations arguments
  holds_objects_in declarations (FutType place value) = false
  holds_objects_in declarations (UnresolvedType place name arguments) = false
  holds_objects_in declarations (IntType place) = false
  holds_objects_in declarations (StringType place) = false
  holds_objects_in declarations (ParameterType place parameter) = false
  holds_objects_in declarations BottomType = false
  holds_objects_in declarations NullType = false
  holds_objects_in declarations (ClassType name) = false

  pub any_holds_objects : List DeclTree → TypeTrees → Bool
  any_holds_objects declarations NoType = false
  any_holds_objects declarations (NextType first others) =
      holds_objects_in declarations first || any_holds_objects declarations others

abbrev mutual
  -- whether `Fut` is in a type
  pub holds_futures_in : TypeTree → Bool
  holds_futures_in (FutType place value) = true
  holds_futures_in (DataType place name arguments) = any_holds_futures arguments
  holds_futures_in (UnresolvedType place name arguments) = false
  holds_futures_in (IntType place) = false
  holds_futures_in (StringType place) = false
  holds_futures_in (InterfaceType place name) = false
  holds_futures_in (ParameterType place parameter) = false
  holds_futures_in BottomType = false
  holds_futures_in NullType = false
  holds_futures_in (ClassType name) = false

  pub any_holds_futures : TypeTrees → Bool
  any_holds_futures NoType = false
  any_holds_futures (NextType first others) = holds_futures_in first || any_holds_futures others
