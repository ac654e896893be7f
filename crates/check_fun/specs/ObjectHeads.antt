-- What a type is at its head: an interface, an object of a class, or another type.
--
--   `PlainHead`            the head of a type, with its name
--   `head_of`              that of a type
--   `head_named`           that of the code, whose names are numbers
use Rattle.std.specs.Prelude.{List}
use Rattle.abs_tree.specs.Names.{name_of}
use Rattle.abs_tree.specs.Syntax.{Name}
use Rattle.abs_types.specs.PlainTypes.{PlainType, PlainInterface, PlainClass}
use Rattle.check_fun.specs.declared.heads.Head.{Head}
use Rattle.check_fun.specs.declared.heads.Head.TheVariants as head

-- the head of a type, with its name
pub data PlainHead : Type 0 where
  OfInterface : (name : Name) → PlainHead
  OfClass : (name : Name) → PlainHead
  OfOther : PlainHead

-- the head of a type
abbrev pub head_of : PlainType → PlainHead
head_of (PlainInterface name) = OfInterface name
head_of (PlainClass name) = OfClass name
head_of _ = OfOther

-- the code's head, whose names are numbers, with its name written out
abbrev pub head_named : List Name → Head → PlainHead
head_named names (head.Interface name) = OfInterface (name_of names name)
head_named names (head.Class name) = OfClass (name_of names name)
head_named names head.Other = OfOther
