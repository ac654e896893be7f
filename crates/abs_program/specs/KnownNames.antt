-- The names that the table of a program has to have: those of its constructors, its classes and its methods.
--
--   `has_name`                 whether a table has a name
--   `KnowsNames`               the table of a program has all these names
use Rattle.std.specs.Prelude.{Bool, List, All, Contains}
use Rattle.std.specs.List.{list_any}
use Rattle.std.specs.Str.{bytes_eq}
use Rattle.abs_tree.specs.DeclaredNames.{declared_names}
use Rattle.abs_tree.specs.Syntax.{Name, ProgramTree}

-- whether a table has a name
abbrev pub has_name : List Name → Name → Bool
has_name names name = list_any (bytes_eq name) names

-- The table of a program has the name of each of its constructors, classes and methods. So two of these names have the
-- same number exactly where they are the same name.
pub record KnowsNames (program : ProgramTree) : Type 0 where
  pub known : All (Contains program.names) (declared_names program.source)
