-- The tree of a source whose names are resolved, without its memory.
--
--   `named_tree`           the tree of such a source, from the code's tree
--   `program_tree`         the tree of such a source with the table of its names
use Rattle.abs_tree.specs.Syntax.{SourceTree, ProgramTree}
use Rattle.abs_tree.specs.SyntaxViews.{tree_of_parts}
use Rattle.abs_program.specs.declared.named.Named.{Named}

-- the tree of a source whose variables are resolved, with its names written out
abbrev pub named_tree : Named → SourceTree
named_tree named = tree_of_parts named.symbols named.declarations.items named.main

-- the tree of a source whose variables are resolved, with the table of its names
abbrev pub program_tree : Named → ProgramTree
program_tree named = record { names = named.symbols; source = named_tree named }
