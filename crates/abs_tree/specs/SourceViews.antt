-- The tree of a source without its memory.
--
--   `source_tree`          the tree of a source, from the code's tree
use Rattle.abs_tree.specs.Syntax.{SourceTree}
use Rattle.abs_tree.specs.SyntaxViews.{tree_of_parts}
use Rattle.abs_tree.specs.declared.syntax.declaration.Program.{Program}

-- the tree of a source, with its names written out
abbrev pub source_tree : Program → SourceTree
source_tree program = tree_of_parts program.symbols program.declarations.items program.main
