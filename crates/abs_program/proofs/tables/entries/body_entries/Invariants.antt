use Rattle.std.proofs.Common.{map}
use Rattle.abs_program.proofs.BodyRowLemmas.{EachPassed, items_of}
use Rattle.abs_program.proofs.tables.entries.body_entries.Given as goal
use Rattle.abs_program.specs.BodyRows.{row_of_declaration, statements_of_declaration}
use Rattle.abs_program.specs.SlotViews.{DeclHasSlots}
use Rattle.abs_tree.specs.SyntaxViews.{decl_tree}

-- the declarations so far have their rows
abbrev pub invariant-loop-declaration : goal.invariant-loop-declaration
invariant-loop-declaration l =
    EachPassed DeclHasSlots decl_tree row_of_declaration statements_of_declaration l.declarations 0 l.declaration-index
    l.index (map items_of l.methods.items)
