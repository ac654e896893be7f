use Rattle.std.proofs.Common.{◌≡◌, map, take}
use Rattle.std.specs.Option.{option_map}
use Rattle.abs_program.proofs.tables.entries.class_entries.Given as goal
use Rattle.abs_program.specs.Bodies.{entry_of_class}
use Rattle.abs_program.specs.InstructionViews.{class_entry_tree}
use Rattle.abs_tree.specs.SyntaxViews.{decl_tree}

-- the declarations so far have their entries
abbrev pub invariant-loop-declaration : goal.invariant-loop-declaration
invariant-loop-declaration l =
    map (option_map (class_entry_tree l.symbols)) l.entries.items
    ≡ map entry_of_class (map (decl_tree l.symbols) (take l.declaration-index l.declarations))
