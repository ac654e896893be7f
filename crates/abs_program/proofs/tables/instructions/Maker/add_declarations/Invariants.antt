use Rattle.std.proofs.Common.{◌≡◌, List, ◌++◌, map}
use Rattle.abs_program.specs.MadeInstructions.{MadeDecls}
use Rattle.abs_tree.specs.Syntax.{Name}
use Rattle.abs_tree.specs.SyntaxViews.{decl_tree}
use Rattle.abs_tree.specs.declared.syntax.declaration.Decl.{Decl}
use Rattle.abs_program.proofs.tables.instructions.Maker.add_declarations.Given as goal

-- the declarations that are left are followed by some whose instructions were made
abbrev pub invariant-loop-declaration : goal.invariant-loop-declaration
invariant-loop-declaration l =
    (goal.iterator-loop-declaration).can_next l.declaration-iterator
    × (goal.iterator-loop-declaration).is_finite l.declaration-iterator
    × ((done : List Decl) × (l.declarations ≡ l.declaration-iterator.iter.rest.now ++ done)
    × ((names : List Name) → MadeDecls names (map (decl_tree names) done) l.fn.self l.self))
