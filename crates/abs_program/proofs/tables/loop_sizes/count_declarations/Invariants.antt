use Rattle.std.proofs.Common.{List, map}
use Rattle.abs_program.proofs.CountLemmas.{CountedSoFar}
use Rattle.abs_program.specs.MadeInstructions.{decl_loops}
use Rattle.abs_tree.specs.Syntax.{Name}
use Rattle.abs_tree.specs.SyntaxSizes.{decl_statements}
use Rattle.abs_tree.specs.SyntaxViews.{decl_tree}
use Rattle.abs_program.proofs.tables.loop_sizes.count_declarations.Given as goal

-- the declarations so far were counted
abbrev pub invariant-loop-declaration : goal.invariant-loop-declaration
invariant-loop-declaration l =
    (names : List Name) → CountedSoFar (λ items. decl_statements (map (decl_tree names) items))
    (λ items. decl_loops (map (decl_tree names) items)) l.declarations l.declaration-index l.count
    l.initial.loops.items l.loops.items
