use Rattle.abs_tree.specs.SyntaxViews.{decl_tree}
use Rattle.abs_names.specs.Repeats.{declarations_repeats}
use Rattle.abs_names.proofs.RepeatLemmas.{NotedSoFar}
use Rattle.abs_names.proofs.walk.Walk.note_declarations.Given as goal

abbrev pub invariant-loop-declaration : goal.invariant-loop-declaration
invariant-loop-declaration l =
    NotedSoFar decl_tree declarations_repeats l.fn.self.scope l.fn.self.first l.declarations l.declaration-index l.self.scope
    l.self.first
