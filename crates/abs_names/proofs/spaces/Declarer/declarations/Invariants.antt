use Rattle.std.specs.Prelude.{◌≡◌, ◌+◌}
use Rattle.abs_tree.specs.SyntaxViews.{decl_tree}
use Rattle.abs_names.specs.Spaces.{spaces_offences}
use Rattle.abs_names.proofs.SpaceLemmas.{AddedSoFar, OffendedSoFar, and_declarations}
use Rattle.abs_names.proofs.spaces.Declarer.declarations.Given as goal

abbrev pub invariant-loop-declaration : goal.invariant-loop-declaration
invariant-loop-declaration l =
    (l.index ≡ l.begin + l.declaration-index)
    × (AddedSoFar decl_tree and_declarations l.fn.self.around.names l.fn.self.around.around l.begin l.declarations
    l.declaration-index l.index l.self.around
    × OffendedSoFar decl_tree (λ index around. spaces_offences index around.spaces) l.fn.self.around.names
    l.fn.self.around.around l.begin l.fn.self.first l.declarations l.declaration-index l.index l.self.around
    l.self.first)
