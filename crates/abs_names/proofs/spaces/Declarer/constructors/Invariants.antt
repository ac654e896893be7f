use Rattle.abs_tree.specs.SyntaxViews.{constructor_tree}
use Rattle.abs_names.specs.Spaces.{constructors_offences}
use Rattle.abs_names.proofs.SpaceLemmas.{AddedSoFar, OffendedSoFar, and_constructors}
use Rattle.abs_names.proofs.spaces.Declarer.constructors.Given as goal

abbrev pub invariant-loop-constructor : goal.invariant-loop-constructor
invariant-loop-constructor l =
    AddedSoFar constructor_tree (and_constructors l.owner) l.fn.self.around.names l.fn.self.around.around 0
    l.constructors l.constructor-index l.index l.self.around
    × OffendedSoFar constructor_tree (λ index around. constructors_offences l.owner index around.spaces.constructors)
    l.fn.self.around.names l.fn.self.around.around 0 l.fn.self.first l.constructors l.constructor-index l.index
    l.self.around l.self.first
