use Rattle.circularity_test.proofs.ComponentLemmas.{LevelSoFar}
use Rattle.circularity_test.proofs.NumberLemmas.{numbers_of}
use Rattle.circularity_test.proofs.components.level_pairs.Given as goal

-- the pairs so far that stay in a component, and their components
abbrev pub invariant-loop-index : goal.invariant-loop-index
invariant-loop-index l = LevelSoFar (numbers_of l.parts.parts.keys l.found.numbers.items) l.list l.index
    l.pairs.items l.components.items
