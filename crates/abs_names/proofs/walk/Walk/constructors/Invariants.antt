use Rattle.abs_names.proofs.DeclarationLemmas.{constructor_resolution}
use Rattle.abs_names.proofs.InPlaceLemmas.{ChangedSoFar}
use Rattle.abs_names.proofs.walk.Walk.constructors.Given as goal

abbrev pub invariant-loop-constructor : goal.invariant-loop-constructor
invariant-loop-constructor l =
    ChangedSoFar constructor_resolution l.fn.self.scope 0 l.fn.self.first l.fn.constructors.items l.constructor-index
    l.constructor-items l.self.scope 0 l.self.first
