use Rattle.abs_names.proofs.DeclarationLemmas.{interface_resolution}
use Rattle.abs_names.proofs.InPlaceLemmas.{ChangedSoFar}
use Rattle.abs_names.proofs.walk.Walk.interfaces.Given as goal

abbrev pub invariant-loop-name : goal.invariant-loop-name
invariant-loop-name l =
    ChangedSoFar interface_resolution l.fn.self.scope 0 l.fn.self.first l.fn.names.items l.name-index
    l.name-items l.self.scope 0 l.self.first
