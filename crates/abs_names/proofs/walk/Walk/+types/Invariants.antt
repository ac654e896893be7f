use Rattle.abs_names.proofs.TypeLemmas.{TypesSoFar}
use Rattle.abs_names.proofs.walk.Walk.+types.Given as goal

abbrev pub invariant-type_terms-loop-term : goal.invariant-type_terms-loop-term
invariant-type_terms-loop-term l =
    TypesSoFar l.fn.self.scope l.fn.self.first l.terms l.term-index l.found.items l.self.scope l.self.first
