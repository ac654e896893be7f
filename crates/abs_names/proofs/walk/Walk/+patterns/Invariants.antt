use Rattle.abs_names.proofs.PatternLemmas.{PatternsSoFar}
use Rattle.abs_names.proofs.walk.Walk.+patterns.Given as goal

abbrev pub invariant-patterns-loop-part : goal.invariant-patterns-loop-part
invariant-patterns-loop-part l =
    PatternsSoFar l.fn.self.scope.names l.fn.self.scope.scope l.fn.self.first l.parts l.part-index l.found.items
    l.self.scope l.self.first
