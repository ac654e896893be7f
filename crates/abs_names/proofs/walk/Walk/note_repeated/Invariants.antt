use Rattle.abs_names.proofs.RepeatLemmas.{RepeatedSoFar}
use Rattle.abs_names.proofs.walk.Walk.note_repeated.Given as goal

abbrev pub invariant-loop-one : goal.invariant-loop-one
invariant-loop-one l =
    RepeatedSoFar l.fn.self.scope l.fn.self.first l.declared l.one-index l.seen.keys l.self.scope l.self.first
