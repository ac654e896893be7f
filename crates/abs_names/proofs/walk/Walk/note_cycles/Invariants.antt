use Rattle.abs_names.proofs.ExtensionLemmas.{CyclesNoted}
use Rattle.abs_names.proofs.walk.Walk.note_cycles.Given as goal

abbrev pub invariant-loop-index : goal.invariant-loop-index
invariant-loop-index l =
    CyclesNoted l.cycles l.fn.self.scope l.fn.self.first l.declarations l.index l.self.scope l.self.first
