-- The bytes that were written are the output before the rest, and each turn leaves a shorter rest.
use Rattle.std.proofs.Common.{◌≡◌, ◌≤◌, List, ℕ, ◌++◌, length}
use Rattle.std.specs.Io.KnownBytes.{Appends}
use Rattle.abs_command.proofs.edge.write.write_all.Given as goal

abbrev pub invariant-loop-rest : goal.invariant-loop-rest
invariant-loop-rest g l = record {
  front : List ℕ;
  parts : l.initial.rest ≡ front ++ l.rest;
  written : Appends (g.K.Sink.written l.initial.sink) (g.K.Sink.written l.sink) front;
  never_falls : g.K.Sink.faults l.initial.sink ≤ g.K.Sink.faults l.sink;
}

abbrev pub decreases-loop-rest : goal.decreases-loop-rest
decreases-loop-rest g l = length l.rest
