use Rattle.abs_program.proofs.ClassEntryLemmas.{RunSoFar}
use Rattle.abs_program.proofs.tables.entries.run_index.Given as goal

-- no member so far is a method `run`
abbrev pub invariant-loop-index : goal.invariant-loop-index
invariant-loop-index l = RunSoFar l.symbols l.members l.index
