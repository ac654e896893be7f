use Rattle.abs_program.proofs.MethodLemmas.{MethodsSoFar}
use Rattle.abs_program.proofs.tables.methods.Methods.new.Given as goal

-- the methods of the declarations so far were added
abbrev pub invariant-loop-index : goal.invariant-loop-index
invariant-loop-index l = MethodsSoFar l.symbols l.declarations l.index l.indices.entries
