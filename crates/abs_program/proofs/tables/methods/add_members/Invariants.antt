use Rattle.abs_program.proofs.MethodLemmas.{MembersSoFar}
use Rattle.abs_program.proofs.tables.methods.add_members.Given as goal

-- the members so far were added
abbrev pub invariant-loop-index : goal.invariant-loop-index
invariant-loop-index l =
    MembersSoFar l.symbols l.class l.members l.index l.initial.indices.entries l.indices.entries
