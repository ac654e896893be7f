use Rattle.contract_infer.proofs.ClassTermLemmas.{MethodsGathered}
use Rattle.contract_infer.proofs.classes.methods_of.Given as goal

-- the contracts of the members so far were gathered
abbrev pub invariant-loop-member : goal.invariant-loop-member
invariant-loop-member l =
    MethodsGathered l.initial.checker l.checker l.class l.fields l.first l.members l.member-index l.methods
