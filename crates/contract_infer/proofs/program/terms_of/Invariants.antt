use Rattle.contract_infer.proofs.ClassTermLemmas.{ClassesGathered}
use Rattle.contract_infer.proofs.program.terms_of.Given as goal

-- the contracts of the declarations so far were gathered
abbrev pub invariant-loop-index : goal.invariant-loop-index
invariant-loop-index l = ClassesGathered l.program l.checker l.index l.next l.classes.items
