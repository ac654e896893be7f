use Rattle.contract_infer.proofs.BodyTermLemmas.{TermsGathered}
use Rattle.contract_infer.proofs.bodies.terms_of_body.Given as goal

abbrev pub invariant-loop-offset : goal.invariant-loop-offset
invariant-loop-offset l =
    TermsGathered l.initial.checker l.checker l.view l.first l.rows l.offset l.terms.items
