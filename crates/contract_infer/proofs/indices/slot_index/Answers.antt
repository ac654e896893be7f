use Rattle.contract_infer.proofs.indices.slot_index.Goals as goal

pub returns-in_ok-written-in-Some-clause-found : goal.returns-in_ok-written-in-Some-clause-found
returns-in_ok-written-in-Some-clause-found c context knows =
    rw c.in-Some.is (c.in_ok-written-in-Some.ensures.found context knows)
