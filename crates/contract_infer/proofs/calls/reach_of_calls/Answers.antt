use Rattle.contract_infer.proofs.CallLemmas.{none_reached}
use Rattle.contract_infer.proofs.calls.reach_of_calls.Goals as goal

pub returns-then-has_no_call : goal.returns-then-has_no_call
returns-then-has_no_call c =
    none_reached c.args.calls.now c.has_no_call.result c.has_no_call.ensures c.if-has_no_call.true
