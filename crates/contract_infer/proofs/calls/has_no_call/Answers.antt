use Rattle.std.proofs.Common.{nat_eq, rules, tests}
use Rattle.std.specs.Prelude.{vec_len}
use Rattle.std.proofs.lemmas.Iterator.{YieldsList-from_slice}
use Rattle.std.proofs.lemmas.Iterator.Search.{all_from_yields_List}
use Rattle.contract_infer.proofs.calls.has_no_call.Goals as goal

pub returns : goal.returns
returns c =
    all_from_yields_List (λ called. nat_eq (vec_len called) 0) _ _ c.all.result c.all.ensures.ran
    (YieldsList-from_slice c.args.calls.now cc) (λ x b q k. search (rules, tests))
