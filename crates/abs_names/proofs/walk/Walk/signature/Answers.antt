use Rattle.std.proofs.lemmas.Result.{on_ok_weaker}
use Rattle.abs_names.proofs.ParamLemmas.{params_count}
use Rattle.abs_names.proofs.walk.Walk.signature.Goals as goal

pub returns-clause-params : goal.returns-clause-params
returns-clause-params c =
    on_ok_weaker c.make_slots.result (λ made. params_count _ _ _ _ c.args.signature.now.params.items _ made)
    c.make_slots.ensures.found
