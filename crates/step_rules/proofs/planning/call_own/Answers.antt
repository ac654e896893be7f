use Rattle.std.proofs.Common.{◌≡◌, true, option_map, sym, ap, ◌∙◌}
use Rattle.std.proofs.lemmas.Result.{IfOk-weaker, on_err_weaker}
use Rattle.abs_tree.specs.Names.{name_of}
use Rattle.config_state.specs.Configurations.{fields_of, object_at}
use Rattle.step_rules.proofs.MoverLemmas.{goes_to, object_is}
use Rattle.step_rules.specs.Lookups.{class_of, successor}
use Rattle.step_rules.specs.Moves.{names_of, config_of}
use Rattle.step_rules.proofs.planning.call_own.Goals as goal

pub returns-clause-plan : goal.returns-clause-plan
returns-clause-plan c = IfOk-weaker c.enter.result _ _ (λ plan is runner point moves.
    let object = object_is c.args.at runner point moves in
    rw (
      object,
      ← c.class_of-class.ensures (names_of c.args.at),
      ← (c.successor-next.ensures ∙ goes_to c.args.at runner point true moves),
    )
    (rw object at (is (config_of c.args.at) runner object))) c.enter.ensures.plan

pub returns-clause-memory : goal.returns-clause-memory
returns-clause-memory c = on_err_weaker c.enter.result (λ is runner point moves.
    let config = config_of c.args.at in
    let object = object_is c.args.at runner point moves in
    let class : class_of (object_at config runner.frame.object)
    ≡ option_map (name_of (names_of c.args.at)) c.class_of-class.result =
    ap (λ found. class_of (object_at config found)) object ∙ sym (c.class_of-class.ensures (names_of c.args.at)) in
    let next : successor point.goes true ≡ c.successor-next.result =
    sym (c.successor-next.ensures ∙ goes_to c.args.at runner point true moves) in
    rw (class, next) (is runner (fields_of (object_at config runner.frame.object)) moves.open_still))
    c.enter.ensures.memory
