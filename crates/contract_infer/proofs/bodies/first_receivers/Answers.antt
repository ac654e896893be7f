use Rattle.std.proofs.Common.{option_map, ap, sym, ◌∙◌, []}
use Rattle.abs_tree.specs.SyntaxViews.{expr_tree}
use Rattle.abs_types.specs.Typing.{type_in}
use Rattle.check_fun.specs.ObjectHeads.{head_named}
use Rattle.contract_infer.proofs.ViewLemmas.{receiver_found, receiver_none, receivers_first}
use Rattle.contract_infer.specs.BodyViews.{whole_context}
use Rattle.contract_terms.specs.BodyContexts.{whole_frame}
use Rattle.contract_infer.proofs.bodies.first_receivers.Goals as goal

pub returns-in-Some-2-clause-found : goal.returns-in-Some-2-clause-found
returns-in-Some-2-clause-found c names declarations body knows =
    receiver_found (head_named names c.in-Some-2.head) _
    (type_in declarations (whole_frame body) [] (expr_tree names c.in-Some.receiver.now))
    (ap (option_map (head_named names)) (sym c.in-Some-2.is)
    ∙ c.in_ok-head.ensures.found (whole_context names declarations body) knows)
    (λ one is. c.receivers_of.ensures names one is)
    ∙ sym (receivers_first declarations body names c.args.exprs.now c.in-Some.receiver.now (sym c.in-Some.ensures.value))

pub returns-in-None-clause-found : goal.returns-in-None-clause-found
returns-in-None-clause-found c names declarations body knows =
    receiver_none (type_in declarations (whole_frame body) [] (expr_tree names c.in-Some.receiver.now))
    (ap (option_map (head_named names)) (sym c.in-None.is)
    ∙ c.in_ok-head.ensures.found (whole_context names declarations body) knows)
    ∙ sym (receivers_first declarations body names c.args.exprs.now c.in-Some.receiver.now (sym c.in-Some.ensures.value))
