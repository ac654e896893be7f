use Rattle.std.proofs.Common.{◌≡◌, Some, ap, sym, ◌∙◌}
use Rattle.std.proofs.lemmas.Result.{on_err_weaker}
use Rattle.abs_values.specs.ValueTrees.{FutureValue}
use Rattle.abs_values.specs.ValueViews.{value_tree}
use Rattle.step_rules.proofs.MoverLemmas.{slots_are}
use Rattle.step_rules.specs.Lookups.{named_value}
use Rattle.step_rules.proofs.waits.get.Goals as goal

pub returns-in-Some-Future-clause-memory : goal.returns-in-Some-Future-clause-memory
returns-in-Some-Future-clause-memory c =
    let known : named_value c.args.at.frame.now.slots c.args.slot ≡ Some (FutureValue c.in-Some-Future.task) =
    sym (ap (λ value. Some (value_tree value)) (sym c.in-Some-Future.field-0-is) ∙ c.in-Some-Future.ensures) in
    on_err_weaker c.get_from.result (λ weaker runner point change moves is. weaker runner point change moves
    (rw (ap (λ slots. named_value slots c.args.slot) (slots_are c.args.at runner point moves) ∙ known) at is))
    c.get_from.ensures.memory
