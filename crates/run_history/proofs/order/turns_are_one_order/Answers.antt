use Rattle.std.proofs.Common.{[]}
use Rattle.run_history.proofs.TurnLemmas.{turns_agree}
use Rattle.run_history.proofs.order.turns_are_one_order.Goals as goal

pub returns : goal.returns
returns c = λ program one other. turns_agree program [] one other
