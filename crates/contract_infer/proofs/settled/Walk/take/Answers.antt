use Rattle.contract_infer.proofs.SettledStepLemmas.{takes_none}
use Rattle.contract_infer.proofs.settled.Walk.take.Goals as goal

pub returns-in_default : goal.returns-in_default
returns-in_default c = rw c.in_default.is (takes_none c.args.self.now c.args.row.now.items)
