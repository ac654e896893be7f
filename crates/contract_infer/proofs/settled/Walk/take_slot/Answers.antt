use Rattle.std.proofs.Common.{◌≡◌, ◌++◌, ◌∷◌, [], arith, sym, ◌∙◌}
use Rattle.std.proofs.lemmas.Grind.{common_steps}
use Rattle.contract_infer.proofs.SettledStepLemmas.{takes_absent, takes_there}
use Rattle.contract_infer.proofs.settled.Walk.take_slot.Goals as goal

pub returns-else-is_err : goal.returns-else-is_err
returns-else-is_err c =
    let added : c.push.new.self.items ≡ c.args.row.now.items ++ c.args.slot ∷ [] =
    grind (arith, common_steps) in
    takes_there (sym c.is_settled.ensures ∙ c.if-is_settled.true) c.clear.ensures added

pub returns-else-is_settled : goal.returns-else-is_settled
returns-else-is_settled c =
    takes_absent c.args.self.now c.args.slot c.args.row.now.items
    (sym c.is_settled.ensures ∙ c.if-is_settled.false)
