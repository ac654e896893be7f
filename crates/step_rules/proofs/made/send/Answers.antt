use Rattle.std.proofs.Common.{rules, ◌≡◌, ◌∷◌}
use Rattle.abs_values.specs.ValueTrees.{ObjectValue}
use Rattle.step_rules.proofs.made.send.Goals as goal

pub returns-in-Object-clause-memory : goal.returns-in-Object-clause-memory
returns-in-Object-clause-memory c =
    let same : c.args.values ≡ ObjectValue c.in-Object.object ∷ c.new.result = search rules in
    rw same c.send_to.ensures.memory
