use Rattle.std.proofs.Common.{rules}
use Rattle.saturation.proofs.PushLemmas.{added_at_key, written_items}
use Rattle.saturation.proofs.uses.Uses.add.Goals as goal
use Rattle.saturation.specs.declared.uses.Use.{Use}

pub returns : goal.returns
returns c =
    let one : Use = record { term = c.args.term; part = c.args.part } in
    let list = c.push.new.self in
    let updates = c.in_ok-self.ensures.update.0 list in
    added_at_key c.args.body c.args.location one list (search rules) updates.1 updates.2
    (written_items _ c.new.result c.or_insert.result.now list _ one c.new.ensures.items c.or_insert.ensures.value
    c.in_ok-push.ensures.items c.in_ok-self.ensures.value)
