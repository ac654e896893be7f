use Rattle.abs_program.proofs.MethodLemmas.{entry_added}
use Rattle.abs_program.proofs.tables.methods.add_first.Goals as goal

pub returns : goal.returns
returns c =
    entry_added c.args.key c.args.index c.args.indices.now.entries c.insert.new.self.entries c.if-contains_key.ensures
    c.in_ok-insert.ensures.updates.0
