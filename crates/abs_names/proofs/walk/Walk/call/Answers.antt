use Rattle.std.specs.Prelude.{None}
use Rattle.abs_tree.specs.Names.{name_of}
use Rattle.abs_names.proofs.walk.Walk.call.Goals as goal

pub returns-clause-slots : goal.returns-clause-slots
returns-clause-slots c =
    let names = c.args.self.now.scope.names.before in
    c.in_ok-slot.ensures.slots names c.args.place (name_of names c.args.method) None
