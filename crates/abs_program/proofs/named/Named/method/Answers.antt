use Rattle.std.proofs.Common.{◌∙◌, ap}
use Rattle.abs_program.specs.KeptMembers.{method_at}
use Rattle.abs_program.proofs.named.Named.method.Goals as goal

pub returns : goal.returns
returns c =
    c.find.ensures
    ∙ (ap (method_at c.args.self.now.tables.methods c.args.class) c.number.ensures.number
    ∙ c.args.self.now.has_tables.methods_are.finds c.args.class c.args.name)
