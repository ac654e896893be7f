use Rattle.std.proofs.Common.{◌∙◌, ap}
use Rattle.abs_program.specs.KeptMembers.{signatures_at}
use Rattle.abs_program.proofs.named.Named.signatures.Goals as goal

pub returns : goal.returns
returns c =
    c.find.ensures
    ∙ (ap (signatures_at c.args.self.now.tables.signatures) c.number.ensures.number
    ∙ c.args.self.now.has_tables.signatures_are.finds c.args.name)
