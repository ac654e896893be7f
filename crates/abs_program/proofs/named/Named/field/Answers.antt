use Rattle.std.proofs.Common.{◌∙◌}
use Rattle.abs_program.proofs.named.Named.field.Goals as goal

pub returns : goal.returns
returns c = c.find.ensures ∙ c.args.self.now.has_tables.fields_are.finds c.args.class c.args.number
