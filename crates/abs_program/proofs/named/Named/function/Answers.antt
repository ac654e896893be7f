use Rattle.std.proofs.Common.{◌∙◌, ap}
use Rattle.abs_program.specs.NameSpaces.{NameSpaces}
use Rattle.abs_tree.specs.Names.{name_of}
use Rattle.abs_program.specs.Tables.{meaning_of}
use Rattle.abs_program.proofs.named.Named.function.Goals as goal

pub function-requires : goal.function-requires
function-requires c = c.args.self.now.has_tables.proper

pub returns : goal.returns
returns c =
    c.function.ensures
    ∙ ap (λ (spaces : NameSpaces). meaning_of spaces.functions (name_of c.args.self.now.symbols c.args.name))
    c.args.self.now.has_tables.spaces
