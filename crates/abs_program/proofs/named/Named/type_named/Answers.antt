use Rattle.std.proofs.Common.{◌∙◌, ap}
use Rattle.abs_program.specs.NameSpaces.{NameSpaces}
use Rattle.abs_tree.specs.Names.{name_of}
use Rattle.abs_program.specs.Tables.{meaning_of}
use Rattle.abs_program.proofs.named.Named.type_named.Goals as goal

pub type_named-requires : goal.type_named-requires
type_named-requires c = c.args.self.now.has_tables.proper

pub returns : goal.returns
returns c =
    c.type_named.ensures
    ∙ ap (λ (spaces : NameSpaces). meaning_of spaces.types (name_of c.args.self.now.symbols c.args.name))
    c.args.self.now.has_tables.spaces
