use Rattle.std.proofs.Common.{◌∙◌, ap}
use Rattle.abs_program.specs.NameSpaces.{NameSpaces}
use Rattle.abs_tree.specs.Names.{name_of}
use Rattle.abs_program.specs.Tables.{meaning_of}
use Rattle.abs_program.proofs.named.Named.constructor.Goals as goal

pub constructor-requires : goal.constructor-requires
constructor-requires c = c.args.self.now.has_tables.proper

pub returns : goal.returns
returns c =
    c.constructor.ensures
    ∙ ap (λ (spaces : NameSpaces). meaning_of spaces.constructors (name_of c.args.self.now.symbols c.args.name))
    c.args.self.now.has_tables.spaces
