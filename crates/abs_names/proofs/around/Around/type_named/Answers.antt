use Rattle.std.proofs.Common.{◌∙◌, ap}
use Rattle.abs_program.specs.KeptSpaces.{named}
use Rattle.abs_program.specs.Tables.{meaning_of}
use Rattle.abs_names.proofs.around.Around.type_named.Goals as goal

pub type_named-requires : goal.type_named-requires
type_named-requires c = c.self.invariant.2

pub returns : goal.returns
returns c =
    let known = named c.self.inside.symbols.now (λ x. x) c.self.inside.spaces.types in
    let is = rw (← c.self.view_is) at c.kept.ensures in
    rw (← c.self.view_is) (c.type_named.ensures ∙ ap (meaning_of known) is)
