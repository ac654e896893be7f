use Rattle.std.proofs.Common.{◌∙◌, ap}
use Rattle.abs_program.specs.Numbered.{looked_up}
use Rattle.abs_program.proofs.KeptSpaceLemmas.{looked_up-known}
use Rattle.abs_names.proofs.around.Around.type_param.Goals as goal

pub returns : goal.returns
returns c =
    let names = c.self.inside.symbols.now in
    let known = c.self.inside.type_params in
    let is = rw (← c.self.view_is) at c.kept-name.ensures in
    rw (← c.self.view_is) (c.look_up.ensures
    ∙ (ap (looked_up known) c.number.ensures.number
    ∙ looked_up-known names known c.kept-name.result _ c.self.invariant.1 is))
