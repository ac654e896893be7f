use Rattle.abs_program.proofs.KeptSpaceLemmas.{number_means}
use Rattle.abs_program.proofs.name_spaces.NameSpaces.constructor.Goals as goal

pub returns : goal.returns
returns c =
    number_means c.args.symbols.now c.args.self.now.constructors c.args.name c.number.result c.look_up.result c.requires.constructors
    c.number.ensures.number c.look_up.ensures
