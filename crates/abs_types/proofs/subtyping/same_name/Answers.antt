use Rattle.abs_types.proofs.NameLemmas.{same_numbers}
use Rattle.abs_types.proofs.subtyping.same_name.Goals as goal

pub returns : goal.returns
returns c =
    same_numbers c.args.program.now.symbols c.args.one c.args.other c.number.ensures.number c.number-2.ensures.number
