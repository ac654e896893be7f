use Rattle.abs_program.proofs.KnownNameLemmas.{number_tells}
use Rattle.abs_program.proofs.known.is_known.Goals as goal

pub returns : goal.returns
returns c = rw (c.number.ensures.number, c.len.ensures) (number_tells c.args.symbols.now _)
