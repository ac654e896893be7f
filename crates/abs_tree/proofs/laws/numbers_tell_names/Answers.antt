use Rattle.abs_tree.proofs.NumberLemmas.{numbers_tell_names}
use Rattle.abs_tree.proofs.laws.numbers_tell_names.Goals as goal

pub returns : goal.returns
returns c = numbers_tell_names c.args.symbols.now c.args.one c.args.other
