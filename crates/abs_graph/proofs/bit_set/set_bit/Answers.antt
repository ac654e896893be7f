use Rattle.abs_graph.proofs.BitSetLemmas.{word_has-set}
use Rattle.abs_graph.proofs.bit_set.set_bit.Goals as goal

pub returns : goal.returns
returns c = λ other. word_has-set c.args.words.now c.args.number other c.requires
