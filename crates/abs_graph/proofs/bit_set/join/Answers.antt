use Rattle.abs_graph.proofs.BitSetLemmas.{word_has-join}
use Rattle.abs_graph.proofs.bit_set.join.Goals as goal

pub returns : goal.returns
returns c =
    word_has-join c.loop-index.words c.args.words.now c.args.others.now c.loop-index.index c.loop-index.invariant.0
    c.loop-index.invariant.1 c.loop-index-test.false
