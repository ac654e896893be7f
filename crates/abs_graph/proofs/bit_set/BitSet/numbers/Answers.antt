use Rattle.abs_graph.proofs.BitSetLemmas.{word_has-view}
use Rattle.abs_graph.proofs.ListedLemmas.{listed_as}
use Rattle.abs_graph.proofs.bit_set.BitSet.numbers.Goals as goal

pub returns : goal.returns
returns c =
    listed_as c.numbers_of.result c.numbers_of.ensures
    (word_has-view c.as_slice.result.now c.self.inside.words.items c.args.self.now c.as_slice.ensures.value
    c.self.view_is)
