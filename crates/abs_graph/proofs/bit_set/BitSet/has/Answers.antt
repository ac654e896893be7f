use Rattle.std.proofs.Common.{◌∙◌}
use Rattle.abs_graph.proofs.BitSetLemmas.{word_has-view}
use Rattle.abs_graph.proofs.bit_set.BitSet.has.Goals as goal

pub returns : goal.returns
returns c =
    c.has_bit.ensures
    ∙ word_has-view c.as_slice.result.now c.self.inside.words.items c.args.self.now c.as_slice.ensures.value
    c.self.view_is c.args.number
