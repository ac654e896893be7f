use Rattle.std.proofs.Common.{◌∙◌}
use Rattle.circularity_test.proofs.MarkLemmas.{entry_of_node}
use Rattle.circularity_test.proofs.distances.Distances.node_at.Goals as goal

pub returns : goal.returns
returns c =
    entry_of_node c.args.self.now.marks.entries c.as_slice.result.now c.args.index
    (c.as_slice.ensures ∙ c.keys.ensures.rest) c.requires
