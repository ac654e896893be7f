-- No two nodes are equal, so a search finds the number of one.
use Rattle.std.proofs.Common.{◌∙◌, ap, position}
use Rattle.circularity_test.proofs.NodeLemmas.{node_eq, node_eq_decides, number_found}
use Rattle.circularity_test.specs.Network.{nodes_in}
use Rattle.circularity_test.specs.declared.network.Node.TheVariants as node
use Rattle.name_bounding.specs.Names.{cog_of}
use Rattle.circularity_test.proofs.network.Ways.number_of_cog.Goals as goal

pub returns : goal.returns
returns c number =
    let keys = nodes_in c.args.self.now in
    number_found node_eq node_eq_decides keys c.len-count.ensures.unique
    (node.Cog (cog_of c.args.target.now.kind.now) c.args.target.now.component)
    c.get_index_of.result
    (c.get_index_of.ensures.index ∙ ap (λ name. position (node_eq (node.Cog name c.args.target.now.component)) keys) c.cog.ensures) number
