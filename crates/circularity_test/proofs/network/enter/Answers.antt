-- Each pair gets the number that its node has in the set.
use Rattle.std.proofs.Common.{◌+◌, ◌≤◌, ◌∙◌, ap, sym, subst, take}
use Rattle.circularity_test.proofs.NodeLemmas.{node_eq, node_eq_decides, numbers_all, numbers_more, zip_both}
use Rattle.circularity_test.specs.Network.{AreNumbers, node_by, node_of}
use Rattle.circularity_test.proofs.network.enter.Goals as goal

pub loop-index-preserved : goal.loop-index-preserved
loop-index-preserved c component are =
    let keys = c.insert_full.new.self.keys in
    let pair = c.at.result.now in
    let number = zip_both _ c.args.pairs.now.pairs c.args.pairs.now.components.items are c.loop-index.index pair
    c.component.result c.at.ensures c.component.ensures in
    subst (λ numbers. AreNumbers (node_of component) (take (c.loop-index.index + 1) c.args.pairs.now.pairs) keys numbers)
    (sym c.in_ok-push.ensures.items)
    (numbers_more node_eq node_eq_decides (node_of component) c.loop-index.nodes.keys keys c.args.pairs.now.pairs
    c.loop-index.entries.items c.loop-index.index pair c.of-node.result c.in_ok-number.number c.at.ensures
    (c.of-node.ensures ∙ ap (node_by pair.mode pair.source) (sym number)) c.in_ok-number.ensures.keys
    c.in_ok-number.ensures.stored (c.loop-index.invariant component are))

pub returns : goal.returns
returns c component are =
    numbers_all node_eq node_eq_decides (node_of component) c.loop-index.nodes.keys c.args.pairs.now.pairs
    c.loop-index.entries.items c.loop-index.index
    (subst (λ count. count ≤ c.loop-index.index) c.len-index-end.ensures.count c.loop-index-test.false)
    (c.loop-index.invariant component are)
