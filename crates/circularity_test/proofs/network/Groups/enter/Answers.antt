-- Each node gets the number that its group has in the set.
use Rattle.std.proofs.Common.{◌+◌, length, refl, sym, subst, take}
use Rattle.std.proofs.lemmas.Option.{slice_get_read}
use Rattle.circularity_test.proofs.NodeLemmas.{group_eq, group_eq_decides, numbers_all, numbers_more}
use Rattle.circularity_test.specs.Network.{AreNumbers, group_of}
use Rattle.circularity_test.proofs.network.Groups.enter.Goals as goal

pub loop-node-preserved : goal.loop-node-preserved
loop-node-preserved c =
    let keys = c.insert_full.new.self.keys in
    subst (λ numbers. AreNumbers group_of (take (c.loop-node.node-index + 1) c.args.nodes.now) keys numbers)
    (sym c.in_ok-push.ensures.items)
    (numbers_more group_eq group_eq_decides group_of c.loop-node.groups.keys keys c.args.nodes.now
    c.loop-node.numbers.items c.loop-node.node-index c.node-item.result c.of.result c.in_ok-number.number
    (slice_get_read c.args.nodes.now (length c.args.nodes.now) c.loop-node.node-index c.node-item.result refl
    c.loop-node-test.true c.node-item.is)
    c.of.ensures c.in_ok-number.ensures.keys c.in_ok-number.ensures.stored c.loop-node.invariant)

pub returns : goal.returns
returns c =
    numbers_all group_eq group_eq_decides group_of c.loop-node.groups.keys c.args.nodes.now c.loop-node.numbers.items
    c.loop-node.node-index c.loop-node-test.false c.loop-node.invariant
