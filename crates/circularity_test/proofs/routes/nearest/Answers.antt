use Rattle.std.proofs.Common.{◌≡◌, ◌+◌, Some, sym, subst, take}
use Rattle.circularity_test.specs.Distances.{distance_of}
use Rattle.circularity_test.specs.Routes.{IsFirst}
use Rattle.circularity_test.proofs.NearLemmas.{OneOf, one_all, one_more}
use Rattle.circularity_test.proofs.NextLemmas.{distance_first, nearest_first}
use Rattle.circularity_test.proofs.routes.nearest.Goals as goal

pub loop-node-preserved : goal.loop-node-preserved
loop-node-preserved c =
    let far = distance_of c.args.far.now in
    let nodes = c.args.nodes.now in
    subst (IsFirst (OneOf (λ node distance. far node ≡ Some distance) (take (c.loop-node.node-index + 1) nodes)))
    (sym c.least-found.ensures)
    (one_more (λ node distance. far node ≡ Some distance) nodes c.loop-node.node-index _ c.loop-node-test.true
    c.loop-node.found c.of.result c.loop-node.invariant (distance_first far _ c.of.result c.of.ensures))

pub returns : goal.returns
returns c =
    nearest_first (distance_of c.args.far.now) c.args.nodes.now c.loop-node.found
    (one_all (λ node distance. distance_of c.args.far.now node ≡ Some distance) c.args.nodes.now
    c.loop-node.node-index c.loop-node-test.false c.loop-node.found c.loop-node.invariant)
