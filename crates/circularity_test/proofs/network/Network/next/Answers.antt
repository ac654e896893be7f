use Rattle.std.proofs.Common.{◌∙◌, ◌+◌, take, sym, subst, ap}
use Rattle.abs_graph.specs.Graphs.{successors}
use Rattle.abs_graph.specs.Views.{graph_of}
use Rattle.circularity_test.specs.Distances.{distance_of}
use Rattle.circularity_test.specs.Routes.{IsFirst, StepsAt}
use Rattle.circularity_test.proofs.NearLemmas.{OneOf, one_all, one_more}
use Rattle.circularity_test.proofs.NextLemmas.{step_first}
use Rattle.circularity_test.proofs.network.Network.next.Goals as goal

pub loop-number-preserved : goal.loop-number-preserved
loop-number-preserved c =
    let far = distance_of c.args.far.now in
    let items = c.row-number-items.result.now in
    subst (IsFirst (OneOf (StepsAt c.args.self.now far c.args.left) (take (c.loop-number.number-index + 1) items)))
    (sym c.least-found.ensures)
    (one_more (StepsAt c.args.self.now far c.args.left) items c.loop-number.number-index _ c.loop-number-test.true
    c.loop-number.found c.next_at.result c.loop-number.invariant c.next_at.ensures)

pub returns : goal.returns
returns c =
    let far = distance_of c.args.far.now in
    let items = c.row-number-items.result.now in
    step_first c.args.self.now far c.args.left _ c.loop-number.found
    (subst (λ list. IsFirst (OneOf (StepsAt c.args.self.now far c.args.left) list) c.loop-number.found)
    (c.row-number-items.ensures ∙ ap (λ rows. successors (graph_of rows) c.args.last) c.as_slice.ensures.value)
    (one_all (StepsAt c.args.self.now far c.args.left) items c.loop-number.number-index c.loop-number-test.false
    c.loop-number.found c.loop-number.invariant))
