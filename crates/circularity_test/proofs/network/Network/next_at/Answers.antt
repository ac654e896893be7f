use Rattle.std.proofs.Common.{◌∙◌, sym, subst, ap, get_or}
use Rattle.std.proofs.lemmas.Bool.{false≢true}
use Rattle.abs_graph.specs.Graphs.{successors}
use Rattle.abs_graph.specs.Views.{graph_of}
use Rattle.circularity_test.specs.Distances.{distance_of}
use Rattle.circularity_test.specs.Routes.{IsFirst, IsNear}
use Rattle.circularity_test.proofs.NearLemmas.{OneOf, one_all}
use Rattle.circularity_test.proofs.NextLemmas.{IsNext, far_more, late_more, near_more, next_first}
use Rattle.circularity_test.proofs.network.Network.next_at.Goals.{then-comes_before+then-is_near, else-comes_before, else-comes_before-via-then-comes_before+else-is_near, else-comes_before-via-else-comes_before}
use Rattle.circularity_test.proofs.network.Network.next_at.Goals as goal

pub loop-index-preserved : goal.loop-index-preserved
loop-index-preserved c =
    let far = distance_of c.args.far.now in
    let items = c.row-index-items.result.now in
    let item = get_or items c.loop-index.index-index 0 in
    let found = c.loop-index.found in
    let now = c.if-comes_before.found in
    elim c.if-comes_before.branch [
      | then-comes_before+then-is_near w ↦
          near_more c.args.self.now far c.args.left items c.loop-index.index-index c.loop-index-test.true found now
          c.loop-index.invariant w.found-is (sym c.comes_before.ensures ∙ w.if-comes_before.true)
          (subst (λ nodes. IsNear far nodes c.args.left)
          (w.row.ensures ∙ ap (λ rows. successors (graph_of rows) item) w.as_slice-then-comes_before.ensures.value)
          (w.is_near.ensures.0 w.if-is_near.true))
      | else-comes_before w ↦ elim w.else-comes_before.branch [
        | else-comes_before-via-then-comes_before+else-is_near v ↦
            far_more c.args.self.now far c.args.left items c.loop-index.index-index c.loop-index-test.true found now
            c.loop-index.invariant w.found-is
            (λ near. false≢true (sym v.if-is_near.false ∙ v.is_near.ensures.1
            (subst (λ nodes. IsNear far nodes c.args.left)
            (sym (v.row.ensures
            ∙ ap (λ rows. successors (graph_of rows) item) v.as_slice-then-comes_before.ensures.value)) near)))
        | else-comes_before-via-else-comes_before v ↦
            late_more c.args.self.now far c.args.left items c.loop-index.index-index c.loop-index-test.true found now
            c.loop-index.invariant w.found-is (sym c.comes_before.ensures ∙ v.if-comes_before.false)
      ]
    ]

pub returns : goal.returns
returns c =
    let far = distance_of c.args.far.now in
    let items = c.row-index-items.result.now in
    next_first c.args.self.now far c.args.left c.args.number c.loop-index.found
    (subst (λ list. IsFirst (OneOf (IsNext c.args.self.now far c.args.left) list) c.loop-index.found)
    (c.row-index-items.ensures ∙ ap (λ rows. successors (graph_of rows) c.args.number) c.as_slice.ensures.value)
    (one_all (IsNext c.args.self.now far c.args.left) items c.loop-index.index-index c.loop-index-test.false
    c.loop-index.found c.loop-index.invariant))
