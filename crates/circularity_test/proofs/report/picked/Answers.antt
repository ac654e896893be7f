use Rattle.std.proofs.Common.{◌++◌, ◌∷◌, [], List, arith, ap, subst, sym, ◌∙◌}
use Rattle.circularity_test.proofs.PickingLemmas.{PickedSoFar, picking_begins, picking_found, picking_within, picking_ends}
use Rattle.circularity_test.proofs.report.picked.Goals as goal
use Rattle.circularity_test.proofs.report.picked.Goals.{then-index-len+in_ok-push, else-index-len}
use Rattle.contract_terms.specs.declared.pair.Pair.{Pair}

pub loop-index-init : goal.loop-index-init
loop-index-init c chain picks =
    subst (λ (found : List Pair). PickedSoFar c.args.pairs.now c.args.indices.now 0 found chain)
    (sym c.in_ok-found.ensures.items) (picking_begins c.args.pairs.now c.args.indices.now chain picks)

pub loop-index-preserved : goal.loop-index-preserved
loop-index-preserved c chain picks = elim c.if-index-len.branch [
  | then-index-len+in_ok-push w ↦ picking_found c.args.pairs.now c.args.indices.now c.loop-index.index-index
      c.loop-index.found.items c.if-index-len.found.items chain w.at.result.now c.loop-index-test.true w.at.ensures
      (ap (λ it. it.items) w.found-is ∙ (w.in_ok-push.ensures.items
      ∙ ap (λ (it : Pair). c.loop-index.found.items ++ it ∷ []) w.copied.ensures))
      (c.loop-index.invariant chain picks)
  | else-index-len w ↦ absurd (omega (
    arith,
    w.if-index-len.false,
    c.len.ensures.count,
    picking_within c.args.pairs.now c.args.indices.now c.loop-index.index-index c.loop-index.found.items chain
        c.loop-index-test.true (c.loop-index.invariant chain picks),
  ))
]

pub returns : goal.returns
returns c chain picks = picking_ends c.args.pairs.now c.args.indices.now c.loop-index.index-index
    c.loop-index.found.items chain c.loop-index-test.false (c.loop-index.invariant chain picks)
