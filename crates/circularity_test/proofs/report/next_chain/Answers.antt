use Rattle.std.proofs.Common.{◌≡◌, ◌∙◌, inl, inr, ap, sym}
use Rattle.std.proofs.lemmas.Option.{same_Some}
use Rattle.circularity_test.proofs.MarkingLemmas.{awaits_are_free, comes_by_way}
use Rattle.circularity_test.proofs.report.next_chain.Goals as goal
use Rattle.contract_terms.specs.declared.pair.Pair.{Pair}

pub returns-then-is_marked : goal.returns-then-is_marked
returns-then-is_marked c program pair network rises there =
    inl (sym c.is_marked.ensures ∙ c.if-is_marked.true)

pub returns-in-Get : goal.returns-in-Get
returns-in-Get c program pair network rises there =
    let same : c.at.result.now ≡ pair = same_Some c.at.result.now pair (sym c.at.ensures ∙ there) in
    comes_by_way program c.args.pairs.now pair _ c.way_back.result
    (sym c.is_marked.ensures ∙ c.if-is_marked.false)
    (c.way_back.ensures program c.args.pairs.now pair network rises there
    (ap (λ (it : Pair). it.mode) (sym same) ∙ c.in-Get.is))

pub returns-in-Await : goal.returns-in-Await
returns-in-Await c program pair network rises there =
    let same : c.at.result.now ≡ pair = same_Some c.at.result.now pair (sym c.at.ensures ∙ there) in
    inr (awaits_are_free program c.args.pairs.now pair (ap (λ (it : Pair). it.mode) (sym same) ∙ c.in-Await.is))
