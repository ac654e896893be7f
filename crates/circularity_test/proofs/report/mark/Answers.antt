use Rattle.std.proofs.Common.{◌∙◌, ◌+◌, ap, drop, sym}
use Rattle.std.proofs.lemmas.List.{drop_all, drop_more}
use Rattle.circularity_test.proofs.report.mark.Goals as goal
use Rattle.circularity_test.specs.Reporting.{mark_all}

pub loop-index-preserved : goal.loop-index-preserved
loop-index-preserved c =
    ap (λ marked. mark_all marked (drop (c.loop-index.index-index + 1) c.args.indices.now)) c.mark_one.ensures
    ∙ (ap (mark_all c.loop-index.marked.items) (sym (drop_more c.args.indices.now c.loop-index.index-index 0
    c.loop-index-test.true)) ∙ c.loop-index.invariant)

pub returns : goal.returns
returns c =
    ap (mark_all c.loop-index.marked.items) (sym (drop_all c.loop-index.index-index c.args.indices.now
    c.loop-index-test.false)) ∙ c.loop-index.invariant
