use Rattle.std.proofs.Common.{◌≤◌, sym, subst}
use Rattle.std.proofs.lemmas.Option.{get_or_from_slice_get, slice_get_within}
use Rattle.circularity_test.proofs.AddingLemmas.{each_all, each_more, each_none}
use Rattle.circularity_test.proofs.finding.Finder.pairs.Goals as goal

pub loop-index-init : goal.loop-index-init
loop-index-init c = each_none c.args.self.now.facts.now c.new-found.ensures.items

pub loop-index-preserved : goal.loop-index-preserved
loop-index-preserved c =
    each_more c.args.self.now.facts.now c.loop-index.index c.at.result.now
    (slice_get_within c.args.self.now.facts.now c.loop-index.index c.at.result.now c.at.ensures)
    (sym (get_or_from_slice_get c.args.self.now.facts.now c.loop-index.index c.at.result.now c.at.result.now
    c.at.ensures))
    c.loop-index.invariant c.in_ok-add_fact.ensures

pub returns : goal.returns
returns c =
    each_all c.args.self.now.facts.now c.loop-index.index
    (subst (λ count. count ≤ c.loop-index.index) c.len-index-end.ensures.count c.loop-index-test.false)
    c.loop-index.invariant
