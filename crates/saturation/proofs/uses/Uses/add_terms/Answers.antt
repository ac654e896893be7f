use Rattle.contract_terms.specs.Views.{term_tree}
use Rattle.saturation.proofs.AddedLemmas.{added_start, added_view, added_all_views}
use Rattle.saturation.proofs.uses.Uses.add_terms.Goals as goal

pub loop-index-init : goal.loop-index-init
loop-index-init c = added_start

pub loop-index-preserved : goal.loop-index-preserved
loop-index-preserved c =
    added_view (term_tree c.args.program.now.symbols) c.args.terms.now c.index-terms-index.result c.loop-index.invariant
    c.loop-index-test.true c.index-terms-index.is c.in_ok-add_term.ensures

pub returns : goal.returns
returns c =
    added_all_views (term_tree c.args.program.now.symbols) c.args.terms.now c.loop-index.invariant
    c.loop-index-test.false
