use Rattle.std.proofs.Common.{refl}
use Rattle.circularity_test.proofs.AddingLemmas.{each_all, each_mapped, each_more, each_none}
use Rattle.circularity_test.specs.Finding.{term_in}
use Rattle.circularity_test.proofs.finding.Finder.add_terms.Goals as goal

pub loop-term-init : goal.loop-term-init
loop-term-init c = each_none c.args.terms.now refl

pub loop-term-preserved : goal.loop-term-preserved
loop-term-preserved c =
    each_more c.args.terms.now c.loop-term.term-index c.term-item.result c.loop-term-test.true c.term-item.is
    c.loop-term.invariant c.in_ok-add_term.ensures

pub returns : goal.returns
returns c =
    each_mapped (term_in c.args.self.now) c.args.terms.now
    (each_all c.args.terms.now c.loop-term.term-index c.loop-term-test.false c.loop-term.invariant)
