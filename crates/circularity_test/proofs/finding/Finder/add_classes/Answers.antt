use Rattle.std.proofs.Common.{refl}
use Rattle.std.proofs.lemmas.List.{get_or_default}
use Rattle.circularity_test.proofs.AddingLemmas.{each_all, each_more, each_none}
use Rattle.circularity_test.proofs.finding.Finder.add_classes.Goals as goal

pub loop-class-init : goal.loop-class-init
loop-class-init c = each_none c.args.classes.now refl

pub loop-class-preserved : goal.loop-class-preserved
loop-class-preserved c =
    each_more c.args.classes.now c.loop-class.class-index _ c.loop-class-test.true
    (get_or_default _ _ _ _ c.loop-class-test.true) c.loop-class.invariant c.in_ok-add_class.ensures

pub returns : goal.returns
returns c = each_all c.args.classes.now c.loop-class.class-index c.loop-class-test.false c.loop-class.invariant
