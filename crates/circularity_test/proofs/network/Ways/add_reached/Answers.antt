use Rattle.std.proofs.Common.{arith, refl}
use Rattle.std.proofs.lemmas.List.{get_or_default}
use Rattle.circularity_test.proofs.AddingLemmas.{each_all, each_more, each_none}
use Rattle.circularity_test.proofs.network.Ways.add_reached.Goals as goal

pub loop-number-init : goal.loop-number-init
loop-number-init c = record { added = each_none c.args.among.now refl; room = omega (arith, c.requires) }

pub loop-number-preserved : goal.loop-number-preserved
loop-number-preserved c = record {
  added = each_more c.args.among.now c.loop-number.number-index _ c.loop-number-test.true
      (get_or_default _ _ _ _ c.loop-number-test.true) c.loop-number.invariant.added c.add_node.ensures.added;
  room = omega (arith, c.loop-number.invariant.room, c.add_node.ensures.room);
}

pub returns : goal.returns
returns c =
    each_all c.args.among.now c.loop-number.number-index c.loop-number-test.false c.loop-number.invariant.added
