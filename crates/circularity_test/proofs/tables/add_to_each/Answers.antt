use Rattle.std.proofs.lemmas.List.{get_or_default}
use Rattle.circularity_test.proofs.TableLemmas.{gains_all, gains_more}
use Rattle.circularity_test.proofs.tables.add_to_each.Goals as goal

pub loop-number-preserved : goal.loop-number-preserved
loop-number-preserved c =
    gains_more c.args.numbers.now c.loop-number.number-index _ c.args.value _ _ _ c.loop-number-test.true
    (get_or_default _ _ _ _ c.loop-number-test.true) c.loop-number.invariant c.in_ok-add.ensures

pub returns : goal.returns
returns c =
    gains_all c.args.numbers.now c.loop-number.number-index c.args.value _ _ c.loop-number-test.false
    c.loop-number.invariant
