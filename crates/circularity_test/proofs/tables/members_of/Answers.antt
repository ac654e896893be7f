use Rattle.std.proofs.lemmas.List.{get_or_default}
use Rattle.circularity_test.proofs.TableLemmas.{members_all, members_more}
use Rattle.circularity_test.proofs.tables.members_of.Goals as goal

pub loop-index-preserved : goal.loop-index-preserved
loop-index-preserved c =
    members_more c.args.entries.now c.loop-index.index _ _ _ _ c.loop-index-test.true
    (get_or_default _ _ _ _ c.loop-index-test.true) c.loop-index.invariant c.in_ok-add.ensures

pub returns : goal.returns
returns c =
    members_all c.args.entries.now c.args.nodes c.loop-index.index _ _ c.in_ok-members.ensures c.loop-index-test.false
    c.loop-index.invariant
