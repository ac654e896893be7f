use Rattle.std.proofs.Common.{refl}
use Rattle.abs_tree.specs.declared.refusal.Code.TheVariants.{T1}
use Rattle.check_fun.proofs.ContextLemmas.{finds_stays, knows_stays, noted_after, stays_transitive}
use Rattle.check_obj.proofs.SideLemmas.{noted_missing}
use Rattle.check_obj.proofs.right_sides.value_got.Goals as goal

pub returns-clause-found : goal.returns-clause-found
returns-clause-found c context knows =
    finds_stays c.note_if.ensures.stays
    (c.value_in-found.ensures _ (knows_stays c.in_ok-expression.ensures.stays knows))

pub returns-clause-noted : goal.returns-clause-noted
returns-clause-noted c context knows =
    noted_after _ _ (c.in_ok-expression.ensures.noted _ knows)
    (noted_missing c.value_in-found.result c.is_none.result T1 c.args.place c.is_none.ensures
    (c.value_in-found.ensures _ (knows_stays c.in_ok-expression.ensures.stays knows)) c.note_if.ensures.noted)

pub returns-clause-stays : goal.returns-clause-stays
returns-clause-stays c = stays_transitive c.in_ok-expression.ensures.stays c.note_if.ensures.stays

pub returns-clause-there : goal.returns-clause-there
returns-clause-there c =
    (finds_stays c.note_if.ensures.stays (c.value_in-found.ensures _ (record { is = refl }))).found_is
