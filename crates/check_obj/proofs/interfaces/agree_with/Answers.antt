use Rattle.std.proofs.Common.{◌∙◌}
use Rattle.std.specs.Map.Iter.{deref_pair}
use Rattle.std.proofs.lemmas.Map.Iter.{rest_all, rest_more}
use Rattle.check_obj.proofs.AgreeLemmas.{agree_among, agree_ends, agree_fails, agree_first, agree_next, agree_skip, met_ends}
use Rattle.check_obj.proofs.InheritedLemmas.{row_at}
use Rattle.check_obj.proofs.MeetLemmas.{row_types}
use Rattle.check_obj.proofs.interfaces.agree_with.Goals as goal

pub loop-name-init : goal.loop-name-init
loop-name-init c =
    let found = c.in-Some.ensures.lookup in
    let is = row_at c.args.rows.now c.args.interface c.in-Some.row.now c.requires.rows found.3.0 found.1 in
    agree_first (row_types is) c.requires.met is.are
    (c.into_iter-name-iterator.ensures.into_iter_gives ∙ c.iter-name-items.ensures.rest)

pub loop-name-preserved-then-not-contains : goal.loop-name-preserved-then-not-contains
loop-name-preserved-then-not-contains c =
    agree_skip c.contains.result c.loop-name.invariant
    (rest_more deref_pair _ _ _ _ c.in-Some-2.is c.next.ensures.steps) c.contains.ensures c.if-not-contains.true

pub agrees_with-requires-clause-met : goal.agrees_with-requires-clause-met
agrees_with-requires-clause-met c = c.loop-name.invariant.among_met

pub agrees_with-requires-clause-one : goal.agrees_with-requires-clause-one
agrees_with-requires-clause-one c =
    agree_among c.loop-name.invariant (rest_more deref_pair _ _ _ _ c.in-Some-2.is c.next.ensures.steps)

pub returns-then-not-branch-clause-agree : goal.returns-then-not-branch-clause-agree
returns-then-not-branch-clause-agree c =
    agree_fails c.contains.result c.in_ok-agrees_with.field-0 c.loop-name.invariant
    (rest_more deref_pair _ _ _ _ c.in-Some-2.is c.next.ensures.steps) c.contains.ensures c.if-not-contains.false
    c.in_ok-agrees_with.ensures.same c.if-not-branch.true

pub loop-name-preserved : goal.loop-name-preserved
loop-name-preserved c =
    agree_next c.contains.result c.in_ok-agrees_with.field-0 c.loop-name.invariant
    (rest_more deref_pair _ _ _ _ c.in-Some-2.is c.next.ensures.steps) c.contains.ensures c.if-not-contains.false
    c.in_ok-agrees_with.ensures.same c.if-not-branch.false c.in_ok-agrees_with.ensures.types
    c.in_ok-agrees_with.ensures.met

pub returns-clause-types : goal.returns-clause-types
returns-clause-types c = c.loop-name.invariant.among_met

pub returns-clause-agree : goal.returns-clause-agree
returns-clause-agree c =
    agree_ends c.loop-name.invariant (rest_all deref_pair _ _ _ c.in-None.is c.next.ensures.steps)

pub returns-clause-met : goal.returns-clause-met
returns-clause-met c reported =
    met_ends c.loop-name.invariant (rest_all deref_pair _ _ _ c.in-None.is c.next.ensures.steps)
