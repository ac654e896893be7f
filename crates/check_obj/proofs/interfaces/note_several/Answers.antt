use Rattle.std.proofs.Common.{◌∙◌, sym}
use Rattle.std.specs.Map.Iter.{deref_pair}
use Rattle.std.proofs.lemmas.Map.Iter.{rest_all, rest_more}
use Rattle.check_obj.proofs.HasLemmas.{found_among}
use Rattle.check_obj.proofs.SeveralLemmas.{noted_all, noted_first, noted_new, noted_same, noted_several}
use Rattle.check_obj.proofs.interfaces.note_several.Goals as goal

pub loop-name-init : goal.loop-name-init
loop-name-init c =
    noted_first c.requires.row c.requires.known
    (c.into_iter-name-iterator.ensures.into_iter_gives ∙ c.iter-name-items.ensures.rest)

pub are_same-requires-clause-one : goal.are_same-requires-clause-one
are_same-requires-clause-one c =
    found_among _ c.loop-name.known.entries _ c.in-Some-get.first.now c.loop-name.invariant.among_known.among
    (sym c.in-Some-get.ensures.value)

pub loop-name-preserved-in_ok-insert-in-Some-get : goal.loop-name-preserved-in_ok-insert-in-Some-get
loop-name-preserved-in_ok-insert-in-Some-get c =
    noted_several c.loop-name.invariant (rest_more deref_pair _ _ _ _ c.in-Some.is c.next.ensures.steps)
    c.in_ok-insert-in-Some-get.ensures.keys

pub loop-name-preserved-else-not-are_same : goal.loop-name-preserved-else-not-are_same
loop-name-preserved-else-not-are_same c =
    noted_same c.in-Some-get.first.now c.are_same.result c.loop-name.invariant
    (rest_more deref_pair _ _ _ _ c.in-Some.is c.next.ensures.steps) (sym c.in-Some-get.ensures.value)
    c.are_same.ensures c.if-not-are_same.false

pub loop-name-preserved : goal.loop-name-preserved
loop-name-preserved c =
    noted_new c.loop-name.known c.loop-name.invariant
    (rest_more deref_pair _ _ _ _ c.in-Some.is c.next.ensures.steps) (sym c.in-None-get.ensures.value)
    c.in_ok-insert-in-None-get.ensures.entries

pub returns-clause-known : goal.returns-clause-known
returns-clause-known c = c.loop-name.invariant.among_known

pub returns-clause-kept : goal.returns-clause-kept
returns-clause-kept c = c.loop-name.invariant.kept

pub returns-clause-noted : goal.returns-clause-noted
returns-clause-noted c =
    noted_all c.loop-name.invariant (rest_all deref_pair _ _ _ c.in-None.is c.next.ensures.steps)
