use Rattle.std.proofs.Common.{◌∙◌, sym}
use Rattle.std.specs.Map.Iter.{deref_pair}
use Rattle.std.proofs.lemmas.Map.Iter.{rest_more}
use Rattle.check_obj.proofs.HasLemmas.{found_among, has_differs, has_first, has_next, has_none}
use Rattle.check_obj.proofs.interfaces.has_all.Goals as goal

pub loop-name-init : goal.loop-name-init
loop-name-init c =
    has_first c.requires.asked (c.into_iter-name-iterator.ensures.into_iter_gives ∙ c.iter-name-items.ensures.rest)

pub are_same-requires-clause-one : goal.are_same-requires-clause-one
are_same-requires-clause-one c =
    found_among _ c.args.own.now.types.entries _ c.in-Some-get.found.now c.requires.own.among
    (sym c.in-Some-get.ensures.value)

pub returns-then-not-are_same : goal.returns-then-not-are_same
returns-then-not-are_same c =
    has_differs c.in-Some-get.found.now c.are_same.result c.loop-name.invariant
    (rest_more deref_pair _ _ _ _ c.in-Some.is c.next.ensures.steps) (sym c.in-Some-get.ensures.value)
    c.are_same.ensures c.if-not-are_same.true

pub loop-name-preserved : goal.loop-name-preserved
loop-name-preserved c =
    has_next c.in-Some-get.found.now c.are_same.result c.loop-name.invariant
    (rest_more deref_pair _ _ _ _ c.in-Some.is c.next.ensures.steps) (sym c.in-Some-get.ensures.value)
    c.are_same.ensures c.if-not-are_same.false

pub returns-in-None-get : goal.returns-in-None-get
returns-in-None-get c =
    has_none c.loop-name.invariant (rest_more deref_pair _ _ _ _ c.in-Some.is c.next.ensures.steps)
    (sym c.in-None-get.ensures.value)
