-- A fact is noted by its keys.
use Rattle.std.proofs.Common.{sym, ◌∙◌}
use Rattle.saturation.proofs.LinkLemmas.{own_link, own_noted, future_link, future_noted}
use Rattle.saturation.proofs.facts.link.Goals as goal

pub returns-in-Some-clause-links : goal.returns-in-Some-clause-links
returns-in-Some-clause-links c facts newest =
    future_link facts c.args.fact.now c.of.result c.in-Some.key c.args.index c.args.newest.now
    c.note-same_key.new.newest c.note-same_key.result c.note-same_future.result c.of.ensures
    (sym c.of_future.ensures ∙ c.in-Some.is) newest c.note-same_key.ensures.before c.note-same_key.ensures.now
    c.note-same_future.ensures.before

pub returns-in-Some-clause-newest : goal.returns-in-Some-clause-newest
returns-in-Some-clause-newest c facts index_is newest =
    future_noted facts c.args.fact.now c.of.result c.in-Some.key c.args.index c.args.newest.now
    c.note-same_key.new.newest c.note-same_future.new.newest c.of.ensures (sym c.of_future.ensures ∙ c.in-Some.is)
    index_is newest c.note-same_key.ensures.now c.note-same_future.ensures.now

pub returns-in-None-clause-links : goal.returns-in-None-clause-links
returns-in-None-clause-links c facts newest =
    own_link facts c.args.fact.now c.of.result c.args.newest.now c.note-same_key.result c.of.ensures
    (sym c.of_future.ensures ∙ c.in-None.is) newest c.note-same_key.ensures.before

pub returns-in-None-clause-newest : goal.returns-in-None-clause-newest
returns-in-None-clause-newest c facts index_is newest =
    own_noted facts c.args.fact.now c.of.result c.args.index c.args.newest.now c.note-same_key.new.newest c.of.ensures
    (sym c.of_future.ensures ∙ c.in-None.is) index_is newest c.note-same_key.ensures.now
