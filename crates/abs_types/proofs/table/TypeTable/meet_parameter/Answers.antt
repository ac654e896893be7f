use Rattle.std.proofs.Common.{Some, None}
use Rattle.std.proofs.lemmas.List.Elements.{All-set}
use Rattle.abs_types.proofs.KeepLemmas.{all_among_kept}
use Rattle.abs_types.proofs.MeetLemmas.{past_met, joined_met}
use Rattle.abs_types.specs.TypeShapes.{type_at, IsAmong}
use Rattle.abs_types.specs.TypeTables.{declarations_of, types_in}
use Rattle.abs_types.proofs.table.TypeTable.meet_parameter.Goals as goal

pub returns-in_default-clause-met : goal.returns-in_default-clause-met
returns-in_default-clause-met c =
    past_met (declarations_of c.args.self.now) (types_in c.args.self.now) c.args.index
    (type_at (types_in c.args.self.now) c.args.given) c.args.met.now.items
    (rw c.deref.ensures.value at c.in_default.ensures.lookup.3)

pub returns-in_err-joined-clause-among : goal.returns-in_err-joined-clause-among
returns-in_err-joined-clause-among c = all_among_kept c.args.met.now.items c.join.ensures.keeps c.requires.met

pub returns-in-Some-2-clause-met : goal.returns-in-Some-2-clause-met
returns-in-Some-2-clause-met c =
    let lookup = rw c.deref.ensures.value at c.in-Some.ensures.lookup in
    joined_met (Some c.in-Some-2.joined) (declarations_of c.args.self.now) c.args.index
    (type_at (types_in c.args.self.now) c.args.given)
    c.in-Some.before.now c.args.met.now.items c.join.ensures.keeps c.requires.met lookup.3.0 lookup.1
    (rw c.in-Some-2.is at c.in_ok-joined.ensures.found)

pub returns-in-Some-2-clause-among : goal.returns-in-Some-2-clause-among
returns-in-Some-2-clause-among c =
    All-set (IsAmong (types_in c.join.new.self)) c.args.met.now.items c.args.index c.in-Some-2.joined
    (rw c.in-Some-2.is at c.in_ok-joined.ensures.among)
    (all_among_kept c.args.met.now.items c.join.ensures.keeps c.requires.met)

pub returns-in-None-clause-met : goal.returns-in-None-clause-met
returns-in-None-clause-met c =
    let lookup = rw c.deref.ensures.value at c.in-Some.ensures.lookup in
    joined_met None (declarations_of c.args.self.now) c.args.index (type_at (types_in c.args.self.now) c.args.given)
    c.in-Some.before.now c.args.met.now.items c.join.ensures.keeps c.requires.met lookup.3.0 lookup.1
    (rw c.in-None.is at c.in_ok-joined.ensures.found)

pub returns-in-None-clause-among : goal.returns-in-None-clause-among
returns-in-None-clause-among c = all_among_kept c.args.met.now.items c.join.ensures.keeps c.requires.met
