use Rattle.std.proofs.Common.{sym}
use Rattle.check_obj.proofs.AgreeLemmas.{met_known, met_unknown, same_known, same_unknown, types_unknown}
use Rattle.check_obj.proofs.HasLemmas.{found_among}
use Rattle.check_obj.proofs.interfaces.agrees_with.Goals as goal

pub are_same-requires-clause-one : goal.are_same-requires-clause-one
are_same-requires-clause-one c =
    found_among _ c.args.met.now.entries _ c.in-Some.known.now c.requires.met.among (sym c.in-Some.ensures.value)

pub returns-in-Some-clause-same : goal.returns-in-Some-clause-same
returns-in-Some-clause-same c =
    same_known c.args.table.now c.args.met.now.entries c.args.name c.args.type_of c.in-Some.known.now
    c.are_same.result (sym c.in-Some.ensures.value) c.are_same.ensures

pub returns-in-Some-clause-met : goal.returns-in-Some-clause-met
returns-in-Some-clause-met c =
    met_known c.args.table.now c.args.met.now.entries c.args.name c.args.type_of c.in-Some.known.now
    (sym c.in-Some.ensures.value)

pub returns-in_ok-insert-in-None-clause-types : goal.returns-in_ok-insert-in-None-clause-types
returns-in_ok-insert-in-None-clause-types c =
    types_unknown c.args.table.now c.args.met.now c.args.name c.args.type_of c.requires.met c.requires.one
    (sym c.in-None.ensures.value) c.in_ok-insert-in-None.ensures.entries

pub returns-in_ok-insert-in-None-clause-same : goal.returns-in_ok-insert-in-None-clause-same
returns-in_ok-insert-in-None-clause-same c =
    same_unknown c.args.table.now c.args.met.now.entries c.args.name c.args.type_of (sym c.in-None.ensures.value)

pub returns-in_ok-insert-in-None-clause-met : goal.returns-in_ok-insert-in-None-clause-met
returns-in_ok-insert-in-None-clause-met c =
    met_unknown c.args.table.now c.args.met.now c.args.name c.args.type_of (sym c.in-None.ensures.value)
    c.in_ok-insert-in-None.ensures.entries
