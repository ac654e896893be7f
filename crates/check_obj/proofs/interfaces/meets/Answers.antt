use Rattle.std.proofs.Common.{◌∙◌, sym}
use Rattle.abs_types.specs.TypeTables.{declarations_of}
use Rattle.check_obj.proofs.InheritedLemmas.{row_at, row_past}
use Rattle.check_obj.proofs.MeetLemmas.{met_all, met_next, met_none, met_not, met_past, row_types, rows_tell, same_list}
use Rattle.check_obj.proofs.interfaces.meets.Goals as goal

pub loop-above-init : goal.loop-above-init
loop-above-init c = met_none

pub loop-above-preserved-in_default-get : goal.loop-above-preserved-in_default-get
loop-above-preserved-in_default-get c =
    met_next c.deref-above-items.result.now c.loop-above.above-index c.loop-above.invariant c.loop-above-test.true
    (met_past (declarations_of c.args.table.now) c.args.class _
    (row_past c.args.rows.now _ c.requires c.in_default-get.ensures.lookup.3))

pub has_all-requires-clause-own : goal.has_all-requires-clause-own
has_all-requires-clause-own c =
    let found = c.in-Some.ensures.lookup in
    row_types (row_at c.args.rows.now c.args.class c.in-Some.own.now c.requires found.3.0 found.1)

pub has_all-requires-clause-asked : goal.has_all-requires-clause-asked
has_all-requires-clause-asked c =
    let asked = c.in-Some-get.ensures.lookup in
    row_types (row_at c.args.rows.now _ c.in-Some-get.asked.now c.requires asked.3.0 asked.1)

pub returns-then-not-has_all : goal.returns-then-not-has_all
returns-then-not-has_all c =
    let found = c.in-Some.ensures.lookup in
    let asked = c.in-Some-get.ensures.lookup in
    met_not (declarations_of c.args.table.now) c.args.class c.deref-above-items.result.now c.loop-above.above-index
    c.loop-above-test.true
    (sym (rows_tell c.args.class _ (row_at c.args.rows.now c.args.class c.in-Some.own.now c.requires found.3.0 found.1)
    (row_at c.args.rows.now _ c.in-Some-get.asked.now c.requires asked.3.0 asked.1))
    ∙ (sym c.has_all.ensures ∙ c.if-not-has_all.true))
    (same_list (declarations_of c.args.table.now) c.args.class c.deref-above-items.result.now _
    c.deref-above-items.ensures.value c.in_ok-above.ensures)

pub loop-above-preserved : goal.loop-above-preserved
loop-above-preserved c =
    let found = c.in-Some.ensures.lookup in
    let asked = c.in-Some-get.ensures.lookup in
    met_next c.deref-above-items.result.now c.loop-above.above-index c.loop-above.invariant c.loop-above-test.true
    (sym (rows_tell c.args.class _ (row_at c.args.rows.now c.args.class c.in-Some.own.now c.requires found.3.0 found.1)
    (row_at c.args.rows.now _ c.in-Some-get.asked.now c.requires asked.3.0 asked.1))
    ∙ (sym c.has_all.ensures ∙ c.if-not-has_all.false))

pub returns : goal.returns
returns c =
    met_all (declarations_of c.args.table.now) c.args.class c.deref-above-items.result.now c.loop-above.above-index
    c.loop-above.invariant c.loop-above-test.false
    (same_list (declarations_of c.args.table.now) c.args.class c.deref-above-items.result.now _
    c.deref-above-items.ensures.value c.in_ok-above.ensures)
