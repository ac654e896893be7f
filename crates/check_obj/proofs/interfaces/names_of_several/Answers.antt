use Rattle.check_obj.proofs.InheritedLemmas.{row_at}
use Rattle.check_obj.proofs.MeetLemmas.{row_types}
use Rattle.check_obj.proofs.SeveralReportedLemmas.{reported_all, reported_first, reported_interface, reported_other}
use Rattle.check_obj.proofs.interfaces.names_of_several.Goals as goal
use Rattle.check_obj.proofs.interfaces.names_of_several.Goals.{then-is_interface+in_ok-note_several, else-is_interface}

pub loop-index-init : goal.loop-index-init
loop-index-init c = reported_first c.new-known.ensures.empty

pub note_several-requires-clause-row : goal.note_several-requires-clause-row
note_several-requires-clause-row c =
    row_types (row_at c.args.rows.now c.loop-index.index c.index-rows-index.result c.requires c.loop-index-test.true
    c.index-rows-index.is)

pub note_several-requires-clause-known : goal.note_several-requires-clause-known
note_several-requires-clause-known c = c.loop-index.invariant.among

pub loop-index-preserved : goal.loop-index-preserved
loop-index-preserved c = elim c.if-is_interface.branch [
  | then-is_interface+in_ok-note_several w ↦ rw (w.known-is, w.several-is)
      (reported_interface c.loop-index.index c.loop-index.invariant
      (row_at c.args.rows.now c.loop-index.index c.index-rows-index.result c.requires c.loop-index-test.true
      c.index-rows-index.is)
      w.in_ok-note_several.ensures.known w.in_ok-note_several.ensures.kept w.in_ok-note_several.ensures.noted)
  | else-is_interface w ↦ rw (w.known-is, w.several-is)
      (let found = c.in-Some.ensures.lookup in
      reported_other c.deref.result.now c.loop-index.index c.in-Some.declaration.now c.is_interface.result
      c.loop-index.invariant c.deref.ensures.value found.3.0 found.1 c.is_interface.ensures w.if-is_interface.false)
]

pub returns : goal.returns
returns c = reported_all c.args.rows.now c.loop-index.invariant c.requires c.loop-index-test.false
