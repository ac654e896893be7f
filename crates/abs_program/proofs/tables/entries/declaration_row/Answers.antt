use Rattle.std.proofs.Common.{All}
use Rattle.std.proofs.lemmas.Result.{IfOk-weaker}
use Rattle.abs_program.proofs.BodyRowLemmas.{class_passed}
use Rattle.abs_program.proofs.tables.entries.declaration_row.Goals as goal
use Rattle.abs_program.specs.SlotViews.{MemberHasSlots}

pub returns-in-Class : goal.returns-in-Class
returns-in-Class c names fit =
    let own : All (MemberHasSlots names) c.as_slice.result.now =
    rw c.as_slice.ensures.value (rw c.in-Class.is at fit) in
    rw c.in-Class.is (IfOk-weaker c.member_row.result _ _ (λ found passed. class_passed _ _ _ _ _ passed)
    (rw c.as_slice.ensures.value at (c.member_row.ensures names own)))
