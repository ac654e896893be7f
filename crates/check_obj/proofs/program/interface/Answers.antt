use Rattle.check_obj.proofs.program.interface.Goals as goal

pub returns-clause-noted : goal.returns-clause-noted
returns-clause-noted c =
    let reported = c.in_ok-agrees.ensures _ _ _ _ (rw c.in-Interface.is at c.requires.there) in
    rw c.in-Interface.is (rw reported at c.note_if.ensures.noted)
