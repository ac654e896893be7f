use Rattle.check_obj.proofs.right_sides.right_side.Goals as goal

pub returns-in-New-clause-found : goal.returns-in-New-clause-found
returns-in-New-clause-found c context knows =
    let created = c.creation.ensures.found context knows in
    rw c.in-New.is (rw (c.deref-in-New.ensures.value, c.deref.ensures) at created)

pub returns-in-New-clause-noted : goal.returns-in-New-clause-noted
returns-in-New-clause-noted c context knows =
    let created = c.creation.ensures.noted context knows in
    rw c.in-New.is (rw (c.deref-in-New.ensures.value, c.deref.ensures) at created)
