use Rattle.std.proofs.Common.{refl}
use Rattle.check_obj.proofs.CreationLemmas.{class_known}
use Rattle.check_obj.proofs.creations.taken_by.Goals as goal

pub returns-in-Some-clause-found : goal.returns-in-Some-clause-found
returns-in-Some-clause-found c context knows =
    rw (← class_known c.args.class knows (rw c.in-Some.is at c.class.ensures)) (c.taken_at.ensures.found context knows)

pub returns-in-None-clause-found : goal.returns-in-None-clause-found
returns-in-None-clause-found c context knows =
    rw (← class_known c.args.class knows (rw c.in-None.is at c.class.ensures))
    (record { found_are = record { among = tt }; are = refl })
