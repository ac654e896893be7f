use Rattle.std.proofs.Common.{refl}
use Rattle.check_fun.proofs.SchemeLemmas.{declaration_past, declaration_there}
use Rattle.check_obj.proofs.creations.taken_at.Goals as goal

pub returns-in-Some-clause-found : goal.returns-in-Some-clause-found
returns-in-Some-clause-found c context knows =
    let there = rw c.deref.ensures.value at c.in-Some.ensures.lookup in
    rw (declaration_there c.args.class c.in-Some.declaration.now knows there.3.0 there.1)
    (c.taken_in.ensures.found context knows)

pub returns-in-None-clause-found : goal.returns-in-None-clause-found
returns-in-None-clause-found c context knows =
    let there = rw c.deref.ensures.value at c.in-None.ensures.lookup in
    rw (declaration_past c.args.class knows there.3) (record { found_are = record { among = tt }; are = refl })
