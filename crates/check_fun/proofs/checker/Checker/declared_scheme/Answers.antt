use Rattle.std.proofs.Common.{refl}
use Rattle.check_fun.proofs.SchemeLemmas.{declaration_past, declaration_there}
use Rattle.check_fun.proofs.checker.Checker.declared_scheme.Goals as goal

pub returns-in-Some-clause-found : goal.returns-in-Some-clause-found
returns-in-Some-clause-found c context knows =
    let there = rw c.deref.ensures.value at c.in-Some.ensures.lookup in
    rw (declaration_there c.args.declaration c.in-Some.declaration.now knows there.3.0 there.1)
    (c.scheme_declared.ensures.found context knows)

pub returns-in-None-clause-found : goal.returns-in-None-clause-found
returns-in-None-clause-found c context knows =
    let there = rw c.deref.ensures.value at c.in-None.ensures.lookup in
    rw (declaration_past c.args.declaration knows there.3) (record { among = tt; is = refl })
