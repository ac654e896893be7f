use Rattle.std.proofs.Common.{refl}
use Rattle.check_fun.proofs.SchemeLemmas.{constructor_known, declaration_past, declaration_there}
use Rattle.check_fun.proofs.checker.Checker.constructor_takes.Goals as goal

pub returns-in-Some-get-clause-found : goal.returns-in-Some-get-clause-found
returns-in-Some-get-clause-found c context knows =
    let there = rw c.deref.ensures.value at c.in-Some-get.ensures.lookup in
    rw (
      ← constructor_known c.args.name knows c.in-Some.ensures,
      declaration_there c.in-Some.meaning.taking.declaration c.in-Some-get.declaration.now knows there.3.0 there.1,
    )
    (c.takes_declared.ensures.found context knows)

pub returns-in-None-get-clause-found : goal.returns-in-None-get-clause-found
returns-in-None-get-clause-found c context knows =
    let there = rw c.deref.ensures.value at c.in-None-get.ensures.lookup in
    rw (
      ← constructor_known c.args.name knows c.in-Some.ensures,
      declaration_past c.in-Some.meaning.taking.declaration knows there.3,
    )
    (record { among = tt; is = refl })

pub returns-in-None-clause-found : goal.returns-in-None-clause-found
returns-in-None-clause-found c context knows =
    rw (← constructor_known c.args.name knows c.in-None.ensures) (record { among = tt; is = refl })
