use Rattle.std.proofs.Common.{refl}
use Rattle.check_fun.proofs.SchemeLemmas.{function_known}
use Rattle.check_fun.proofs.checker.Checker.function_scheme.Goals as goal

pub returns-in_ok-to_string_scheme-in-Some-ToString-clause-found :
    goal.returns-in_ok-to_string_scheme-in-Some-ToString-clause-found
returns-in_ok-to_string_scheme-in-Some-ToString-clause-found c context knows =
    rw (← function_known c.args.name knows (rw c.in-Some-ToString.field-0-is at c.in-Some-ToString.ensures))
    c.in_ok-to_string_scheme-in-Some-ToString.ensures.found

pub returns-in-Some-Defined-clause-found : goal.returns-in-Some-Defined-clause-found
returns-in-Some-Defined-clause-found c context knows =
    rw (← function_known c.args.name knows (rw c.in-Some-Defined.field-0-is at c.in-Some-Defined.ensures))
    (c.declared_scheme.ensures.found context knows)

pub returns-in-None-clause-found : goal.returns-in-None-clause-found
returns-in-None-clause-found c context knows =
    rw (← function_known c.args.name knows c.in-None.ensures) (record { among = tt; is = refl })
