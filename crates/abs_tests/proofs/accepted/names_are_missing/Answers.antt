use Rattle.std.proofs.Common.{arith}
use Rattle.std.specs.Prelude.{codes}
use Rattle.abs_tests.proofs.accepted.names_are_missing.Goals as goal

-- the first name is to be in the empty table
pub returns-clause-not_known : goal.returns-clause-not_known
returns-clause-not_known c = λ knows.
    let there = knows.known 0 (codes "Red") (omega arith) in
    omega (arith, there.1)
