use Rattle.std.proofs.Common.{refl}
use Rattle.check_obj.proofs.assignments.target_type.Goals as goal

pub returns-in-Variable-clause-found : goal.returns-in-Variable-clause-found
returns-in-Variable-clause-found c context knows = rw c.in-Variable.is (c.variable_type.ensures _ knows)

pub returns-in-Variable-clause-there : goal.returns-in-Variable-clause-there
returns-in-Variable-clause-there c = (c.variable_type.ensures _ (record { is = refl })).found_is
