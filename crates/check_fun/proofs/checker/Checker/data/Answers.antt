use Rattle.std.proofs.Common.{rules}
use Rattle.check_fun.specs.Contexts.{context_in}
use Rattle.check_fun.proofs.checker.Checker.data.Goals as goal

pub returns-clause-found : goal.returns-clause-found
unfolding context_in
returns-clause-found c = search rules
