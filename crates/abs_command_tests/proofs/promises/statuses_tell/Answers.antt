use Rattle.std.proofs.Common.{subst}
use Rattle.abs_command.specs.Statuses.{GivesUp}
use Rattle.abs_command_tests.proofs.StatusLemmas.{too_large_by}
use Rattle.abs_command_tests.proofs.promises.statuses_tell.Goals as goal

pub returns-clause-chains : goal.returns-clause-chains
returns-clause-chains c words source source' sink sink' ended promises is = (
  promises.causes.circular is,
  ((promises.causes.chains (λ up. subst GivesUp is up)).0 is).1,
)

pub returns-clause-stalled : goal.returns-clause-stalled
returns-clause-stalled c words source source' sink sink' ended promises is = (
  (promises.causes.stalls (λ up. subst GivesUp is up)).0 is,
  (λ program accepted gets. promises.causes.stalled program accepted gets is),
)

pub returns-clause-failed : goal.returns-clause-failed
returns-clause-failed c words source source' sink sink' ended promises is = promises.causes.failed is

pub returns-clause-too_large : goal.returns-clause-too_large
returns-clause-too_large c words source source' sink sink' ended promises is = too_large_by promises.answer is
