use Rattle.saturation.proofs.AddedLemmas.{added_where, added_nowhere, ok_then}
use Rattle.saturation.proofs.uses.Uses.add_reads_if.Goals as goal

pub returns-then-matters : goal.returns-then-matters
returns-then-matters c =
    ok_then c.add_reads.result (λ added. added_where c.args.matters c.if-matters.true added) c.add_reads.ensures

pub returns-else-matters : goal.returns-else-matters
returns-else-matters c = added_nowhere c.args.matters c.if-matters.false
