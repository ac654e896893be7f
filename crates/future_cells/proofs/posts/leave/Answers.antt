use Rattle.std.proofs.Common.{rules}
use Rattle.future_cells.proofs.SetLemmas.{has_at-there}
use Rattle.future_cells.proofs.posts.leave.Goals as goal

pub remove_at-requires-clause-there : goal.remove_at-requires-clause-there
remove_at-requires-clause-there c = has_at-there c.args.goers.now c.args.post.cog c.args.task (search rules)

pub remove_at-requires-in-Waits-clause-there : goal.remove_at-requires-in-Waits-clause-there
remove_at-requires-in-Waits-clause-there c =
    has_at-there c.args.waiters.now c.in-Waits.future c.args.task (search rules)
