use Rattle.std.proofs.Common.{◌≤◌, ◌-◌, vec_len}
use Rattle.future_cells.proofs.growth.fill_links.Given as goal

abbrev pub invariant-loop-alloc : goal.invariant-loop-alloc
invariant-loop-alloc l = vec_len l.initial.links ≤ vec_len l.links

abbrev pub decreases-loop-alloc : goal.decreases-loop-alloc
decreases-loop-alloc l = l.count - vec_len l.links
