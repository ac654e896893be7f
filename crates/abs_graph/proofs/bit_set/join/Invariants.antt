use Rattle.std.proofs.Common.{◌≡◌, ℕ, ◌<◌, ◌≤◌, bit_or, get_or}
use Rattle.abs_graph.proofs.bit_set.join.Given as goal

abbrev pub invariant-loop-index : goal.invariant-loop-index
invariant-loop-index l =
    ((k : ℕ) → k < l.index → get_or l.words k 0 ≡ bit_or (get_or l.initial.words k 0) (get_or l.others k 0))
    × ((k : ℕ) → l.index ≤ k → get_or l.words k 0 ≡ get_or l.initial.words k 0)
