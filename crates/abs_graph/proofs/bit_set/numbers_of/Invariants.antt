use Rattle.std.proofs.Common.{ℕ, ◌≡◌, ◌/◌, ◌&&◌, nat_lt}
use Rattle.abs_graph.specs.BitSets.{word_has}
use Rattle.abs_graph.specs.Graphs.{is_listed}
use Rattle.abs_graph.proofs.bit_set.numbers_of.Given as goal

abbrev pub invariant-loop-index : goal.invariant-loop-index
invariant-loop-index l = (number : ℕ) → is_listed l.found.items number
    ≡ (nat_lt (number / 64) l.index && word_has l.words number)
