use Rattle.std.proofs.Common.{ℕ, ◌≡◌, ◌||◌}
use Rattle.abs_graph.specs.BitSets.{word_bit}
use Rattle.abs_graph.specs.Graphs.{is_listed}
use Rattle.abs_graph.proofs.bit_set.add_numbers.Given as goal

abbrev pub invariant-loop-bit : goal.invariant-loop-bit
invariant-loop-bit l = (number : ℕ) → is_listed l.found.items number
    ≡ (is_listed l.initial.found.items number || word_bit l.words l.index l.bit number)
