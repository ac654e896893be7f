use Rattle.std.proofs.Common.{◌+◌, ◌≤◌, length, take}
use Rattle.std.specs.Prelude.{vec_capacity}
use Rattle.circularity_test.specs.Adding.{Adds, OfEach}
use Rattle.circularity_test.specs.Network.{IsNodeReached, nodes_in, program_of}
use Rattle.circularity_test.proofs.network.Ways.add_reached.Given as goal

-- those that are reached of the numbers so far were added, and there is room for all others
abbrev pub invariant-loop-number : goal.invariant-loop-number
invariant-loop-number l = record {
  added : Adds (OfEach (IsNodeReached (program_of l.self) (nodes_in l.self) l.target.kind.now
      l.target.component) (take l.number-index l.among))
      l.initial.numbers.items l.numbers.items;
  room : length l.numbers.items + length l.among ≤ vec_capacity l.numbers + l.number-index;
}
