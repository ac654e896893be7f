use Rattle.std.proofs.Common.{◌≤◌, ◌-◌, ◌^◌, length}
use Rattle.abs_graph.specs.Views.{graph_of}
use Rattle.circularity_test.specs.Distances.{Marks}
use Rattle.circularity_test.proofs.distances.distances_to.Given as goal

-- the levels before this one were followed
abbrev pub invariant-loop-found : goal.invariant-loop-found
invariant-loop-found l = record {
  small : l.level ≤ l.begin;
  marks : Marks (graph_of l.before) l.goal l.level l.begin (length l.found.marks.entries) l.found.marks.entries;
}

-- there are fewer entries than a length can count, and each level has one
abbrev pub decreases-loop-found : goal.decreases-loop-found
decreases-loop-found l = 2 ^ 63 - l.begin
