use Rattle.std.proofs.Common.{◌≡◌, ◌≤◌, ℕ, suc, length}
use Rattle.abs_graph.specs.Views.{graph_of}
use Rattle.circularity_test.specs.Distances.{Marks}
use Rattle.circularity_test.proofs.distances.Distances.follow_level.Given as goal

-- the nodes of the entries so far were followed, and no entry is gone
abbrev pub invariant-loop-index : goal.invariant-loop-index
invariant-loop-index l = record {
  kept : length l.initial.self.marks.entries ≤ length l.self.marks.entries;
  marks : (goal level : ℕ) → l.distance ≡ suc level
      → Marks (graph_of l.before) goal level l.begin (length l.initial.self.marks.entries) l.initial.self.marks.entries
      → Marks (graph_of l.before) goal level l.index (length l.initial.self.marks.entries) l.self.marks.entries;
}
