-- The bytes so far are those that were taken, and each turn adds to them, up to one past the limit.
use Rattle.std.proofs.Common.{◌≡◌, ℕ, ◌+◌, ◌-◌, ◌≤◌, List, length}
use Rattle.std.specs.Io.KnownBytes.{Consumes}
use Rattle.abs_tree.specs.Limits.{source_limit}
use Rattle.abs_command.proofs.edge.read.read_rest.Given as goal

abbrev pub invariant-loop-buffer : goal.invariant-loop-buffer
invariant-loop-buffer g l = record {
  taken : Consumes (g.S.Source.left l.initial.source) (g.S.Source.left l.source) l.bytes.items;
  at_most : length l.bytes.items ≤ source_limit + 1;
  never_falls : g.S.Source.faults l.initial.source ≤ g.S.Source.faults l.source;
  same_missing : g.S.Source.missing l.source ≡ g.S.Source.missing l.initial.source;
  same_names : (name : List ℕ) → g.S.Source.under l.source name ≡ g.S.Source.under l.initial.source name;
}

abbrev pub decreases-loop-buffer : goal.decreases-loop-buffer
decreases-loop-buffer g l = source_limit + 1 - length l.bytes.items
