use Rattle.std.proofs.Common.{List}
use Rattle.abs_tree.specs.Syntax.{Name}
use Rattle.abs_types.proofs.CopyLemmas.{CopiedSoFar}
use Rattle.abs_types.proofs.copies.+copies.Given as goal

abbrev pub invariant-copied_all-loop-term : goal.invariant-copied_all-loop-term
invariant-copied_all-loop-term l = (names : List Name) → CopiedSoFar names l.terms l.term-index l.found.items
