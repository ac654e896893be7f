use Rattle.std.proofs.Common.{List}
use Rattle.abs_tree.specs.Syntax.{Name}
use Rattle.abs_tree.specs.SyntaxViews.{tests}
use Rattle.abs_profile.proofs.NotedLemmas.{NotedSoFar}
use Rattle.abs_profile.specs.Profile.{guard_offences}
use Rattle.abs_profile.proofs.statements.note_in_guard.Given as goal

-- the offences of the parts so far are noted
abbrev pub invariant-loop-test : goal.invariant-loop-test
invariant-loop-test l =
    (names : List Name)
    → NotedSoFar (λ items. guard_offences (tests names items)) l.guard l.test-index l.fn.first l.first
