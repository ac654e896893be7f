use Rattle.std.proofs.Common.{List, []}
use Rattle.abs_program.specs.Instructions.{waits_of}
use Rattle.abs_tree.specs.Syntax.{Name}
use Rattle.abs_tree.specs.SyntaxViews.{tests}
use Rattle.abs_program.proofs.tables.effects.awaited.Given as goal
use Rattle.list_facts.proofs.AddedLemmas.{AddedToSoFar}

-- the slots of the parts so far were added
abbrev pub invariant-loop-test : goal.invariant-loop-test
invariant-loop-test l =
    (names : List Name) → AddedToSoFar (λ parts. waits_of (tests names parts)) [] l.guard l.test-index l.slots.items
