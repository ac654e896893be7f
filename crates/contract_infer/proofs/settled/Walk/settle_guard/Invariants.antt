use Rattle.std.proofs.Common.{List, take}
use Rattle.abs_tree.specs.Syntax.{Name}
use Rattle.abs_tree.specs.SyntaxViews.{tests}
use Rattle.contract_infer.specs.SettledWalk.{added, among, named_slots_in, Does}
use Rattle.contract_infer.proofs.settled.Walk.settle_guard.Given as goal

-- the slots that the parts so far name were made settled
abbrev pub invariant-loop-test : goal.invariant-loop-test
invariant-loop-test l =
    (names : List Name)
    → Does (added (among (named_slots_in (tests names (take l.test-index l.guard))))) l.fn.self l.self
