use Rattle.std.proofs.Common.{◌≡◌, List, drop}
use Rattle.std.specs.Prelude.{Ok}
use Rattle.abs_tree.specs.Syntax.{Name}
use Rattle.config_state.specs.ConfigViews.{configuration}
use Rattle.step_rules.specs.Plans.{guard_tree}
use Rattle.step_rules.specs.WaitRules.{guard_before, guard_of}
use Rattle.step_rules.proofs.guards.are_resolved.Given as goal

-- the part of the guard before the index, joined with the rest, is the whole guard
abbrev pub invariant-loop-name : goal.invariant-loop-name
invariant-loop-name l = (symbols : List Name) → guard_of (configuration symbols l.config) l.slots l.names
    ≡ guard_before (guard_tree (Ok l.all))
    (guard_of (configuration symbols l.config) l.slots (drop l.name-index l.names))
