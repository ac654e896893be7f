use Rattle.std.proofs.Common.{List}
use Rattle.abs_tree.specs.Syntax.{Name}
use Rattle.config_state.specs.ConfigViews.{configuration}
use Rattle.step_rules.proofs.BlockedLemmas.{NoneOpenBefore}
use Rattle.step_rules.proofs.enabled.first_open.Given as goal

abbrev pub invariant-loop-name : goal.invariant-loop-name
invariant-loop-name l = (symbols : List Name)
    → NoneOpenBefore (configuration symbols l.config) l.slots l.names l.name-index
