-- The sentence of the headline on runs, and what types promise of them.
--
--   `NeverStuck`               no legal history leads to a configuration in which a program is stuck
--   `HasNoTypeFault`           no task of a configuration has ended with the fault Mistyped
--   `NeverMistyped`            so it is in each configuration that a legal history reaches
use Rattle.std.specs.Prelude.{◌≢◌, Some}
use Rattle.abs_tree.specs.Syntax.{ProgramTree}
use Rattle.abs_values.specs.Results.{Fails}
use Rattle.abs_values.specs.declared.evaluated.Fault.TheVariants.{Mistyped}
use Rattle.config_state.specs.Configurations.{Configuration, Each}
use Rattle.step_rules.specs.Runs.{IsReachable, IsOpen, HasStep}

-- Every configuration that a legal history reaches has a step while a task in it is unfinished.
abbrev pub NeverStuck : ProgramTree → Type 0
NeverStuck program = (config : Configuration) → IsReachable program config → IsOpen config → HasStep program config

-- No task of the configuration has ended with the fault Mistyped.
abbrev pub HasNoTypeFault : Configuration → Type 0
HasNoTypeFault config = Each config.tasks (λ index task. task.outcome ≢ Some (Fails Mistyped))

-- No legal history leads to a configuration in which a task has ended with the fault Mistyped.
abbrev pub NeverMistyped : ProgramTree → Type 0
NeverMistyped program = (config : Configuration) → IsReachable program config → HasNoTypeFault config
