use Rattle.std.proofs.Common.{◌≡◌, ◌++◌}
use Rattle.std.specs.Prelude.{replicate}
use Rattle.abs_values.specs.ValueTrees.{NullValue}
use Rattle.step_rules.proofs.lookups.frame_for.Given as goal

-- a null value follows the arguments for each turn that was made
abbrev pub invariant-loop : goal.invariant-loop
invariant-loop l = l.slots ≡ l.fn.arguments ++ replicate l.counter NullValue
