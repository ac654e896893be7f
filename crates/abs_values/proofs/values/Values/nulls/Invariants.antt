use Rattle.std.proofs.Common.{◌≡◌, map, replicate}
use Rattle.abs_values.specs.ValueTrees.{NullValue}
use Rattle.abs_values.specs.ValueViews.{value_tree}
use Rattle.abs_values.proofs.values.Values.nulls.Given as goal

-- there are as many null values as turns were made
abbrev pub invariant-loop : goal.invariant-loop
invariant-loop l = map value_tree l.items.items ≡ replicate l.counter NullValue
