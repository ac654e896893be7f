use Rattle.std.proofs.Common.{◌≡◌, map, take}
use Rattle.abs_values.specs.ValueViews.{value_tree}
use Rattle.abs_values.proofs.values.Values.copied.Given as goal

-- the values so far were copied
abbrev pub invariant-loop-value : goal.invariant-loop-value
invariant-loop-value l = map value_tree l.items.items ≡ map value_tree (take l.value-index l.value-items)
