use Rattle.std.proofs.Common.{◌≡◌, map, length}
use Rattle.std.specs.Cmp.Lexicographic.{pointwise}
use Rattle.abs_values.specs.ValueTrees.{same_value}
use Rattle.abs_values.specs.ValueViews.{value_tree}
use Rattle.step_rules.proofs.inputs.values_equal.Given as goal

-- the values so far are the same, so those that are left tell whether all are; as many are left on both sides
abbrev pub invariant-loop-one : goal.invariant-loop-one
invariant-loop-one l =
    let left = l.one-iterator.a.rest.now in
    let right = l.one-iterator.b.rest.now in
    record {
      so_far : pointwise same_value (map value_tree left) (map value_tree right)
          ≡ pointwise same_value (map value_tree l.left) (map value_tree l.right);
      lengths : length left ≡ length right;
    }
