use Rattle.std.proofs.Common.{◌≡◌, ◌≤◌, ◌+◌, ◌*◌, length}
use Rattle.abs_values.specs.ValueTrees.{value_nodes, parts_nodes, same_parts}
use Rattle.abs_values.specs.ValueViews.{value_tree, value_trees}
use Rattle.abs_values.proofs.comparison.+comparison.Given as goal

-- a value has more nodes than its parts, and these are compared in one more call
abbrev pub decreases-value_equal : goal.decreases-value_equal
decreases-value_equal l = 2 * value_nodes (value_tree l.left.now)

abbrev pub decreases-parts_equal : goal.decreases-parts_equal
decreases-parts_equal l = 2 * parts_nodes l.left.now + 1

-- the values so far are the same, so those that are left tell whether all are; as many are left on both sides, and they
-- have at most as many nodes as all
abbrev pub invariant-parts_equal-loop-one : goal.invariant-parts_equal-loop-one
invariant-parts_equal-loop-one l =
    let left = value_trees l.one-iterator.a.rest.now in
    let right = value_trees l.one-iterator.b.rest.now in
    record {
      so_far : same_parts left right ≡ same_parts l.left l.right;
      lengths : length l.one-iterator.a.rest.now ≡ length l.one-iterator.b.rest.now;
      nodes : parts_nodes left ≤ parts_nodes l.left;
    }
