use Rattle.std.proofs.Common.{◌≡◌, ◌+◌, ◌<◌, max, drop}
use Rattle.abs_tree.specs.Limits.{node_limit, depth_limit}
use Rattle.abs_values.specs.ValueTrees.{parts_nodes, parts_depth}
use Rattle.abs_values.specs.ValueViews.{value_trees}
use Rattle.abs_values.proofs.value.measured.Given as goal

-- the values so far are measured: with those that are left they have the nodes and the depth of all; and a constructor
-- with them is within the limits
abbrev pub invariant-loop-value : goal.invariant-loop-value
invariant-loop-value l =
    let left = value_trees (drop l.value-index l.values) in
    record {
      nodes : l.measure.nodes + parts_nodes left ≡ parts_nodes (value_trees l.values);
      depth : max l.measure.depth (parts_depth left) ≡ parts_depth (value_trees l.values);
      few : l.measure.nodes < node_limit;
      shallow : l.measure.depth < depth_limit;
    }
