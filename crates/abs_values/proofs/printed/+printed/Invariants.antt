use Rattle.std.proofs.Common.{◌+◌, ◌*◌, ◌≤◌, drop}
use Rattle.abs_values.specs.Printed.{parts_form, others_form}
use Rattle.abs_values.specs.PrintedWithin.{AppendedSoFar}
use Rattle.abs_values.specs.ValueTrees.{value_nodes, parts_nodes}
use Rattle.abs_values.specs.ValueViews.{value_tree, value_trees}
use Rattle.abs_values.proofs.printed.+printed.Given as goal

-- a value has more nodes than its parts, and these are added in one more call
abbrev pub decreases-add_value : goal.decreases-add_value
decreases-add_value l = 2 * value_nodes (value_tree l.value.now)

abbrev pub decreases-add_parts : goal.decreases-add_parts
decreases-add_parts l = 2 * parts_nodes (value_trees l.parts.now) + 1

-- the parts so far are added, and those that are left have at most as many nodes as all
abbrev pub invariant-add_parts-loop-other : goal.invariant-add_parts-loop-other
invariant-add_parts-loop-other l =
    let left = value_trees (drop l.other-index l.others) in
    record {
      appended : AppendedSoFar l.most l.fn.form.items (parts_form l.names (value_trees l.parts)) l.form.items
          (others_form l.names left);
      nodes : parts_nodes left ≤ parts_nodes (value_trees l.parts);
    }
