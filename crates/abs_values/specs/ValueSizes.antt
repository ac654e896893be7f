-- Each value inside a part is smaller than the parts. It serves proofs only.
--
--   `parts_are_deeper`     the parts behind a pointer are at most as deep as they have nodes
use denote.Param.Weighed.{most}
use Rattle.std.specs.Prelude.{ℕ, ◌≤◌, max, List, [], ◌∷◌, Option, Some, None}
use Rattle.std.proofs.Common.{arith}
use Rattle.std.specs.declared.alloc.Global.{Global}
use Rattle.std.specs.declared.sync.Arc.{Arc}
use Rattle.std.specs.declared.vec.Vec.{Vec}
use Rattle.abs_values.specs.ValueTrees.{value_nodes, parts_nodes}
use Rattle.abs_values.specs.ValueViews.{value_tree, value_trees, parts_behind}
use Rattle.abs_values.specs.declared.value.Parts.TheDeep.{deep-Value, deep-Parts}
use Rattle.abs_values.specs.declared.value.Parts.TheInside.{Inside}
use Rattle.abs_values.specs.declared.value.Value.{Value}
use Rattle.abs_values.specs.declared.value.Value.TheVariants as value

value_is_deeper : (v : Value) → deep-Value v ≤ value_nodes (value_tree v)
unfolding value_nodes
value_is_deeper (value.Int number) = omega arith
value_is_deeper (value.Text string) = omega arith
value_is_deeper (value.Built constructor parts) = omega arith
value_is_deeper (value.Object object) = omega arith
value_is_deeper (value.Future task) = omega arith
value_is_deeper value.Null = omega arith

values_are_deeper : (values : List Value) → max (most (λ v. deep-Value v) values) 0 ≤ parts_nodes (value_trees values)
unfolding value_nodes
values_are_deeper [] = omega arith
values_are_deeper (first ∷ others) = omega (arith, value_is_deeper first, values_are_deeper others)

behind_is_deeper : (items : Option (Arc (Vec Value Global) Global)) (nodes depth : ℕ)
    → deep-Parts (record { items = items; nodes = nodes; depth = depth }) ≤ parts_nodes (parts_behind items)
unfolding value_nodes
behind_is_deeper None nodes depth = omega arith
behind_is_deeper (Some parts) nodes depth = omega (arith, values_are_deeper parts.value.items)

pub parts_are_deeper : (a : Inside) → deep-Parts a ≤ parts_nodes (parts_behind a.items)
parts_are_deeper a = behind_is_deeper a.items a.nodes a.depth
