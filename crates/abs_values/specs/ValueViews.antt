-- The values of the code as plain trees.
--
--   `value_tree`, `value_trees`    the tree of a value, and those of a list of values, as parts
--   `parts_behind`                 the parts that a pointer shows, if there is one
use Rattle.std.specs.Prelude.{List, [], ◌∷◌, Option, Some, None}
use Rattle.std.specs.declared.alloc.Global.{Global}
use Rattle.std.specs.declared.sync.Arc.{Arc}
use Rattle.std.specs.declared.vec.Vec.{Vec}
use Rattle.abs_values.specs.ValueTrees.{ValueTree, IntValue, StringValue, BuiltValue, ObjectValue, FutureValue, NullValue, ValueTrees, NoPart, NextPart}
use Rattle.abs_values.specs.declared.value.Value.{Value}
use Rattle.abs_values.specs.declared.value.Value.TheVariants as value

-- the tree of a value
abbrev pub value_tree : Value → ValueTree
value_tree (value.Int number) = IntValue number
value_tree (value.Text string) = StringValue string
value_tree (value.Built constructor parts) = BuiltValue constructor.0 parts
value_tree (value.Object object) = ObjectValue object
value_tree (value.Future task) = FutureValue task
value_tree value.Null = NullValue

-- the trees of a list of values
abbrev pub value_trees : List Value → ValueTrees
value_trees [] = NoPart
value_trees (first ∷ others) = NextPart (value_tree first) (value_trees others)

-- the parts that a pointer shows; a constructor without parts has no pointer
abbrev pub parts_behind : Option (Arc (Vec Value Global) Global) → ValueTrees
parts_behind None = NoPart
parts_behind (Some parts) = value_trees parts.value.items
