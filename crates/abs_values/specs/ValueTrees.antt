-- Values without their memory, as plain trees: what evaluation, events and printed forms speak of. A node is one
-- number, string, object, future or null, or one constructor with the nodes of its parts. A constructor has the number
-- of its name in the program's table.
--
--   `ValueTree`, `ValueTrees`          values, and the parts of a constructor
--   `parts_of_list`                    the parts with these values
--   `value_nodes`, `parts_nodes`       how many nodes there are
--   `value_depth`, `parts_depth`       how many of them are nested, at most
--   `same_value`, `same_parts`         whether two values are the same
--   `fits`, `built_value`              whether parts are within the limits, and a constructor with its parts
use Rattle.std.specs.Prelude.{ℕ, ℤ, ◌+◌, max, nat_eq, nat_lt, Bool, true, false, ◌&&◌, List, [], ◌∷◌, Option, Some, None, if◌then◌else◌}
use Rattle.std.specs.Str.{bytes_eq}
use Rattle.std.specs.Ordering.{int_eq}
use Rattle.abs_tree.specs.Limits.{node_limit, depth_limit}

mutual
  -- a number, a string, a constructor with its parts, an object, a future by the number of its task, or null
  pub data ValueTree : Type 0 where
    IntValue : (number : ℤ) → ValueTree
    StringValue : (string : List ℕ) → ValueTree
    BuiltValue : (constructor : ℕ) (parts : ValueTrees) → ValueTree
    ObjectValue : (object : ℕ) → ValueTree
    FutureValue : (task : ℕ) → ValueTree
    NullValue : ValueTree

  pub data ValueTrees : Type 0 where
    NoPart : ValueTrees
    NextPart : (first : ValueTree) (others : ValueTrees) → ValueTrees

-- the parts with these values
abbrev pub parts_of_list : List ValueTree → ValueTrees
parts_of_list [] = NoPart
parts_of_list (first ∷ others) = NextPart first (parts_of_list others)

unfoldable mutual
  -- how many nodes a value has
  pub value_nodes : ValueTree → ℕ
  value_nodes (IntValue number) = 1
  value_nodes (StringValue string) = 1
  value_nodes (BuiltValue constructor parts) = 1 + parts_nodes parts
  value_nodes (ObjectValue object) = 1
  value_nodes (FutureValue task) = 1
  value_nodes NullValue = 1

  pub parts_nodes : ValueTrees → ℕ
  parts_nodes NoPart = 0
  parts_nodes (NextPart first others) = value_nodes first + parts_nodes others

unfoldable mutual
  -- how many nodes of a value are nested, at most
  pub value_depth : ValueTree → ℕ
  value_depth (IntValue number) = 1
  value_depth (StringValue string) = 1
  value_depth (BuiltValue constructor parts) = 1 + parts_depth parts
  value_depth (ObjectValue object) = 1
  value_depth (FutureValue task) = 1
  value_depth NullValue = 1

  pub parts_depth : ValueTrees → ℕ
  parts_depth NoPart = 0
  parts_depth (NextPart first others) = max (value_depth first) (parts_depth others)

unfoldable mutual
  -- whether two values are the same: data by its structure, objects and futures by their numbers
  pub same_value : ValueTree → ValueTree → Bool
  same_value (IntValue one) (IntValue other) = int_eq one other
  same_value (StringValue one) (StringValue other) = bytes_eq one other
  same_value (BuiltValue one parts) (BuiltValue other others) = nat_eq one other && same_parts parts others
  same_value (ObjectValue one) (ObjectValue other) = nat_eq one other
  same_value (FutureValue one) (FutureValue other) = nat_eq one other
  same_value NullValue NullValue = true
  same_value one other = false

  pub same_parts : ValueTrees → ValueTrees → Bool
  same_parts NoPart NoPart = true
  same_parts (NextPart first others) (NextPart second more) = same_value first second && same_parts others more
  same_parts parts others = false

-- whether a constructor with these parts is within the limits of nodes and of nesting
abbrev pub fits : ValueTrees → Bool
fits parts = nat_lt (parts_nodes parts) node_limit && nat_lt (parts_depth parts) depth_limit

-- a constructor with its parts, if it is within the limits
abbrev pub built_value : ℕ → ValueTrees → Option ValueTree
built_value constructor parts = if fits parts then Some (BuiltValue constructor parts) else None
