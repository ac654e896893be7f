-- Calls on `this` by some of the statements of a program.
--
--   `CallsWithin`          a statement among these calls a method of a class on `this`
--   `AreCallsWithin`       these are the methods that statements call on `this`
use Rattle.std.specs.Prelude.{◌≡◌, ◌↔◌, ℕ, ◌+◌, ◌<◌, ◌≤◌, List, Contains, Option, Some, slice_get}
use Rattle.abs_program.specs.Control.{Point, program_points}
use Rattle.abs_program.specs.Instructions.{CallsOwn, effect_of}
use Rattle.abs_program.specs.Members.{method_of}
use Rattle.abs_tree.specs.Syntax.{Name, VariableTree, SourceTree}

-- One of the statements, of which the first has this index, and there are this many, calls a method of a class on
-- `this`. The method is an index among the members of the class.
pub record CallsWithin (source : SourceTree) (class first count other : ℕ) : Type 0 where
  pub index : ℕ
  pub from : first ≤ index
  pub below : index < first + count
  pub point : Point
  pub there : slice_get (program_points source) index ≡ Some point
  pub method : Name
  pub target : Option VariableTree
  pub calls : effect_of point.statement ≡ CallsOwn method target
  pub method_is : method_of source.declarations class method ≡ Some other

-- These are just the methods that these statements call on `this`.
pub record AreCallsWithin (source : SourceTree) (class first count : ℕ) (found : List ℕ) : Type 0 where
  pub each : (other : ℕ) → Contains found other ↔ CallsWithin source class first count other
