-- Methods that calls on `this` reach. A message to `this` is none: it makes a task of its own.
--
--   `CallsOnThis`              a method of a class calls another one on `this`
--   `IsReached`                a method of a class is another one, or calls on `this` lead from that to it
use Rattle.std.specs.Prelude.{◌≡◌, ℕ, slice_get, Option, Some}
use Rattle.abs_program.specs.Control.{Point, program_points}
use Rattle.abs_program.specs.Instructions.{CallsOwn, effect_of}
use Rattle.abs_program.specs.Members.{method_of}
use Rattle.abs_program.specs.ProgramBodies.{BodyAt, class_body, IsStatementOf}
use Rattle.abs_tree.specs.Syntax.{Name, VariableTree, SourceTree}

-- A statement in the body of one method of a class calls the other method on `this`. Both are indices among the members
-- of the class.
pub record CallsOnThis (source : SourceTree) (class one other : ℕ) : Type 0 where
  pub body : BodyAt
  pub body_is : class_body 0 source.declarations class one ≡ Some body
  pub index : ℕ
  pub inside : IsStatementOf body index
  pub point : Point
  pub there : slice_get (program_points source) index ≡ Some point
  pub method : Name
  pub target : Option VariableTree
  pub calls : effect_of point.statement ≡ CallsOwn method target
  pub method_is : method_of source.declarations class method ≡ Some other

-- A method of a class reaches itself, and what a method that it reaches calls on `this`.
pub data IsReached (source : SourceTree) (class : ℕ) : ℕ → ℕ → Type 0 where
  itself : (one : ℕ) → IsReached source class one one
  further : (one between other : ℕ) → IsReached source class one between → CallsOnThis source class between other
      → IsReached source class one other
