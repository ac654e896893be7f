-- Programs in which tasks wait by `await` alone.
--
--   `NeverGets`                no statement of a program is a `get`
use Rattle.std.specs.Prelude.{◌≡◌, ◌≢◌, ℕ, slice_get, Option, Some}
use Rattle.abs_program.specs.Control.{Point, program_points}
use Rattle.abs_program.specs.Instructions.{Gets, effect_of}
use Rattle.abs_tree.specs.Syntax.{VariableTree, ProgramTree}

-- No statement of the program is a `get`.
abbrev pub NeverGets : ProgramTree → Type 0
NeverGets program = (index : ℕ) (point : Point) (slot : Option ℕ) (target : Option VariableTree)
    → slice_get (program_points program.source) index ≡ Some point → effect_of point.statement ≢ Gets slot target
