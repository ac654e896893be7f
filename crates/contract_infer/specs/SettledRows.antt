-- The settled slots that the statements of a body name.
--
--   `rows_of`              rows of numbers without their memory
--   `AreSettledRows`       there is a row for each statement, of the slots that it names and that are settled there
use Rattle.std.specs.Prelude.{◌≡◌, ℕ, List, length, map, slice_get, Some, None}
use Rattle.std.specs.declared.alloc.Global.{Global}
use Rattle.std.specs.declared.vec.Vec.{Vec}
use Rattle.abs_program.specs.Control.{Point, points}
use Rattle.abs_program.specs.Flows.{Slots, facts}
use Rattle.abs_program.specs.Instructions.{effect_of}
use Rattle.abs_tree.specs.Syntax.{Statements}
use Rattle.abs_tree.specs.SyntaxSizes.{statement_count}
use Rattle.contract_terms.specs.Settled.{no_slot, settled, settled_names}

-- rows of numbers
abbrev pub rows_of : List (Vec ℕ Global) → List (List ℕ)
rows_of rows = map (λ (row : Vec ℕ Global). row.items) rows

-- There is a row for each statement of a body, in the order of their indices: the slots that it names and that are
-- settled there, each once, in the order of the source.
pub record AreSettledRows (statements : Statements) (rows : List (List ℕ)) : Type 0 where
  pub count : length rows ≡ statement_count statements
  pub are : (start offset : ℕ) (point : Point) (fact : Slots)
      → slice_get (points start statements None) offset ≡ Some point
      → slice_get (facts settled no_slot statements) offset ≡ Some fact
      → slice_get rows offset ≡ Some (settled_names (effect_of point.statement) fact)
