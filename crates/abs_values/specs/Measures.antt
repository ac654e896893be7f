-- How large some values are, as the code measures them. `Measures` serves proofs only.
--
--   `parts_within`         parts, if a constructor with them is within the limits
--   `Measures`             a measure of parts, if a constructor with them is within the limits
use Rattle.std.specs.Prelude.{◌≡◌, Option, Some, None, false, true, if◌then◌else◌}
use Rattle.abs_values.specs.ValueTrees.{ValueTrees, parts_nodes, parts_depth, fits}
use Rattle.abs_values.specs.declared.value.Measure.{Measure}

-- parts, if a constructor with them is within the limits
abbrev pub parts_within : ValueTrees → Option ValueTrees
parts_within parts = if fits parts then Some parts else None

-- the measure of parts, which is there exactly where a constructor with them is within the limits
abbrev pub Measures : ValueTrees → Option Measure → Type 0
Measures parts None = fits parts ≡ false
Measures parts (Some measure) =
    (fits parts ≡ true) × (measure.nodes ≡ parts_nodes parts) × (measure.depth ≡ parts_depth parts)
