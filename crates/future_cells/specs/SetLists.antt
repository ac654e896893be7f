-- Lists of sets of tasks.
--
--   `has_by`                   whether a task is in a set, if there is one
--   `has_at`                   whether a task is in the set at an index
use Rattle.std.specs.Prelude.{ℕ, Bool, false, List, slice_get, Option, Some, None}
use Rattle.future_cells.specs.TaskSets.{has}

abbrev pub has_by : Option (List ℕ) → ℕ → Bool
has_by None task = false
has_by (Some tasks) task = has tasks task

-- whether a task is in the set at an index; where there is no such set, it is not
abbrev pub has_at : List (List ℕ) → ℕ → ℕ → Bool
has_at sets index task = has_by (slice_get sets index) task
