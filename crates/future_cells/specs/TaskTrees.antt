-- The tasks of a tree, which is what a set is kept as.
--
--   `tasks_of`                 the tasks of a tree in rising order
use Rattle.std.specs.Prelude.{ℕ, List, [], ◌∷◌, ◌++◌}
use Rattle.future_cells.specs.declared.task_set.Tree.{Tree, Empty, Fork'}

-- the tasks in rising order
abbrev pub tasks_of : Tree → List ℕ
tasks_of Empty = []
tasks_of (Fork' place below task above) = tasks_of below ++ task ∷ tasks_of above
