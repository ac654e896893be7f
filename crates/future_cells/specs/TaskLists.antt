-- What the code of a set does with its tasks, told of lists of them in rising order.
--
--   `Each`                     something is so of each task of a list
--   `with_task`                a task is put where it belongs
--   `without_task`             a task is taken out
--   `first_of`                 the first of the tasks
--   `first_above`              the first of the tasks that is above a number
use Rattle.std.specs.Prelude.{◌≡◌, ℕ, true, List, [], ◌∷◌, Option, Some, nat_lt, nat_eq, if◌then◌else◌}
use Rattle.future_cells.specs.TaskSets.{has}

-- Something is so of each task of the list.
abbrev pub Each : (ℕ → Type 0) → List ℕ → Type 0
Each Holds tasks = (task : ℕ) → has tasks task ≡ true → Holds task

-- the tasks with one more, before the first that is above it
abbrev pub with_task : ℕ → List ℕ → List ℕ
with_task task [] = task ∷ []
with_task task (first ∷ others) = if nat_lt task first then task ∷ first ∷ others else first ∷ with_task task others

-- the tasks without one of them
abbrev pub without_task : ℕ → List ℕ → List ℕ
without_task task [] = []
without_task task (first ∷ others) = if nat_eq first task then others else first ∷ without_task task others

-- the first of the tasks, and where there is none, what was found before
abbrev pub first_of : Option ℕ → List ℕ → Option ℕ
first_of found [] = found
first_of found (first ∷ others) = Some first

-- the first of the tasks that is above a number, and where there is none, what was found before
abbrev pub first_above : ℕ → Option ℕ → List ℕ → Option ℕ
first_above from found [] = found
first_above from found (first ∷ others) = if nat_lt from first then Some first else first_above from found others
