-- The order of tasks from one on: those above it, and then, going round, those from 0 on up to it.
--
--   `no_later`                 whether a task comes no later than another, after a third
--   `IsFirstOf`                the first of some tasks, after another
use Rattle.std.specs.Prelude.{◌≡◌, ℕ, Bool, true, false, nat_lt, nat_le, if◌then◌else◌}

-- whether a task comes no later than another one, after the last one
abbrev pub no_later : ℕ → ℕ → ℕ → Bool
no_later last task other =
    if nat_lt last task
    then (if nat_lt last other then nat_le task other else true)
    else (if nat_lt last other then false else nat_le task other)

-- Of those tasks that pass, this is the first after the last one. The last one itself comes last.
pub record IsFirstOf (passes : ℕ → Bool) (last task : ℕ) : Type 0 where
  pub is_one : passes task ≡ true
  pub first : (other : ℕ) → passes other ≡ true → no_later last task other ≡ true
