-- Seats: at most one task of each cog.
--
--   `KeptSeats`                the seats of all cogs, as contracts see them
--   `is_in_seat`               whether a task has this seat
--   `is_seated`                whether a task has a seat
--   `HaveOneEach`              no task has two seats
use Rattle.std.specs.Prelude.{◌≡◌, ℕ, Bool, false, ◌||◌, nat_eq, List, [], ◌∷◌, slice_get, Option, Some, None}

-- the tasks that have the seats of the cogs, by index, and how many more cogs there is room for
pub record KeptSeats : Type 0 where
  pub seats : List (Option ℕ)
  pub room : ℕ

abbrev pub is_in_seat : ℕ → Option ℕ → Bool
is_in_seat task None = false
is_in_seat task (Some other) = nat_eq other task

-- whether a task has one of the seats
abbrev pub is_seated : List (Option ℕ) → ℕ → Bool
is_seated [] task = false
is_seated (seat ∷ seats) task = is_in_seat task seat || is_seated seats task

-- No task has two seats.
abbrev pub HaveOneEach : List (Option ℕ) → Type 0
HaveOneEach seats = (one other task : ℕ) → slice_get seats one ≡ Some (Some task)
    → slice_get seats other ≡ Some (Some task) → one ≡ other
