-- The seats of the code without their memory.
--
--   `seat_task`                the task that has a seat
use Rattle.std.specs.Prelude.{ℕ, Option, Some, None}
use Rattle.future_cells.specs.declared.candidates.Seat.{Seat}
use Rattle.future_cells.specs.declared.candidates.Seat.TheVariants.{Free, Taken}

-- the task that has a seat, if one has
abbrev pub seat_task : Seat → Option ℕ
seat_task (Free link) = None
seat_task (Taken task) = Some task
