-- What contracts see of a history.
use Rattle.std.specs.Prelude.{ℕ, List}

-- the tasks whose events were recorded, from the first event on; and how many more events can be recorded without an
-- allocation
pub record Recorded : Type 0 where
  pub tasks : List ℕ
  pub spare : ℕ
