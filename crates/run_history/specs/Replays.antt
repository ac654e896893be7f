-- Where a history stops being legal.
--
--   `IsFirstIllegal`           the first event of a history that does not exist
use Rattle.std.specs.Prelude.{◌≡◌, ℕ, List, ◌∷◌, ◌++◌, length, Some, None}
use Rattle.abs_tree.specs.Syntax.{ProgramTree}
use Rattle.step_rules.specs.Events.{event_of}
use Rattle.step_rules.specs.Runs.{Ran, run_of}

-- The event with this index, counted from 0, is the first of the history that does not exist: all before it do.
pub record IsFirstIllegal (program : ProgramTree) (history : List ℕ) (index : ℕ) : Type 0 where
  pub earlier : List ℕ
  pub later : List ℕ
  pub task : ℕ
  pub history_is : history ≡ earlier ++ task ∷ later
  pub index_is : index ≡ length earlier
  pub ran : Ran
  pub leads : run_of program earlier ≡ Some ran
  pub none : event_of program ran.config task ≡ None
