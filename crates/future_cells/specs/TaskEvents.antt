-- Events of one task, one after the other.
--
--   `IsLocal`                  a change is that of a local rule, and no fault
--   `AreEvents`                one or more events of a task, all but the last of them local
--   `HasMoved`                 they came since a ready set was that of a configuration
use Rattle.std.specs.Prelude.{◌≡◌, ℕ, List, ◌∷◌, Some}
use Rattle.abs_tree.specs.Syntax.{ProgramTree}
use Rattle.abs_values.specs.Results.{Results}
use Rattle.config_state.specs.Configurations.{Configuration, object_at, fields_of}
use Rattle.config_state.specs.WellFormed.{IsWellFormed}
use Rattle.future_cells.specs.Ready.{KeptReady}
use Rattle.future_cells.specs.Standings.{StandsFor}
use Rattle.step_rules.specs.Changes.{Change, configuration_after, kept_change}
use Rattle.step_rules.specs.Events.{change_of}
use Rattle.step_rules.specs.LocalRules.{Leaves, local_rule, used_of}
use Rattle.step_rules.specs.Lookups.{Runner, class_of}
use Rattle.step_rules.specs.RuleParts.{IsRunner}
use Rattle.step_rules.specs.Targets.{FramesAndFields}
use Rattle.step_rules.specs.declared.kind.Did.{Did}

-- The change of the task with an index is that of a local rule, and no fault.
pub record IsLocal (program : ProgramTree) (config : Configuration) (index : ℕ) (change : Change) : Type 0 where
  pub at : Runner
  pub index_is : at.index ≡ index
  pub runs : IsRunner config at
  pub results : Results
  pub own : FramesAndFields
  pub lines : List (List ℕ)
  pub kind : Did
  pub leaves : local_rule (used_of program (class_of (object_at config at.frame.object))) (at.frame ∷ at.others)
      (fields_of (object_at config at.frame.object)) results ≡ Some (Leaves own lines kind)
  pub change_is : change ≡ kept_change index at.task at.frame.object own lines kind

-- From the configuration before them one or more events of the task lead to the one after them. All but the last are
-- local, and the last is of this kind.
pub data AreEvents (program : ProgramTree) (task : ℕ) (after : Configuration) (did : Did) : Configuration → Type 0 where
  Last : (before : Configuration) (change : Change) → change_of program before task ≡ Some change
      → after ≡ configuration_after before task change → did ≡ change.did → AreEvents program task after did before
  Then : (before : Configuration) (change : Change) → change_of program before task ≡ Some change
      → IsLocal program before task change
      → AreEvents program task after did (configuration_after before task change)
      → AreEvents program task after did before

-- The ready set was that of a well-formed configuration, and events of the task led from that to this one, the last of
-- this kind.
pub record HasMoved (program : ProgramTree) (after : Configuration) (task : ℕ) (did : Did) (ready : KeptReady)
    : Type 0 where
  pub before : Configuration
  pub formed : IsWellFormed before
  pub stood : StandsFor program before ready
  pub events : AreEvents program task after did before
