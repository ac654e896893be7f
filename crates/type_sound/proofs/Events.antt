-- Events of well-typed configurations.
--
--   `ValueIn`                  a value has a type in a configuration
--   `IsEvent`                  an event of a well-typed configuration of an accepted program
--   `event_stays`              what an event leaves as it was
use Rattle.std.proofs.Common.{◌≡◌, ℕ, Some}
use Rattle.abs_profile.specs.Accepted.{IsAcceptedProgram}
use Rattle.abs_tree.specs.Syntax.{ProgramTree}
use Rattle.abs_types.specs.PlainTypes.{PlainType}
use Rattle.abs_values.specs.ValueTrees.{ValueTree}
use Rattle.config_state.specs.Configurations.{Configuration}
use Rattle.config_state.specs.OfProgram.{IsConfigOf}
use Rattle.config_state.specs.WellFormed.{IsWellFormed}
use Rattle.step_rules.proofs.StayLemmas.{change_stays}
use Rattle.step_rules.specs.Changes.{Change}
use Rattle.step_rules.specs.Events.{change_of}
use Rattle.step_rules.specs.Homes.{IsHoused}
use Rattle.step_rules.specs.Stays.{Stays}
use Rattle.type_sound.specs.Values.{ValueHas}
use Rattle.type_sound.specs.WellTyped.{world_of, IsWellTyped}

-- a value has a type, where it refers to what is there in a configuration
abbrev pub ValueIn : ProgramTree → Configuration → ValueTree → PlainType → Type 0
ValueIn program config value type = ValueHas program (world_of program config) value type

-- An event of a well-typed configuration of an accepted program.
pub record IsEvent (program : ProgramTree) (config : Configuration) (index : ℕ) (change : Change) : Type 0 where
  pub accepted : IsAcceptedProgram program
  pub formed : IsWellFormed config
  pub of_program : IsConfigOf program config
  pub housed : IsHoused program config
  pub typed : IsWellTyped program config
  pub is_change : change_of program config index ≡ Some change

-- what an event leaves as it was
pub event_stays : (program : ProgramTree) (config : Configuration) (index : ℕ) (change : Change)
    → IsEvent program config index change → Stays config index change
event_stays program config index change event = change_stays program config index change event.is_change
