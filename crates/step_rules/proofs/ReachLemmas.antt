-- Each configuration that a legal history reaches is well-formed, of the program and housed.
use Rattle.std.proofs.Common.{◌≡◌, ℕ, [], Some, None, refl}
use Rattle.abs_tree.specs.Syntax.{ProgramTree}
use Rattle.abs_program.specs.Whole.{IsWhole}
use Rattle.abs_program.specs.ProgramBodies.{entry_of_body}
use Rattle.config_state.specs.Bodies.{main_at}
use Rattle.config_state.specs.Configurations.{Configuration}
use Rattle.config_state.specs.First.{first, frame_for}
use Rattle.config_state.specs.OfProgram.{IsConfigOf}
use Rattle.config_state.specs.WellFormed.{IsWellFormed}
use Rattle.config_state.specs.declared.frame.Target.TheVariants.{Nothing}
use Rattle.config_state.proofs.EachLemmas.{Each-none, Each-one}
use Rattle.config_state.proofs.FirstLemmas.{first-well_formed, first-of_program}
use Rattle.step_rules.proofs.FormedRuleLemmas.{event-formed}
use Rattle.step_rules.proofs.HouseLemmas.{task_housed, one_frame_housed, event_keeps_houses}
use Rattle.step_rules.proofs.InductionLemmas.{reachable_has}
use Rattle.step_rules.proofs.KeepLemmas.{event_keeps_program}
use Rattle.step_rules.specs.Events.{Step, event_of}
use Rattle.step_rules.specs.Homes.{IsCogMade, IsTaskHoused, IsCalled, OfMain, IsHoused}
use Rattle.step_rules.specs.Runs.{IsReachable}

-- A configuration is well-formed, of the program and housed.
abbrev IsKept : ProgramTree → Configuration → Type 0
IsKept program config = IsWellFormed config × IsConfigOf program config × IsHoused program config

-- the first configuration is housed: it has no object, its one cog has no parent, and its one task is that of the main
-- block
first_housed : (program : ProgramTree) → IsHoused program (first program)
first_housed program = record {
  objects_made = Each-none _;
  cogs_made = Each-one (λ index cog. (parent : ℕ) → cog.parent ≡ Some parent → IsCogMade program cog) _
      (λ parent is. absurd cc);
  tasks_housed = Each-one (λ index task. IsTaskHoused (first program) task) _
      (task_housed (first program) _ (λ index is. absurd cc)
      (one_frame_housed (first program) 0 (frame_for (entry_of_body (main_at program)) None None [] Nothing)
      (λ index is. absurd cc)));
  tasks_called = Each-one (IsCalled program (first program)) _
      (OfMain refl (record { in_first = refl; no_object = refl; no_method = refl; no_call = refl }));
}

-- each event keeps this
event_keeps : (program : ProgramTree) → IsWhole program.source → (config : Configuration) (index : ℕ) (step : Step)
    → IsReachable program config → IsKept program config → event_of program config index ≡ Some step
    → IsKept program step.config
event_keeps program whole config index step reached kept is = (
  event-formed program config index step kept.0 is,
  event_keeps_program program config index step whole kept.1 is,
  event_keeps_houses program config index step kept.2 is,
)

-- each configuration that a legal history reaches is well-formed, of the program and housed
pub reachable_keeps : (program : ProgramTree) (config : Configuration) → IsWhole program.source
    → IsReachable program config → IsWellFormed config × IsConfigOf program config × IsHoused program config
reachable_keeps program config whole reached =
    reachable_has program (IsKept program) (event_keeps program whole)
    (first-well_formed program, first-of_program program, first_housed program) config reached
