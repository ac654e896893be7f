-- In an accepted program without `get` some task has an event while one is unfinished.
--
--   `point_of_program`             the next statement of a frame is one of the program
--   `waits_are_known`              a task waits for tasks alone whose futures it knows
--   `never_stuck`                  while a task is unfinished, some task has an event
use Rattle.std.proofs.Common.{◌≡◌, ℕ, inl, inr, List, [], ◌∷◌, slice_get, Some}
use Rattle.std.proofs.lemmas.Option.{option_and_then_some}
use Rattle.abs_profile.specs.Accepted.{IsAcceptedProgram}
use Rattle.abs_program.specs.Control.{Point, program_points}
use Rattle.abs_sound.proofs.LawLemmas.{never_closes, reachable_ordered}
use Rattle.abs_sound.proofs.TaskLemmas.{future_inside}
use Rattle.abs_sound.specs.Knowledge.{KnowsFuture, InSlot, IsClosedChain}
use Rattle.abs_sound.specs.Waits.{NeverGets}
use Rattle.abs_tree.specs.Syntax.{ProgramTree}
use Rattle.abs_values.specs.ValueTrees.{FutureValue}
use Rattle.config_state.specs.Configurations.{FrameState, Configuration}
use Rattle.config_state.specs.OfProgram.{next_point}
use Rattle.step_rules.specs.Runs.{HasStep, IsOpen, IsReachable}
use Rattle.wait_graph.proofs.LawLemmas.{goes_on}
use Rattle.wait_graph.proofs.RoundLemmas.{leads_map}
use Rattle.wait_graph.specs.Waits.{IsCircularWait, WaitsFor}

-- the next statement of a frame is one of the program
point_of_program : (program : ProgramTree) (frame : FrameState) (point : Point)
    → next_point program frame ≡ Some point
    → (index : ℕ) × (slice_get (program_points program.source) index ≡ Some point)
point_of_program program frame point is = option_and_then_some (slice_get (program_points program.source)) frame.next
    point is (λ index next there. (index, there))

module _ (program : ProgramTree) (config : Configuration) (never : NeverGets program) where
  -- without `get` no cog is held, so a task waits for tasks alone whose futures it knows
  waits_are_known : (index other : ℕ) → WaitsFor program config index other → KnowsFuture config index other
  waits_are_known index other (inl names) = record {
    task = names.at.task;
    there = names.at.there;
    knows = InSlot 0 names.slot names.at.frame (FutureValue other) names.at.innermost names.holds
        (future_inside other);
  }
  waits_are_known index other (inr held) =
      let at = held.at_get in
      let place = point_of_program program at.frame at.point at.point_there in
      absurd (never place.0 at.point (Some at.slot) at.target place.1 at.gets)

  -- and a circular wait is a closed chain of knowledge
  circles_are_closed : (circle : List ℕ) → IsCircularWait program config circle → IsClosedChain config circle
  circles_are_closed [] circular = circular
  circles_are_closed (first ∷ others) circular =
      leads_map (WaitsFor program config) (KnowsFuture config) waits_are_known first first others circular.1

-- in an accepted program without `get` each configuration that a legal history reaches has an event while a task is
-- unfinished
pub never_stuck : (program : ProgramTree) (config : Configuration) → IsAcceptedProgram program → NeverGets program
    → IsReachable program config → IsOpen config → HasStep program config
never_stuck program config accepted never reached unfinished =
    goes_on program config accepted.whole reached unfinished
    (λ circle circular. never_closes config circle (reachable_ordered program config accepted reached)
    (circles_are_closed program config never circle circular))
