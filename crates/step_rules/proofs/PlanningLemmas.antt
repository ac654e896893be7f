-- The change of a task, by its state, by its output and by what is next in its innermost frame.
--
--   `point_found`, `no_point`          the statement of an instruction
--   `give_open`                        a value that is given is no fault
--   `run_faulty`, `run_at_end`, `run_nowhere`, `run_at_point`  the change of a task that runs, by its output
--   `frames_by`                        frames by the innermost
--   `change_ended`, `ended_by`         a task with a result makes no change; one without a frame has a result
--   `change_by_its_state`, `change_awaiting`, `change_running`     the change by the state
--   `plan_there`                       the change of a plan
use Rattle.std.proofs.Common.{◌≡◌, ℕ, List, [], ◌∷◌, drop, slice_get, is_some, true, Option, Some, None, option_and_then, option_map, refl, sym, ap, ◌∙◌}
use Rattle.std.proofs.lemmas.Option.{same_Some, slice_get-map}
use Rattle.abs_program.specs.Control.{Point, program_points}
use Rattle.abs_program.specs.Instructions.{InstructionTree, effect_of, instruction_of, instructions}
use Rattle.abs_values.specs.Results.{Result, Results, AllGive, Fails, OneFails}
use Rattle.abs_tree.specs.Syntax.{Name, ProgramTree, SourceTree}
use Rattle.abs_values.specs.ValueTrees.{ValueTree}
use Rattle.abs_values.specs.declared.evaluated.Fault.{Fault}
use Rattle.config_state.specs.Configurations.{FrameState, TaskState, Configuration, object_at, fields_of}
use Rattle.config_state.specs.WellFormed.{IsWellFormed}
use Rattle.config_state.specs.declared.task.State.{State}
use Rattle.config_state.specs.declared.task.State.TheVariants.{Running, Awaiting}
use Rattle.step_rules.proofs.LocalRuleLemmas.{rule_or_is}
use Rattle.step_rules.proofs.StatementLemmas.{given}
use Rattle.step_rules.specs.Changes.{ended_change}
use Rattle.step_rules.specs.Events.{change_by, change_by_outcome, change_by_state, change_of_task, other_change, run_change, run_frames, statement_change}
use Rattle.step_rules.specs.LocalRules.{used_of, local_rule, next_rule, statement_rule}
use Rattle.step_rules.specs.Lookups.{Runner, class_of, unit_value}
use Rattle.step_rules.specs.ObjectRules.{give_rule}
use Rattle.step_rules.specs.Plans.{IsNoFault, plan_change, plan_of_task, rule_or, whole_change}
use Rattle.step_rules.specs.WaitRules.{wake_rule}
use Rattle.step_rules.specs.declared.plan.Plan.{Plan}

-- An instruction is that of a statement.
pub point_found : (source : SourceTree) (index : ℕ) (found : InstructionTree)
    → Some found ≡ slice_get (instructions source) index
    → (point : Point) × (slice_get (program_points source) index ≡ Some point) × (found ≡ instruction_of point)
unfolding instructions
point_found source index found is = by (slice_get (program_points source) index) refl
    (is ∙ slice_get-map instruction_of (program_points source) index)
  where
    by : (point : Option Point) → slice_get (program_points source) index ≡ point
        → Some found ≡ option_map instruction_of point
        → (point : Point) × (slice_get (program_points source) index ≡ Some point) × (found ≡ instruction_of point)
    by None there same = absurd cc
    by (Some point) there same = (point, there, same_Some _ _ same)

-- Where there is no instruction, there is no statement.
pub no_point : (source : SourceTree) (index : ℕ) → None ≡ slice_get (instructions source) index
    → slice_get (program_points source) index ≡ None
unfolding instructions
no_point source index is =
    by (slice_get (program_points source) index) (is ∙ slice_get-map instruction_of (program_points source) index)
  where
    by : (point : Option Point) → None ≡ option_map instruction_of point → point ≡ None
    by None same = refl
    by (Some point) same = absurd cc

-- A task without a result ends with no fault where it gives a value.
pub give_open : (config : Configuration) (at : Runner) (value : ValueTree) → at.task.outcome ≡ None
    → IsNoFault (give_rule config at.index at.task at.frame at.others value)
give_open config at value still = by at.others
  where
    by : (others : List FrameState) → IsNoFault (give_rule config at.index at.task at.frame others value)
    by [] = λ cause fails. absurd cc
    by (below ∷ others) = λ cause fails. absurd cc

module _ (program : ProgramTree) (config : Configuration) (at : Runner) where
  -- With a fault as output the task ends with it.
  pub run_faulty : (cause : Fault) → run_change program config at (OneFails cause)
      ≡ Some (ended_change at.task (Fails cause))
  unfolding local_rule
  run_faulty cause = refl

  -- With values it is by what is next in the innermost frame.
  run_next : (values : List ValueTree) (next : Option ℕ) → at.frame.next ≡ next
      → run_change program config at (AllGive values) ≡ rule_or at
      (next_rule (used_of program (class_of (object_at config at.frame.object))) at.frame at.others
      (fields_of (object_at config at.frame.object)) values next) (other_change program config at values next)
  unfolding local_rule
  run_next values next is = rule_or_is program config at (AllGive values)
      (next_rule (used_of program (class_of (object_at config at.frame.object))) at.frame at.others
      (fields_of (object_at config at.frame.object)) values at.frame.next)
      ∙ ap (λ (one : Option ℕ). rule_or at
      (next_rule (used_of program (class_of (object_at config at.frame.object))) at.frame at.others
      (fields_of (object_at config at.frame.object)) values one) (other_change program config at values one)) is

  -- At the end of its body it returns `Unit`.
  pub run_at_end : (values : List ValueTree) → at.frame.next ≡ None
      → run_change program config at (AllGive values)
      ≡ Some (give_rule config at.index at.task at.frame at.others (unit_value program.names))
  run_at_end values is = run_next values None is ∙ given config at (unit_value program.names)

  -- With an index it is by the statement with that index.
  run_by : (values : List ValueTree) (index : ℕ) (found : Option Point) → at.frame.next ≡ Some index
      → slice_get (program_points program.source) index ≡ found
      → run_change program config at (AllGive values) ≡ rule_or at (option_and_then (λ point.
      statement_rule (used_of program (class_of (object_at config at.frame.object))) at.frame at.others
      (fields_of (object_at config at.frame.object)) point values (effect_of point.statement)) found)
      (option_and_then (λ point. statement_change program config at point values (effect_of point.statement)) found)
  run_by values index found is there = run_next values (Some index) is
      ∙ ap (λ (one : Option Point). rule_or at (option_and_then (λ point.
      statement_rule (used_of program (class_of (object_at config at.frame.object))) at.frame at.others
      (fields_of (object_at config at.frame.object)) point values (effect_of point.statement)) one)
      (option_and_then (λ point. statement_change program config at point values (effect_of point.statement)) one))
      there

  -- Where there is no statement it makes no change.
  pub run_nowhere : (values : List ValueTree) (index : ℕ) → at.frame.next ≡ Some index
      → slice_get (program_points program.source) index ≡ None
      → run_change program config at (AllGive values) ≡ None
  run_nowhere values index is none = run_by values index None is none

  -- At a statement it makes the change of that.
  pub run_at_point : (values : List ValueTree) (index : ℕ) (point : Point) → at.frame.next ≡ Some index
      → slice_get (program_points program.source) index ≡ Some point
      → run_change program config at (AllGive values)
      ≡ whole_change program config at point values (effect_of point.statement)
  run_at_point values index point is there = run_by values index (Some point) is there

-- The frames of a task, by the innermost.
pub frames_by : (frames : List FrameState) (frame : FrameState) → Some frame ≡ slice_get frames 0
    → frames ≡ frame ∷ drop 1 frames
frames_by [] frame is = absurd cc
frames_by (first ∷ others) frame is = cc

module _ (program : ProgramTree) (config : Configuration) (index : ℕ) (results : Results) (task : TaskState)
    (there : slice_get config.tasks index ≡ Some task) where
  -- A task with a result makes no change.
  pub change_ended : is_some task.outcome ≡ true → None ≡ change_by program config index results
  unfolding change_by
  change_ended ended = by task.outcome ended ∙ sym (ap (change_of_task program config index results) there)
    where
      by : (outcome : Option Result) → is_some outcome ≡ true
          → None ≡ change_by_outcome program config index task results outcome
      by None ended = absurd cc
      by (Some result) ended = refl

  -- A task without a frame has a result.
  pub ended_by : IsWellFormed config → None ≡ slice_get task.frames 0 → is_some task.outcome ≡ true
  ended_by formed none = by task.outcome refl task.frames refl none
    where
      by : (outcome : Option Result) → task.outcome ≡ outcome → (frames : List FrameState) → task.frames ≡ frames
          → None ≡ slice_get frames 0 → is_some outcome ≡ true
      by (Some result) ended frames are none = refl
      by None still [] are none = absurd ((formed.tasks_formed index task there).unfinished still are)
      by None still (frame ∷ others) are none = absurd cc

  -- The change of a task without a result is by its state.
  pub change_by_its_state : (state : State) → task.outcome ≡ None → task.state ≡ state
      → change_by_state program config index task results state ≡ change_by program config index results
  unfolding change_by
  change_by_its_state state still is = sym (ap (change_of_task program config index results) there
      ∙ (ap (change_by_outcome program config index task results) still
      ∙ ap (change_by_state program config index task results) is))

  -- That of one that awaits is by its frames.
  pub change_awaiting : (frames : List FrameState) → task.outcome ≡ None → task.state ≡ Awaiting
      → task.frames ≡ frames → wake_rule program config index task frames ≡ change_by program config index results
  change_awaiting frames still awaits are = ap (wake_rule program config index task) (sym are)
      ∙ change_by_its_state Awaiting still awaits

  -- That of one that runs is by its innermost frame.
  pub change_running : (frame : FrameState) (others : List FrameState) → task.outcome ≡ None → task.state ≡ Running
      → task.frames ≡ frame ∷ others
      → run_change program config (record { index = index; task = task; frame = frame; others = others }) results
      ≡ change_by program config index results
  change_running frame others still runs are = ap (run_frames program config index task results) (sym are)
      ∙ change_by_its_state Running still runs

  -- The change of its plan is that of its task with its frames.
  pub plan_there : (names : List Name) (frames : List FrameState) (plan : Option Plan) → task.frames ≡ frames
      → option_and_then (plan_change names config index) plan
      ≡ option_and_then (plan_of_task names config index task frames) plan
  plan_there names frames plan are = ap (λ (found : Option TaskState). option_and_then (λ (one : Plan). option_and_then
      (λ (task : TaskState). plan_of_task names config index task task.frames one) found) plan) there
      ∙ ap (λ (frames : List FrameState). option_and_then (plan_of_task names config index task frames) plan) are
