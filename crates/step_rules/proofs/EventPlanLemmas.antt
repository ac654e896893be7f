-- The plan of an event stands for the change of it.
--
--   `HasTurn`, `HasParts`, `plan_parts`        a change has the parts of the plan that stands for it
--   `change_there`             an event is that of a change
--   `same_change`              the change with the output of the input is that of the event
--   `planned_change`           the plan of an event stands for its change
--   `after_event`, `lines_of_event`    what an event leads to, by its change
--   `formed_after`, `known_after`      the configuration after a change is well-formed, and of the program
use Rattle.std.proofs.Common.{◌≡◌, ℕ, suc, List, [], ◌∷◌, length, slice_get, Option, Some, None, IsSome, option_and_then, option_map, refl, sym, ap, ◌∙◌, subst}
use Rattle.std.proofs.lemmas.Option.{same_Some}
use Rattle.abs_values.specs.Results.{Results}
use Rattle.abs_tree.specs.Syntax.{Name, ProgramTree}
use Rattle.abs_program.specs.Whole.{IsWhole}
use Rattle.config_state.specs.Configurations.{FrameState, TaskState, Configuration}
use Rattle.config_state.specs.OfProgram.{IsConfigOf}
use Rattle.config_state.specs.Views.{object_state, task_state}
use Rattle.config_state.specs.WellFormed.{IsWellFormed}
use Rattle.config_state.specs.declared.frame.Frame.{Frame}
use Rattle.step_rules.proofs.FormedRuleLemmas.{event-formed}
use Rattle.step_rules.proofs.KeepLemmas.{event_keeps_program}
use Rattle.step_rules.specs.Changes.{Change, configuration_after}
use Rattle.step_rules.specs.Events.{Step, change_by, change_of, step_by, event_of}
use Rattle.step_rules.specs.Inputs.{Input, input_of, output_of}
use Rattle.step_rules.specs.Plans.{plan_change, plan_lines, plan_of_task, turn_change}
use Rattle.step_rules.specs.declared.kind.Did.{Did}
use Rattle.step_rules.specs.declared.plan.Plan.{Plan}
use Rattle.step_rules.specs.declared.plan.Turn.{Turn}
use Rattle.step_rules.specs.declared.plan.Turn.TheVariants.{Takes, GoesOn, Enters, Leaves, Waits, Yields, Ends}

-- The change has these lines and this kind. Where a frame is pushed, its task has one frame more than these.
pub record HasTurn (frames : List FrameState) (lines : List (List ℕ)) (kind : Did) (turn : Turn) (change : Change)
    : Type 0 where
  pub lines_are : lines ≡ change.lines
  pub kind_is : kind ≡ change.did
  pub pushes : (frame : Frame) (next : Option ℕ) → turn ≡ Enters frame next
      → length change.task.frames ≡ suc (length frames)

-- The change has the parts of the plan.
pub record HasParts (names : List Name) (frames : List FrameState) (plan : Plan) (change : Change) : Type 0 where
  pub turned : HasTurn frames (plan_lines plan) plan.did plan.turn change
  pub cog_is : plan.cog ≡ change.cog
  pub object_is : option_map (object_state names) plan.object ≡ change.object
  pub new_is : option_map (task_state names) plan.task ≡ change.new

module _ (names : List Name) (config : Configuration) (index : ℕ) where
  module _ (task : TaskState) where
    module _ (lines : List (List ℕ)) (kind : Did) (change : Change) where
      -- what has become of a task has these lines and this kind
      has_turn : (frames : List FrameState) (turn : Turn) (made : Change) → Some made ≡ Some change
          → lines ≡ made.lines → kind ≡ made.did
          → ((frame : Frame) (next : Option ℕ) → turn ≡ Enters frame next
          → length made.task.frames ≡ suc (length frames)) → HasTurn frames lines kind turn change
      has_turn frames turn made is lines_are kind_is pushes =
          subst (HasTurn frames lines kind turn) (same_Some _ _ is)
          (record { lines_are = lines_are; kind_is = kind_is; pushes = pushes })

      -- what becomes of a task is a change with these lines and of this kind
      turn_parts : (frames : List FrameState) (turn : Turn)
          → turn_change names config index task frames lines kind turn ≡ Some change
          → HasTurn frames lines kind turn change
      turn_parts frames Takes is = has_turn frames Takes _ is refl refl (λ frame next same. absurd cc)
      turn_parts [] (GoesOn target value next) is = absurd cc
      turn_parts (frame ∷ others) (GoesOn target value next) is =
          has_turn _ (GoesOn target value next) _ is refl refl (λ frame next same. absurd cc)
      turn_parts [] (Enters frame next) is = absurd cc
      turn_parts (frame ∷ others) (Enters pushed next) is =
          has_turn _ (Enters pushed next) _ is refl refl (λ frame next same. refl)
      turn_parts [] (Leaves value) is = absurd cc
      turn_parts (frame ∷ []) (Leaves value) is = absurd cc
      turn_parts (frame ∷ below ∷ others) (Leaves value) is =
          has_turn _ (Leaves value) _ is refl refl (λ frame next same. absurd cc)
      turn_parts frames Waits is = has_turn frames Waits _ is refl refl (λ frame next same. absurd cc)
      turn_parts [] (Yields next) is = absurd cc
      turn_parts (frame ∷ others) (Yields next) is =
          has_turn _ (Yields next) _ is refl refl (λ frame next same. absurd cc)
      turn_parts frames (Ends result) is =
          has_turn frames (Ends result) _ is refl refl (λ frame next same. absurd cc)

    -- the change that a plan stands for has its parts
    parts_of : (frames : List FrameState) (plan : Plan) (change : Change)
        → plan_of_task names config index task frames plan ≡ Some change → HasParts names frames plan change
    unfolding plan_of_task
    parts_of frames plan change is =
        by (turn_change names config index task frames (plan_lines plan) plan.did plan.turn) refl is
      where
        by : (found : Option Change)
            → turn_change names config index task frames (plan_lines plan) plan.did plan.turn ≡ found
            → option_map (λ (made : Change). record made {
              cog = plan.cog;
              object = option_map (object_state names) plan.object;
              new = option_map (task_state names) plan.task;
            }) found ≡ Some change → HasParts names frames plan change
        by None found is = absurd cc
        by (Some made) found is =
            let turned = turn_parts (plan_lines plan) plan.did made frames plan.turn found in
            subst (HasParts names frames plan) (same_Some _ _ is) (record {
              turned = record {
                lines_are = turned.lines_are;
                kind_is = turned.kind_is;
                pushes = turned.pushes;
              };
              cog_is = refl;
              object_is = refl;
              new_is = refl;
            })

  -- the change that a plan stands for, of a task that is there, has the parts of the plan
  pub plan_parts : (plan : Plan) (change : Change) → plan_change names config index plan ≡ Some change
      → (task : TaskState) × (slice_get config.tasks index ≡ Some task) × HasParts names task.frames plan change
  plan_parts plan change is = by (slice_get config.tasks index) refl is
    where
      by : (found : Option TaskState) → slice_get config.tasks index ≡ found
          → option_and_then (λ (task : TaskState). plan_of_task names config index task task.frames plan) found
          ≡ Some change
          → (task : TaskState) × (slice_get config.tasks index ≡ Some task) × HasParts names task.frames plan change
      by None there is = absurd cc
      by (Some task) there is = (task, there, parts_of task task.frames plan change is)

module _ (program : ProgramTree) (config : Configuration) (index : ℕ) where
  -- an event is that of a change
  pub change_there : IsSome (event_of program config index)
      → (change : Change) × (change_of program config index ≡ Some change)
  unfolding event_of
  change_there has = by (change_of program config index) refl has
    where
      by : (found : Option Change) → change_of program config index ≡ found
          → IsSome (option_map (step_by config index) found)
          → (change : Change) × (change_of program config index ≡ Some change)
      by None is has = absurd cc
      by (Some change) is has = (change, is)

  -- the change with the output of the input is that of the event
  pub same_change : IsSome (event_of program config index) → (results : Results)
      → ((input : Input) → input_of program config index ≡ Some input → results ≡ output_of program input)
      → change_by program config index results ≡ change_of program config index
  unfolding change_of
  same_change has results is_output =
      by (input_of program config index) refl (change_there has).1
    where
      by : (input : Option Input) → input_of program config index ≡ input
          → option_and_then (λ (one : Input). change_by program config index (output_of program one)) input
          ≡ Some (change_there has).0
          → change_by program config index results
          ≡ option_and_then (λ (one : Input). change_by program config index (output_of program one)) input
      by None found is = absurd cc
      by (Some input) found is = ap (change_by program config index) (is_output input found)

  -- the plan of an event stands for the change of it
  pub planned_change : IsSome (event_of program config index) → (results : Results)
      → ((input : Input) → input_of program config index ≡ Some input → results ≡ output_of program input)
      → (names : List Name) (plan : Plan)
      → plan_change names config index plan ≡ change_by program config index results
      → (change : Change) × (change_of program config index ≡ Some change)
      × (plan_change names config index plan ≡ Some change)
  planned_change has results is_output names plan is =
      let there = change_there has in
      (there.0, there.1, is ∙ (same_change has results is_output ∙ there.1))

  module _ (change : Change) (is : change_of program config index ≡ Some change) where
    -- the event of a change
    event_by : event_of program config index ≡ Some (step_by config index change)
    unfolding event_of
    event_by = ap (option_map (step_by config index)) is

    -- an event leads to the configuration after its change
    pub after_event : (step : Step) → event_of program config index ≡ Some step
        → configuration_after config index change ≡ step.config
    after_event step found = ap (λ (one : Step). one.config) (same_Some _ _ (sym event_by ∙ found))

    -- it prints the lines of its change
    pub lines_of_event : (step : Step) → event_of program config index ≡ Some step → change.lines ≡ step.lines
    lines_of_event step found = ap (λ (one : Step). one.lines) (same_Some _ _ (sym event_by ∙ found))

    -- the configuration after a change is well-formed
    pub formed_after : IsWellFormed config → IsWellFormed (configuration_after config index change)
    formed_after formed = event-formed program config index (step_by config index change) formed event_by

    -- the configuration after a change is of the program
    pub known_after : IsWhole program.source → IsConfigOf program config
        → IsConfigOf program (configuration_after config index change)
    known_after whole known =
        event_keeps_program program config index (step_by config index change) whole known event_by
