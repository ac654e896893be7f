-- An event whose plan needs room may take memory.
--
--   `Grows`, `grows_by_plan`   a change that needs room, and the change of a plan that does
--   `memory_by_rule`           a rule that needs room is that of a statement that may take memory
--   `memory_by_plan`           so the event of a plan that needs room may take memory
--   `memory_by_output`         so may one whose change with an output may
use Rattle.std.proofs.Common.{◌≡◌, ◌≢◌, ◌≤◌, ℕ, suc, true, List, [], length, slice_get, Option, Some, None, IsSome, option_map, Result, Ok, Err, OnErr, refl, sym, ap, ◌∙◌, subst, arith}
use Rattle.std.proofs.lemmas.Option.{same_Some}
use Rattle.abs_program.specs.Control.{Point}
use Rattle.abs_program.specs.Instructions.{EffectTree, effect_of}
use Rattle.abs_tree.specs.Syntax.{Name, ProgramTree}
use Rattle.abs_values.specs.ValueTrees.{ValueTree, NullValue}
use Rattle.config_state.specs.Configurations.{FrameState, TaskState, Configuration}
use Rattle.config_state.specs.Views.{object_state, task_state}
use Rattle.config_state.specs.declared.frame.Target.{Target}
use Rattle.config_state.specs.declared.frame.Target.TheVariants.{Nothing}
use Rattle.step_rules.proofs.EventPlanLemmas.{HasParts, plan_parts}
use Rattle.step_rules.proofs.RuleLemmas.{rule_of}
use Rattle.step_rules.specs.Changes.{Change, plain_change}
use Rattle.step_rules.specs.Events.{change_of}
use Rattle.step_rules.specs.Lookups.{Runner, successor}
use Rattle.step_rules.specs.Memory.{MayTakeMemory, takes_memory}
use Rattle.step_rules.specs.ObjectRules.{goes_on}
use Rattle.step_rules.specs.Plans.{NeedsRoom, ForCog, ForObject, ForTask, ForLine, ForFrame, plan_change, plan_lines}
use Rattle.step_rules.specs.RuleParts.{IsRunner, IsRunningAt}
use Rattle.step_rules.specs.Rules.{Rule, Taken, Faulted, Skipped, Stored, Cleared, Chosen, Printed, Made, Called, Pushed, Got, Passed, Released, Suspended, Gave, Popped}
use Rattle.step_rules.specs.Targets.{target_of}
use Rattle.step_rules.specs.declared.kind.Did.{Did}
use Rattle.step_rules.specs.declared.kind.Did.TheVariants as did
use Rattle.step_rules.specs.declared.plan.Plan.{Plan}
use Rattle.list_facts.proofs.OptionLemmas.{IsSome-not_none, IsSome-mapped}

-- The change of this task needs room: for what it makes, for what it prints, or for a frame.
data Grows (task : TaskState) (change : Change) : Type 0 where
  MakesCog : change.cog ≢ None → Grows task change
  MakesObject : change.object ≢ None → Grows task change
  MakesTask : change.new ≢ None → Grows task change
  PrintsLine : change.lines ≢ [] → Grows task change
  PushesFrame : length change.task.frames ≡ suc (length task.frames) → Grows task change

-- The change of this task makes and prints nothing, and pushes no frame.
record IsSmall (task : TaskState) (change : Change) : Type 0 where
  no_cog : change.cog ≡ None
  no_object : change.object ≡ None
  no_task : change.new ≡ None
  no_line : change.lines ≡ []
  no_frame : length change.task.frames ≤ length task.frames

-- such a change needs no room
not_both : (task : TaskState) (change : Change) → IsSmall task change → Grows task change → ⊥
not_both task change small (MakesCog makes) = makes small.no_cog
not_both task change small (MakesObject makes) = makes small.no_object
not_both task change small (MakesTask makes) = makes small.no_task
not_both task change small (PrintsLine prints) = prints small.no_line
not_both task change small (PushesFrame pushes) = omega (arith, small.no_frame, pushes)

-- a plan with a line prints it
line_seen : (plan : Plan) (line : Option (List ℕ)) → plan.line ≡ line → IsSome line → plan_lines plan ≢ []
line_seen plan None is some same = absurd cc
line_seen plan (Some line) is some same = absurd cc

-- the change of a plan that needs room does so too
grows_by_plan : (names : List Name) (task : TaskState) (plan : Plan) (change : Change)
    → HasParts names task.frames plan change → NeedsRoom plan → Grows task change
grows_by_plan names task plan change parts (ForCog some) =
    MakesCog (λ same. IsSome-not_none plan.cog some (parts.cog_is ∙ same))
grows_by_plan names task plan change parts (ForObject some) =
    MakesObject (λ same. IsSome-mapped plan.object (object_state names) some (parts.object_is ∙ same))
grows_by_plan names task plan change parts (ForTask some) =
    MakesTask (λ same. IsSome-mapped plan.task (task_state names) some (parts.new_is ∙ same))
grows_by_plan names task plan change parts (ForLine some) =
    PrintsLine (λ same. line_seen plan plan.line refl some (parts.turned.lines_are ∙ same))
grows_by_plan names task plan change parts (ForFrame frame next is) =
    PushesFrame (parts.turned.pushes frame next is)

module _ (program : ProgramTree) (config : Configuration) (index : ℕ) (change : Change) (task : TaskState)
    (there : slice_get config.tasks index ≡ Some task) (grows : Grows task change) where
  -- the event at a statement that may take memory, if the task has no result after it
  memory_at : (at : Runner) (point : Point) (values : List ValueTree) → at.index ≡ index
      → IsRunningAt program config at point values → takes_memory (Some (effect_of point.statement)) ≡ true
      → change.task.outcome ≡ None → MayTakeMemory program config index (Some change)
  memory_at at point values same is takes still = record {
    task = at.task;
    there = ap (slice_get config.tasks) (sym same) ∙ is.runner.there;
    runs = is.runner.runs;
    frame = at.frame;
    innermost = ap (λ (frames : List FrameState). slice_get frames 0) is.runner.frames_are;
    takes = ap (λ (found : Option Point). takes_memory (option_map (λ (one : Point). effect_of one.statement) found))
        is.point_there ∙ takes;
    no_fault = λ other found cause fails.
        let ended = ap (λ (one : Change). one.task.outcome) (same_Some _ _ found) in
        absurd (cc (ended, still, fails));
  }

  -- a change that needs room is not small
  not_small : (before : TaskState) → slice_get config.tasks index ≡ Some before → (made : Change) → change ≡ made
      → IsSmall before made → MayTakeMemory program config index (Some change)
  not_small before found made is small = absurd (not_both task change
      (subst (λ (one : TaskState). IsSmall one change) (same_Some _ _ (sym found ∙ there))
      (subst (IsSmall before) (sym is) small)) grows)

  -- the task that moves is there
  runner_there : (at : Runner) → at.index ≡ index → IsRunner config at
      → slice_get config.tasks index ≡ Some at.task
  runner_there at same runner = ap (slice_get config.tasks) (sym same) ∙ runner.there

  -- the change of a task that goes on is small, if it prints nothing
  went : (at : Runner) → at.index ≡ index → IsRunner config at → (target : Target) (value : ValueTree)
      (next : Option ℕ) (frame : FrameState) (others : List FrameState) (kind : Did)
      → suc (length others) ≤ length at.task.frames
      → change ≡ goes_on config index at.task target value next frame others [] kind
      → MayTakeMemory program config index (Some change)
  went at same runner target value next frame others kind few is =
      not_small at.task (runner_there at same runner) _ is (record {
        no_cog = refl;
        no_object = refl;
        no_task = refl;
        no_line = refl;
        no_frame = few;
      })

  -- the same in its innermost frame
  went_on : (at : Runner) → at.index ≡ index → IsRunner config at → (target : Target) (value : ValueTree)
      (next : Option ℕ) → change ≡ goes_on config index at.task target value next at.frame at.others [] did.Went
      → MayTakeMemory program config index (Some change)
  went_on at same runner target value next is =
      went at same runner target value next at.frame at.others did.Went
      (omega (arith, ap length runner.frames_are)) is

  -- a change that only moves a task is small, if no frame is pushed
  moved : (before : TaskState) → slice_get config.tasks index ≡ Some before → (after : TaskState)
      (holder : Option ℕ) (kind : Did) → length after.frames ≤ length before.frames
      → change ≡ plain_change after holder kind → MayTakeMemory program config index (Some change)
  moved before found after holder kind few is = not_small before found _ is (record {
    no_cog = refl;
    no_object = refl;
    no_task = refl;
    no_line = refl;
    no_frame = few;
  })

  -- the rule of a change that needs room is that of a statement that may take memory
  memory_by_rule : Rule program config index change → MayTakeMemory program config index (Some change)
  memory_by_rule (Taken before cog found still can cog_there free is) = moved before found _ _ _ (omega arith) is
  memory_by_rule (Faulted at cause same runner why is) =
      moved at.task (runner_there at same runner) _ _ _ (omega arith) is
  memory_by_rule (Skipped at point values same is_at effect is) =
      went_on at same is_at.runner Nothing NullValue (successor point.goes true) is
  memory_by_rule (Stored at point target value same is_at effect is) =
      went_on at same is_at.runner (target_of target) value (successor point.goes true) is
  memory_by_rule (Cleared at point values target same is_at effect is) =
      went_on at same is_at.runner (target_of (Some target)) NullValue (successor point.goes true) is
  memory_by_rule (Chosen at point value answer same is_at effect truth is) =
      went_on at same is_at.runner Nothing NullValue (successor point.goes answer) is
  memory_by_rule (Printed at point string same is_at effect is) = memory_at at point _ same is_at
      (ap (λ (one : EffectTree). takes_memory (Some one)) effect)
      (ap (λ (one : Change). one.task.outcome) is ∙ is_at.runner.open_still)
  memory_by_rule (Made at point values made class target entry same is_at effect taking is) =
      memory_at at point _ same is_at (ap (λ (one : EffectTree). takes_memory (Some one)) effect)
      (ap (λ (one : Change). one.task.outcome) is ∙ is_at.runner.open_still)
  memory_by_rule (Called at point object cell arguments method target body same is_at effect cell_there callable is) =
      memory_at at point _ same is_at (ap (λ (one : EffectTree). takes_memory (Some one)) effect)
      (ap (λ (one : Change). one.task.outcome) is ∙ is_at.runner.open_still)
  memory_by_rule (Pushed at point object arguments method target body same is_at effect object_there callable is) =
      memory_at at point _ same is_at (ap (λ (one : EffectTree). takes_memory (Some one)) effect)
      (ap (λ (one : Change). one.task.outcome) is ∙ is_at.runner.open_still)
  memory_by_rule (Got at point values slot target future given value same is_at effect named given_there outcome is) =
      went_on at same is_at.runner (target_of target) value (successor point.goes true) is
  memory_by_rule (Passed at point values names same is_at effect resolved is) =
      went_on at same is_at.runner Nothing NullValue (successor point.goes true) is
  memory_by_rule (Released at point values names same is_at effect unresolved is) =
      moved at.task (runner_there at same is_at.runner) _ _ _ (omega arith) is
  memory_by_rule (Suspended at point values same is_at effect is) =
      moved at.task (runner_there at same is_at.runner) _ _ _
      (omega (arith, ap length is_at.runner.frames_are)) is
  memory_by_rule (Gave at value same runner outermost is_value is) =
      moved at.task (runner_there at same runner) _ _ _ (omega arith) is
  memory_by_rule (Popped at below rest value same runner others_are is_value is) =
      went at same runner at.frame.target value below.next below rest did.Went
      (omega (arith, ap length runner.frames_are, ap length others_are)) is

-- the event of a plan that needs room may take memory
pub memory_by_plan : (names : List Name) (program : ProgramTree) (config : Configuration) (index : ℕ) (plan : Plan)
    (change : Change) → change_of program config index ≡ Some change
    → plan_change names config index plan ≡ Some change → NeedsRoom plan
    → MayTakeMemory program config index (change_of program config index)
memory_by_plan names program config index plan change is planned needs =
    let parts = plan_parts names config index plan change planned in
    subst (MayTakeMemory program config index) (sym is) (memory_by_rule program config index change parts.0 parts.1
    (grows_by_plan names parts.0 plan change parts.2 needs) (rule_of program config index change is))

-- so may one whose change with the output may
pub memory_by_output : (program : ProgramTree) (config : Configuration) (index : ℕ) (found : Option Change)
    {T E : Type 0} (result : Result T E) → found ≡ change_of program config index
    → MayTakeMemory program config index found
    → OnErr result (MayTakeMemory program config index (change_of program config index))
memory_by_output program config index found (Ok value) is takes = tt
memory_by_output program config index found (Err error) is takes = subst (MayTakeMemory program config index) is takes
