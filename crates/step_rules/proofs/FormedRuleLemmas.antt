-- Each event leaves a well-formed configuration well-formed, rule by rule.
--
--   `frame-formed`, `others-formed`    the frames of a task that runs
--   `output-there`, `value_of-there`   the values of a statement, and the value with which a frame ends
--   `steps-formed`, ..                 the rules
--   `event-formed`                     an event keeps a configuration well-formed
use Rattle.std.proofs.Common.{◌≡◌, ◌<◌, ℕ, suc, true, List, [], ◌∷◌, length, slice_get, Option, Some, None, refl, sym, subst}
use Rattle.std.proofs.lemmas.Option.{same_Some, slice_get_within}
use Rattle.abs_program.specs.Bodies.{ClassEntryTree}
use Rattle.abs_program.specs.Control.{Point}
use Rattle.abs_program.specs.Instructions.{expr_trees_of, effect_of}
use Rattle.abs_values.specs.Results.{Gives, Fails}
use Rattle.abs_tree.specs.Syntax.{Name, VariableTree, ProgramTree}
use Rattle.abs_values.specs.ValueTrees.{ValueTree, NullValue, ObjectValue, FutureValue}
use Rattle.abs_values.specs.declared.evaluated.Fault.{Fault}
use Rattle.abs_tree.specs.declared.syntax.statement.Mode.{Mode}
use Rattle.config_state.proofs.EachLemmas.{Each-more}
use Rattle.config_state.proofs.FirstLemmas.{null-there}
use Rattle.abs_program.specs.ProgramBodies.{BodyAt, entry_of_body}
use Rattle.config_state.specs.Configurations.{ObjectState, FrameState, Configuration, Each, object_at, fields_of}
use Rattle.config_state.specs.First.{frame_for}
use Rattle.config_state.specs.WellFormed.{ValueIsThere, AreThere, IsObjectFormed, IsFrameFormed, IsTaskFormed, IsWellFormed}
use Rattle.config_state.specs.declared.frame.Target.{Target}
use Rattle.config_state.specs.declared.frame.Target.TheVariants.{Nothing}
use Rattle.config_state.specs.declared.task.State.TheVariants.{Ready, Awaiting}
use Rattle.step_rules.proofs.AfterLemmas.{cogs-grow, objects-grow, values-stay, formed_frames-stay, cog-new, object-new, task-new}
use Rattle.step_rules.proofs.FormedChangeLemmas.{takes-formed, rests-formed, ends-formed, keeps-formed, puts-formed, goes_on-formed}
use Rattle.step_rules.proofs.FormedPartLemmas.{unit-there, future-there, frame_for-formed, task_for-formed, run_task-formed, home-there, cog_for-made}
use Rattle.step_rules.proofs.OutputLemmas.{fields-there, object_value-there, outputs-there}
use Rattle.step_rules.proofs.RuleLemmas.{rule_of}
use Rattle.step_rules.proofs.StayLemmas.{event_change}
use Rattle.step_rules.specs.Changes.{Change, plain_change, kept_change, ended_change, configuration_after}
use Rattle.step_rules.specs.Events.{Step, event_of}
use Rattle.step_rules.specs.Inputs.{initials_for}
use Rattle.step_rules.specs.Lookups.{Runner, successor, place_of}
use Rattle.step_rules.specs.ObjectRules.{goes_on, new_with, call_with}
use Rattle.step_rules.specs.Rules.{Rule, Taken, Faulted, Skipped, Stored, Cleared, Chosen, Printed, Made, Called, Pushed, Got, Passed, Released, Suspended, Gave, Popped}
use Rattle.step_rules.specs.WaitRules.{suspend_rule}
use Rattle.step_rules.specs.Targets.{FramesAndFields, target_of}
use Rattle.step_rules.specs.RuleParts.{IsRunner, IsRunningAt, IsValueOf, AtEnd, ByReturn}
use Rattle.step_rules.specs.NewEntries.{task_for, cog_for, home_of, run_task}
use Rattle.step_rules.specs.declared.kind.Did.{Did}
use Rattle.step_rules.specs.declared.kind.Did.TheVariants as did

module _ (program : ProgramTree) (config : Configuration) (formed : IsWellFormed config) (at : Runner)
    (runner : IsRunner config at) where
  -- the frames of the task are formed
  all_frames-formed : Each (at.frame ∷ at.others) (λ depth frame. IsFrameFormed config frame)
  all_frames-formed = subst (λ (frames : List FrameState). Each frames (λ depth frame. IsFrameFormed config frame))
      runner.frames_are (formed.tasks_formed at.index at.task runner.there).frames_formed

  -- its innermost frame
  frame-formed : IsFrameFormed config at.frame
  frame-formed = all_frames-formed 0 at.frame refl

  -- its other frames
  others-formed : Each at.others (λ depth frame. IsFrameFormed config frame)
  others-formed depth = all_frames-formed (suc depth)

  -- its frames, after its innermost one went on
  next_frames-formed : (next : Option ℕ)
      → Each (record at.frame { next = next } ∷ at.others) (λ depth frame. IsFrameFormed config frame)
  next_frames-formed next = Each-more _ (record at.frame { next = next }) at.others (record {
    object_there = frame-formed.object_there;
    slots_there = frame-formed.slots_there;
  }) others-formed

  -- the values of the next statement are there
  output-there : (point : Point) (values : List ValueTree) → IsRunningAt program config at point values
      → AreThere config values
  output-there point values is_at = outputs-there config formed program at.frame (expr_trees_of point.statement)
      (initials_for program (effect_of point.statement)) values frame-formed is_at.gives

  -- the value with which the frame ends is there
  value_of-there : (value : ValueTree) → IsValueOf program config at value → ValueIsThere config value
  value_of-there value (AtEnd ends is) = subst (ValueIsThere config) (sym is) (unit-there config program.names)
  value_of-there value (ByReturn point is_at returns) = output-there point (value ∷ []) is_at 0 value refl

  -- the innermost frame goes on, and a value that is there goes to its target
  steps-formed : (target : Target) (value : ValueTree) (next : Option ℕ) (lines : List (List ℕ)) (kind : Did)
      → ValueIsThere config value → IsWellFormed (configuration_after config at.index
      (goes_on config at.index at.task target value next at.frame at.others lines kind))
  steps-formed target value next lines kind there =
      goes_on-formed config at.index at.task formed runner.there runner.open_still runner.runs target value next
      at.frame at.others lines kind frame-formed others-formed there

  -- the innermost frame goes on
  advances-formed : (next : Option ℕ) (lines : List (List ℕ)) (kind : Did)
      → IsWellFormed (configuration_after config at.index
      (goes_on config at.index at.task Nothing NullValue next at.frame at.others lines kind))
  advances-formed next lines kind = steps-formed Nothing NullValue next lines kind (null-there config)

  -- the innermost frame ends, and its value goes to the frame below
  pops-formed : (below : FrameState) (rest : List FrameState) (value : ValueTree) → at.others ≡ below ∷ rest
      → ValueIsThere config value → IsWellFormed (configuration_after config at.index
      (goes_on config at.index at.task at.frame.target value below.next below rest [] did.Went))
  pops-formed below rest value others_are there =
      let each = subst (λ (frames : List FrameState). Each frames (λ depth frame. IsFrameFormed config frame))
      others_are others-formed in
      goes_on-formed config at.index at.task formed runner.there runner.open_still runner.runs at.frame.target value
      below.next below rest [] did.Went (each 0 below refl) (λ depth. each (suc depth)) there

  -- the task waits at an `await`
  waits-formed : IsWellFormed (configuration_after config at.index
      (plain_change (record at.task { state = Awaiting }) None did.Released))
  waits-formed =
      let old = formed.tasks_formed at.index at.task runner.there in
      rests-formed config at.index at.task formed runner.there runner.open_still runner.runs
      (record at.task { state = Awaiting }) did.Released refl refl runner.open_still (λ runs. absurd cc)
      (old.unfinished runner.open_still) old.frames_formed

  -- the task is ready after a `suspend`
  suspends-formed : (next : Option ℕ) → IsWellFormed (configuration_after config at.index (suspend_rule at next))
  suspends-formed next =
      rests-formed config at.index at.task formed runner.there runner.open_still runner.runs
      (record at.task { frames = record at.frame { next = next } ∷ at.others; state = Ready }) did.Released refl refl
      runner.open_still (λ runs. absurd cc) (λ none. absurd cc)
      (next_frames-formed next)

  -- what an own call leaves: the frame of the method before the frame that goes on
  abbrev pushed : Name → Option VariableTree → Option ℕ → List ValueTree → BodyAt → FramesAndFields
  pushed method target next arguments body = record {
    frames = frame_for (entry_of_body body) (Some method) at.frame.object arguments (target_of target)
        ∷ record at.frame { next = next } ∷ at.others;
    fields = fields_of (object_at config at.frame.object);
  }

  -- an own call
  pushes-formed : (method : Name) (target : Option VariableTree) (next : Option ℕ) (arguments : List ValueTree)
      (body : BodyAt) → AreThere config arguments → IsWellFormed (configuration_after config at.index
      (kept_change at.index at.task at.frame.object (pushed method target next arguments body) [] did.Called))
  pushes-formed method target next arguments body there =
      let own = pushed method target next arguments body in
      let change = kept_change at.index at.task at.frame.object own [] did.Called in
      keeps-formed config at.index at.task formed runner.there runner.open_still runner.runs at.frame.object own []
      did.Called None None None (λ none. absurd cc)
      (formed_frames-stay config at.index change own.frames
      (Each-more _
      (frame_for (entry_of_body body) (Some method) at.frame.object arguments (target_of target))
      (record at.frame { next = next } ∷ at.others)
      (frame_for-formed config (entry_of_body body) (Some method) at.frame.object arguments (target_of target)
      frame-formed.object_there there)
      (next_frames-formed next)))
      (values-stay config at.index change own.fields (fields-there config formed at.frame.object))
      (λ entry has. absurd cc) (λ entry has. absurd cc) (λ entry has. absurd cc)

  -- a `new`
  makes-formed : (place : ℕ) (next : Option ℕ) (made : Mode) (class : Name) (target : Option VariableTree)
      (values : List ValueTree) (entry : ClassEntryTree) → AreThere config values
      → IsWellFormed (configuration_after config at.index
      (new_with program config at place next made class target values (Some entry)))
  makes-formed place next made class target values entry there =
      let change = new_with program config at place next made class target values (Some entry) in
      let after = configuration_after config at.index change in
      let home = home_of made config at.task.cog in
      let object : ObjectState = record { cog = home; place = place; class = class; fields = values } in
      let new = run_task program home (length config.objects) class entry.run in
      let home_within : home < length after.cogs = home-there made config at.task.cog place after
      (cogs-grow config at.index change at.task.cog (formed.tasks_formed at.index at.task runner.there).cog_there)
      (λ one is. slice_get_within after.cogs (length config.cogs) one (cog-new config at.index change one is)) in
      let object_within : length config.objects < length after.objects =
      slice_get_within after.objects (length config.objects) object
      (object-new config at.index change object refl) in
      puts-formed config at.index at.task formed runner.there runner.open_still runner.runs (target_of target)
      (ObjectValue (length config.objects)) next at.frame at.others [] did.Made (cog_for made at.task.cog place)
      (Some object) new frame-formed others-formed
      (object_value-there after (length config.objects) object_within)
      (cog_for-made made at.task.cog place)
      (λ one is. subst (IsObjectFormed after) (same_Some object one is) (record {
        cog_there = home_within;
        fields_there = values-stay config at.index change values there;
      }))
      (λ one is position. run_task-formed after program home (length config.objects) class entry.run position one
      home_within object_within is)

  -- a call
  calls-formed : (place : ℕ) (next : Option ℕ) (object : ℕ) (cell : ObjectState) (method : Name)
      (target : Option VariableTree) (arguments : List ValueTree) (body : BodyAt)
      → slice_get config.objects object ≡ Some cell → AreThere config arguments
      → IsWellFormed (configuration_after config at.index
      (call_with config at place next object cell method target arguments (Some body)))
  calls-formed place next object cell method target arguments body is there =
      let change = call_with config at place next object cell method target arguments (Some body) in
      let after = configuration_after config at.index change in
      let new = task_for body cell.cog object method (Some place) arguments in
      puts-formed config at.index at.task formed runner.there runner.open_still runner.runs (target_of target)
      (FutureValue (length config.tasks)) next at.frame at.others [] did.Called None None (Some new) frame-formed
      others-formed
      (future-there after (length config.tasks)
      (slice_get_within after.tasks (length config.tasks) new (task-new config at.index change new refl)))
      (λ one has. absurd cc) (λ one has. absurd cc)
      (λ one has position. subst (IsTaskFormed after position) (same_Some new one has)
      (task_for-formed after position body cell.cog object method (Some place) arguments
      (cogs-grow config at.index change cell.cog (formed.objects_formed object cell is).cog_there)
      (objects-grow config at.index change object (slice_get_within config.objects object cell is))
      (values-stay config at.index change arguments there)))

  -- the task ends with a fault
  fails-formed : (cause : Fault) → IsWellFormed (configuration_after config at.index
      (ended_change at.task (Fails cause)))
  fails-formed cause = ends-formed config at.index at.task formed runner.there runner.open_still runner.runs
      (Fails cause) tt

  -- the task ends with the value of its outermost frame
  gives-formed : (value : ValueTree) → ValueIsThere config value → IsWellFormed (configuration_after config at.index
      (ended_change at.task (Gives value)))
  gives-formed value there = ends-formed config at.index at.task formed runner.there runner.open_still runner.runs
      (Gives value) there

-- the change of each rule leaves the configuration well-formed
rule-formed : (program : ProgramTree) (config : Configuration) (index : ℕ) (change : Change) → IsWellFormed config
    → Rule program config index change → IsWellFormed (configuration_after config index change)
rule-formed program config index change formed (Taken task cog there open_still can cog_there free is) =
    rw is (takes-formed config index task formed there open_still cog cog_there free)
rule-formed program config index change formed (Faulted at cause same runner why is) =
    rw (is, ← same) (fails-formed program config formed at runner cause)
rule-formed program config index change formed (Skipped at point values same is_at effect is) =
    rw (is, ← same) (advances-formed program config formed at is_at.runner (successor point.goes true) [] did.Went)
rule-formed program config index change formed (Stored at point target value same is_at effect is) =
    rw (is, ← same) (steps-formed program config formed at is_at.runner (target_of target) value
    (successor point.goes true) [] did.Went
    (output-there program config formed at is_at.runner point (value ∷ []) is_at 0 value refl))
rule-formed program config index change formed (Cleared at point values target same is_at effect is) =
    rw (is, ← same) (steps-formed program config formed at is_at.runner (target_of (Some target)) NullValue
    (successor point.goes true) [] did.Went (null-there config))
rule-formed program config index change formed (Chosen at point value answer same is_at effect truth is) =
    rw (is, ← same) (advances-formed program config formed at is_at.runner (successor point.goes answer) [] did.Went)
rule-formed program config index change formed (Printed at point string same is_at effect is) =
    rw (is, ← same) (advances-formed program config formed at is_at.runner (successor point.goes true) (string ∷ [])
    did.Printed)
rule-formed program config index change formed
    (Made at point values made class target entry same is_at effect taking is) =
    rw (is, ← same) (makes-formed program config formed at is_at.runner (place_of point) (successor point.goes true)
    made class target values entry (output-there program config formed at is_at.runner point values is_at))
rule-formed program config index change formed
    (Called at point object cell arguments method target body same is_at effect cell_there callable is) =
    rw (is, ← same) (calls-formed program config formed at is_at.runner (place_of point) (successor point.goes true)
    object cell method target arguments body cell_there
    (λ place. output-there program config formed at is_at.runner point (ObjectValue object ∷ arguments) is_at
    (suc place)))
rule-formed program config index change formed
    (Pushed at point object arguments method target body same is_at effect object_there callable is) =
    rw (is, ← same) (pushes-formed program config formed at is_at.runner method target (successor point.goes true)
    arguments body (output-there program config formed at is_at.runner point arguments is_at))
rule-formed program config index change formed
    (Got at point values slot target future task value same is_at effect named task_there outcome is) =
    rw (is, ← same) (steps-formed program config formed at is_at.runner (target_of target) value
    (successor point.goes true) [] did.Went ((formed.tasks_formed future task task_there).result_there value outcome))
rule-formed program config index change formed (Passed at point values names same is_at effect resolved is) =
    rw (is, ← same) (advances-formed program config formed at is_at.runner (successor point.goes true) [] did.Went)
rule-formed program config index change formed (Released at point values names same is_at effect unresolved is) =
    rw (is, ← same) (waits-formed program config formed at is_at.runner)
rule-formed program config index change formed (Suspended at point values same is_at effect is) =
    rw (is, ← same) (suspends-formed program config formed at is_at.runner (successor point.goes true))
rule-formed program config index change formed (Gave at value same runner outermost is_value is) =
    rw (is, ← same) (gives-formed program config formed at runner value
    (value_of-there program config formed at runner value is_value))
rule-formed program config index change formed (Popped at below rest value same runner others_are is_value is) =
    rw (is, ← same) (pops-formed program config formed at runner below rest value others_are
    (value_of-there program config formed at runner value is_value))

-- an event keeps a configuration well-formed
pub event-formed : (program : ProgramTree) (config : Configuration) (index : ℕ) (step : Step)
    → IsWellFormed config → event_of program config index ≡ Some step → IsWellFormed step.config
event-formed program config index step formed is =
    let event = event_change program config index step is in
    subst (λ (one : Step). IsWellFormed one.config) (sym event.2)
    (rule-formed program config index event.0 formed (rule_of program config index event.0 event.1))
