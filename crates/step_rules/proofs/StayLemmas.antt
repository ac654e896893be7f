-- What an event leaves as it was.
--
--   `stays_by`                     a change of a task leaves the rest
--   `rule_stays`, `change_stays`   so does a rule, and so does an event
--   `written_is_home`              what an event writes are the fields of an object of the task's cog
--   `event_change`                 an event is the change of its task, put in place
use Rattle.std.proofs.Common.{◌≡◌, ℕ, true, List, [], ◌∷◌, length, slice_get, Option, Some, None, refl, sym, ap, ◌∙◌, subst}
use Rattle.std.proofs.lemmas.Option.{same_Some}
use Rattle.std.specs.Option.{option_map}
use Rattle.abs_values.specs.Results.{Result}
use Rattle.abs_tree.specs.Syntax.{ProgramTree}
use Rattle.abs_values.specs.ValueTrees.{ObjectValue, FutureValue}
use Rattle.config_state.specs.Configurations.{ObjectState, FrameState, TaskState, Configuration}
use Rattle.config_state.specs.declared.cog.Cog.{Cog}
use Rattle.config_state.specs.declared.task.State.{State}
use Rattle.step_rules.proofs.AfterLemmas.{written-own, task-moved, task-kept, object-there, cog-there}
use Rattle.step_rules.proofs.RuleLemmas.{rule_of}
use Rattle.step_rules.specs.Changes.{Written, Change, plain_change, kept_change, ended_change}
use Rattle.step_rules.specs.Events.{Step, step_by, change_of, event_of}
use Rattle.step_rules.specs.Homes.{IsHoused}
use Rattle.step_rules.specs.Lookups.{Runner, successor}
use Rattle.step_rules.specs.ObjectRules.{goes_on}
use Rattle.step_rules.specs.Rules.{Rule, Taken, Faulted, Skipped, Stored, Cleared, Chosen, Printed, Made, Called, Pushed, Got, Passed, Released, Suspended, Gave, Popped}
use Rattle.step_rules.specs.Stays.{IsSameTask, Stays}
use Rattle.step_rules.specs.Targets.{FramesAndFields, target_of}
use Rattle.step_rules.specs.RuleParts.{IsRunner}
use Rattle.step_rules.specs.declared.kind.Did.{Did}
use Rattle.step_rules.specs.declared.kind.Did.TheVariants as did

-- a change leaves the rest, if its task is the same one and had no result, and it writes the fields of the object of a
-- frame of it
pub stays_by : (config : Configuration) (index : ℕ) (change : Change) (task : TaskState)
    → slice_get config.tasks index ≡ Some task → task.outcome ≡ None → IsSameTask task change.task
    → ((written : Written) → change.written ≡ Some written
    → (depth : ℕ) × (frame : FrameState) × (slice_get task.frames depth ≡ Some frame)
    × (frame.object ≡ Some written.object))
    → Stays config index change
stays_by config index change task there open_still same writes = record {
  task = task;
  there = there;
  had_no_result = open_still;
  is_same = same;
  writes_own = writes;
  tasks_stay = λ other before is differs. task-kept config index change other before differs is;
  moves = task-moved config index change task there;
  objects_stay = λ other before is.
      let after = object-there config index change other before is in (after.0, after.1, after.2);
  cogs_stay = λ other before is.
      let after = cog-there config index change other before is in
      (after.0, after.1, after.2, after.3, λ differs. after.4 (λ at. differs (at ∙ same.cog)));
}

-- a change that leaves the rest does so too if it makes something
making_stays : (config : Configuration) (index : ℕ) (kept : Change) (cog : Option Cog) (object : Option ObjectState)
    (new : Option TaskState) → Stays config index kept
    → Stays config index (record kept { cog = cog; object = object; new = new })
making_stays config index kept cog object new stays =
    stays_by config index (record kept { cog = cog; object = object; new = new }) stays.task stays.there
    stays.had_no_result stays.is_same stays.writes_own

module _ (config : Configuration) (index : ℕ) (at : Runner) (at_index : at.index ≡ index)
    (runner : IsRunner config at) where
  -- the change of a task that runs, which writes the fields of the object of one of its frames
  runner_stays : (change : Change) (depth : ℕ) (frame : FrameState) (own : FramesAndFields) → IsSameTask at.task change.task
      → slice_get at.task.frames depth ≡ Some frame
      → change.written ≡ option_map (λ at. record { object = at; fields = own.fields }) frame.object
      → Stays config index change
  runner_stays change depth frame own same frame_there writes =
      stays_by config index change at.task (ap (slice_get config.tasks) (sym at_index) ∙ runner.there)
      runner.open_still same
      (λ written is. (
        depth,
        frame,
        frame_there,
        (written-own frame.object own.fields written (sym writes ∙ is)).0,
      ))

  -- the change of a task that runs, which writes nothing
  idle_stays : (change : Change) → IsSameTask at.task change.task → change.written ≡ None → Stays config index change
  idle_stays change same writes =
      stays_by config index change at.task (ap (slice_get config.tasks) (sym at_index) ∙ runner.there)
      runner.open_still same (λ written is. absurd (cc (writes, is)))

  -- the task ends
  ended_stays : (result : Result) → Stays config index (ended_change at.task result)
  ended_stays result =
      idle_stays (ended_change at.task result) (record { cog = refl; object = refl; method = refl; call = refl }) refl

  -- the task goes on in its innermost frame
  kept_stays : (holder : ℕ) (own : FramesAndFields) (lines : List (List ℕ)) (kind : Did)
      → Stays config index (kept_change holder at.task at.frame.object own lines kind)
  kept_stays holder own lines kind = runner_stays (kept_change holder at.task at.frame.object own lines kind) 0 at.frame
      own (record { cog = refl; object = refl; method = refl; call = refl })
      (ap (λ (frames : List FrameState). slice_get frames 0) runner.frames_are) refl

  -- the task goes on in the frame below
  popped_stays : (below : FrameState) (rest : List FrameState) (own : FramesAndFields) (lines : List (List ℕ)) (kind : Did)
      → at.others ≡ below ∷ rest → Stays config index (kept_change index at.task below.object own lines kind)
  popped_stays below rest own lines kind others_are =
      runner_stays (kept_change index at.task below.object own lines kind) 1 below own
      (record { cog = refl; object = refl; method = refl; call = refl })
      (ap (λ (frames : List FrameState). slice_get frames 1) runner.frames_are
      ∙ ap (λ (frames : List FrameState). slice_get frames 0) others_are) refl

  -- the task waits
  waiting_stays : (frames : List FrameState) (now : State) (kind : Did)
      → Stays config index (plain_change (record at.task { frames = frames; state = now }) None kind)
  waiting_stays frames now kind = idle_stays (plain_change (record at.task { frames = frames; state = now }) None kind)
      (record { cog = refl; object = refl; method = refl; call = refl }) refl

-- a rule leaves the rest
pub rule_stays : (program : ProgramTree) (config : Configuration) (index : ℕ) (change : Change)
    → Rule program config index change → Stays config index change
rule_stays program config index change (Taken task cog there open_still can_take cog_there free is) =
    stays_by config index change task there open_still (record {
      cog = ap (λ (one : Change). one.task.cog) is;
      object = ap (λ (one : Change). one.task.object) is;
      method = ap (λ (one : Change). one.task.method) is;
      call = ap (λ (one : Change). one.task.call) is;
    }) (λ written writes. absurd (cc (ap (λ (one : Change). one.written) is, writes)))
rule_stays program config index change (Faulted at cause same runner fault is) =
    subst (Stays config index) (sym is) (ended_stays config index at same runner _)
rule_stays program config index change (Skipped at point values same is_at effect is) =
    subst (Stays config index) (sym is) (kept_stays config index at same is_at.runner _ _ _ _)
rule_stays program config index change (Stored at point target value same is_at effect is) =
    subst (Stays config index) (sym is) (kept_stays config index at same is_at.runner _ _ _ _)
rule_stays program config index change (Cleared at point values target same is_at effect is) =
    subst (Stays config index) (sym is) (kept_stays config index at same is_at.runner _ _ _ _)
rule_stays program config index change (Chosen at point value answer same is_at effect truth is) =
    subst (Stays config index) (sym is) (kept_stays config index at same is_at.runner _ _ _ _)
rule_stays program config index change (Printed at point string same is_at effect is) =
    subst (Stays config index) (sym is) (kept_stays config index at same is_at.runner _ _ _ _)
rule_stays program config index change (Made at point values mode class target entry same is_at effect class_there is) =
    let kept : Change = goes_on config at.index at.task (target_of target) (ObjectValue (length config.objects))
    (successor point.goes true) at.frame at.others [] did.Made in
    subst (Stays config index) (sym is)
    (making_stays config index kept _ _ _ (kept_stays config index at same is_at.runner _ _ _ _))
rule_stays program config index change
    (Called at point object cell arguments method target body same is_at effect cell_there can_call is) =
    let kept : Change = goes_on config at.index at.task (target_of target) (FutureValue (length config.tasks))
    (successor point.goes true) at.frame at.others [] did.Called in
    subst (Stays config index) (sym is)
    (making_stays config index kept _ _ _ (kept_stays config index at same is_at.runner _ _ _ _))
rule_stays program config index change
    (Pushed at point object arguments method target body same is_at effect object_there can_call is) =
    subst (Stays config index) (sym is) (kept_stays config index at same is_at.runner _ _ _ _)
rule_stays program config index change
    (Got at point values slot target future task value same is_at effect holds task_there gives is) =
    subst (Stays config index) (sym is) (kept_stays config index at same is_at.runner _ _ _ _)
rule_stays program config index change (Passed at point values names same is_at effect resolved is) =
    subst (Stays config index) (sym is) (kept_stays config index at same is_at.runner _ _ _ _)
rule_stays program config index change (Released at point values names same is_at effect unresolved is) =
    subst (Stays config index) (sym is) (waiting_stays config index at same is_at.runner _ _ _)
rule_stays program config index change (Suspended at point values same is_at effect is) =
    subst (Stays config index) (sym is) (waiting_stays config index at same is_at.runner _ _ _)
rule_stays program config index change (Gave at value same runner others_are value_of is) =
    subst (Stays config index) (sym is) (ended_stays config index at same runner _)
rule_stays program config index change (Popped at below rest value same runner others_are value_of is) =
    subst (Stays config index) (sym is) (popped_stays config index at same runner below rest _ _ _ others_are)

-- an event leaves the rest
pub change_stays : (program : ProgramTree) (config : Configuration) (index : ℕ) (change : Change)
    → change_of program config index ≡ Some change → Stays config index change
change_stays program config index change is =
    rule_stays program config index change (rule_of program config index change is)

-- what an event writes are the fields of an object of the task's cog, where tasks are housed
pub written_is_home : (program : ProgramTree) (config : Configuration) (index : ℕ) (change : Change) (written : Written)
    → IsHoused program config → change_of program config index ≡ Some change → change.written ≡ Some written
    → (object : ObjectState) × (slice_get config.objects written.object ≡ Some object)
    × (object.cog ≡ change.task.cog)
written_is_home program config index change written housed is writes =
    let stays = change_stays program config index change is in
    let own = stays.writes_own written writes in
    let home = (housed.tasks_housed index stays.task stays.there).frames own.0 own.1 own.2 written.object own.3 in
    (home.0, home.1, home.2 ∙ sym stays.is_same.cog)

-- an event is the change of its task, put in place
pub event_change : (program : ProgramTree) (config : Configuration) (index : ℕ) (step : Step)
    → event_of program config index ≡ Some step
    → (change : Change) × (change_of program config index ≡ Some change) × (step ≡ step_by config index change)
unfolding event_of
event_change program config index step is = by_change (change_of program config index) refl is
  where
    by_change : (found : Option Change) → change_of program config index ≡ found
        → option_map (step_by config index) found ≡ Some step
        → (change : Change) × (change_of program config index ≡ Some change) × (step ≡ step_by config index change)
    by_change None found_is is = absurd cc
    by_change (Some change) found_is is = (change, found_is, sym (same_Some _ step is))
