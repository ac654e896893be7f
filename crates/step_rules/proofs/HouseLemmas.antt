-- Each event of a housed configuration leads to one: objects were made by a `new` of their class at their place, and
-- cogs by a `new cog`; tasks run on objects of their cog, and new ones execute a method.
--
--   `AreHoused`, ..                frames of a task at home
--   `Houses`, `kept_housed`        what a change has to keep, and the configuration after it
--   `rule_houses`                  every rule keeps this
--   `event_keeps_houses`           every event does
use Rattle.std.proofs.Common.{◌≡◌, ℕ, suc, true, List, [], ◌∷◌, length, slice_get, Option, Some, None, refl, sym, ap, ◌∙◌, subst, codes}
use Rattle.std.proofs.lemmas.Option.{same_Some, option_and_then_some}
use Rattle.abs_program.specs.Bodies.{ClassEntryTree}
use Rattle.abs_program.specs.Control.{Point, program_points}
use Rattle.abs_program.specs.Instructions.{Makes, effect_of}
use Rattle.abs_values.specs.Results.{Result}
use Rattle.abs_tree.specs.Syntax.{Name, VariableTree, ProgramTree}
use Rattle.abs_values.specs.ValueTrees.{ValueTree, NullValue, ObjectValue, FutureValue}
use Rattle.abs_tree.specs.declared.syntax.statement.Mode.{Mode}
use Rattle.config_state.proofs.EachLemmas.{Each-none, Each-more}
use Rattle.abs_program.specs.ProgramBodies.{BodyAt, entry_of_body}
use Rattle.config_state.specs.Configurations.{ObjectState, FrameState, TaskState, Configuration, Each, object_at, fields_of}
use Rattle.config_state.specs.First.{frame_for}
use Rattle.config_state.specs.declared.cog.Cog.{Cog}
use Rattle.config_state.specs.declared.frame.Target.{Target}
use Rattle.config_state.specs.declared.frame.Target.TheVariants.{Nothing}
use Rattle.config_state.specs.declared.task.State.TheVariants.{Ready, Running, Awaiting}
use Rattle.step_rules.proofs.AfterLemmas.{task-after, object-after, object-there, object-new}
use Rattle.step_rules.proofs.FrameLemmas.{callable_is, run_task_is}
use Rattle.step_rules.proofs.OriginLemmas.{cog_for-made_by, task_for-called, method_task-stays, cogs_made-after, tasks_called-after}
use Rattle.step_rules.proofs.RuleLemmas.{rule_of}
use Rattle.step_rules.proofs.StayLemmas.{change_stays, event_change}
use Rattle.step_rules.specs.Changes.{Change, configuration_after, plain_change, kept_change, ended_change}
use Rattle.step_rules.specs.Events.{Step, event_of}
use Rattle.step_rules.specs.Homes.{IsHome, IsMade, IsCogMade, IsTaskHoused, IsMethodTask, IsHoused}
use Rattle.step_rules.specs.Lookups.{Runner, place_of, successor, callable}
use Rattle.step_rules.specs.ObjectRules.{goes_on, new_with, call_with}
use Rattle.step_rules.specs.Rules.{Rule, Taken, Faulted, Skipped, Stored, Cleared, Chosen, Printed, Made, Called, Pushed, Got, Passed, Released, Suspended, Gave, Popped}
use Rattle.step_rules.specs.Stays.{IsSameObject, TaskAfter, Moved, Old, New, ObjectAfter, Kept, Filled, Fresh, Stays}
use Rattle.step_rules.specs.WaitRules.{suspend_rule}
use Rattle.step_rules.specs.Targets.{slots_after, target_of}
use Rattle.step_rules.specs.RuleParts.{IsRunner, IsRunningAt}
use Rattle.step_rules.specs.NewEntries.{task_for, home_of}
use Rattle.step_rules.specs.declared.kind.Did.{Did}
use Rattle.step_rules.specs.declared.kind.Did.TheVariants as did

-- The objects of frames are in this cog, and the outermost frame has this object and this method.
pub record AreHoused (config : Configuration) (cog : ℕ) (object : Option ℕ) (method : Option Name)
    (frames : List FrameState) : Type 0 where
  pub homes : Each frames (λ depth frame. IsHome config cog frame.object)
  pub outermost : Each frames (λ depth frame. slice_get frames (suc depth) ≡ None
      → (frame.object ≡ object) × (frame.method ≡ method))

-- a task is at home with such frames
pub task_housed : (config : Configuration) (task : TaskState) → IsHome config task.cog task.object
    → AreHoused config task.cog task.object task.method task.frames → IsTaskHoused config task
task_housed config task home are = record { own = home; frames = are.homes; outermost = are.outermost }

-- the frames of a task at home
frames_housed : (config : Configuration) (task : TaskState) (frames : List FrameState) → IsTaskHoused config task
    → task.frames ≡ frames → AreHoused config task.cog task.object task.method frames
frames_housed config task frames is same =
    subst (AreHoused config task.cog task.object task.method) same
    (record { homes = is.frames; outermost = is.outermost })

-- no frame
no_frames_housed : (config : Configuration) (cog : ℕ) (object : Option ℕ) (method : Option Name)
    → AreHoused config cog object method []
no_frames_housed config cog object method = record { homes = Each-none _; outermost = Each-none _ }

-- one more frame, which has this object and this method if it is the outermost one
more_frames_housed : (config : Configuration) (cog : ℕ) (object : Option ℕ) (method : Option Name) (frame : FrameState)
    (others : List FrameState) → IsHome config cog frame.object
    → (slice_get others 0 ≡ None → (frame.object ≡ object) × (frame.method ≡ method))
    → AreHoused config cog object method others → AreHoused config cog object method (frame ∷ others)
more_frames_housed config cog object method frame others home last are = record {
  homes = Each-more _ frame others home are.homes;
  outermost = Each-more (λ depth one. slice_get (frame ∷ others) (suc depth) ≡ None
      → (one.object ≡ object) × (one.method ≡ method)) frame others last are.outermost;
}

-- one frame
pub one_frame_housed : (config : Configuration) (cog : ℕ) (frame : FrameState) → IsHome config cog frame.object
    → AreHoused config cog frame.object frame.method (frame ∷ [])
one_frame_housed config cog frame home = more_frames_housed config cog frame.object frame.method frame [] home
    (λ last. (refl, refl)) (no_frames_housed config cog frame.object frame.method)

-- the frames below the innermost one
other_frames_housed : (config : Configuration) (cog : ℕ) (object : Option ℕ) (method : Option Name)
    (frame : FrameState) (others : List FrameState) → AreHoused config cog object method (frame ∷ others)
    → AreHoused config cog object method others
other_frames_housed config cog object method frame others are = record {
  homes = λ depth. are.homes (suc depth);
  outermost = λ depth. are.outermost (suc depth);
}

-- the innermost frame in another state
moved_frames_housed : (config : Configuration) (cog : ℕ) (object : Option ℕ) (method : Option Name)
    (frame now : FrameState) (others : List FrameState) → AreHoused config cog object method (frame ∷ others)
    → now.object ≡ frame.object → now.method ≡ frame.method → AreHoused config cog object method (now ∷ others)
moved_frames_housed config cog object method frame now others are object_is method_is =
    more_frames_housed config cog object method now others
    (subst (IsHome config cog) (sym object_is) (are.homes 0 frame refl))
    (λ last. let old = are.outermost 0 frame refl last in (object_is ∙ old.0, method_is ∙ old.1))
    (other_frames_housed config cog object method frame others are)

-- What a change has to keep: its task and its new task are at home, its new object and its new cog were made, and its
-- new task is that of a method.
pub record Houses (program : ProgramTree) (config : Configuration) (index : ℕ) (change : Change) : Type 0 where
  pub task : IsTaskHoused config change.task
  pub object : (object : ObjectState) → change.object ≡ Some object → IsMade program object
  pub cog : (cog : Cog) → change.cog ≡ Some cog → IsCogMade program cog
  pub new : (task : TaskState) → change.new ≡ Some task → IsTaskHoused (configuration_after config index change) task
  pub called : (task : TaskState) → change.new ≡ Some task
      → IsMethodTask program (configuration_after config index change) task

-- what is at home stays so
home_stays : (config : Configuration) (index : ℕ) (change : Change) (cog : ℕ) (object : Option ℕ)
    → IsHome config cog object → IsHome (configuration_after config index change) cog object
home_stays config index change cog object home at is =
    let cell = home at is in
    let now = object-there config index change at cell.0 cell.1 in
    (now.0, now.1, now.2.cog ∙ cell.2)

-- a task stays at home
task_housed_stays : (config : Configuration) (index : ℕ) (change : Change) (task : TaskState)
    → IsTaskHoused config task → IsTaskHoused (configuration_after config index change) task
task_housed_stays config index change task is = record {
  own = home_stays config index change task.cog task.object is.own;
  frames = λ depth frame there.
      home_stays config index change task.cog frame.object (is.frames depth frame there);
  outermost = is.outermost;
}

-- an object that is the same one was made too
same_made : (program : ProgramTree) (before after : ObjectState) → IsMade program before → IsSameObject before after
    → IsMade program after
same_made program before after is same = record {
  statement = is.statement;
  point = is.point;
  there = is.there;
  mode = is.mode;
  target = is.target;
  makes = rw same.class is.makes;
  at_place = is.at_place ∙ sym same.place;
}

-- the configuration after such a change is housed
kept_housed : (program : ProgramTree) (config : Configuration) (index : ℕ) (change : Change)
    → IsHoused program config → Stays config index change → Houses program config index change
    → IsHoused program (configuration_after config index change)
kept_housed program config index change housed stays keeps = record {
  objects_made = λ other object there. by_object other object (object-after config index change other object there);
  cogs_made = cogs_made-after program config index change housed.cogs_made keeps.cog;
  tasks_housed = λ other task there. by_task other task (task-after config index change other task there);
  tasks_called = tasks_called-after program config index change housed.tasks_called stays keeps.called;
}
  where
    by_object : (other : ℕ) (object : ObjectState) → ObjectAfter config change other object → IsMade program object
    by_object other object (Kept before there same fields) =
        same_made program before object (housed.objects_made other before there) same
    by_object other object (Filled before written there same is at fields) =
        same_made program before object (housed.objects_made other before there) same
    by_object other object (Fresh last is) = keeps.object object is

    by_task : (other : ℕ) (task : TaskState) → TaskAfter config index change other task
        → IsTaskHoused (configuration_after config index change) task
    by_task other task (Moved at is) = rw is (task_housed_stays config index change change.task keeps.task)
    by_task other task (Old differs there) =
        task_housed_stays config index change task (housed.tasks_housed other task there)
    by_task other task (New last is) = keeps.new task is

module _ (program : ProgramTree) (config : Configuration) (index : ℕ) where
  -- a change that only changes a task
  plain_houses : (task : TaskState) (holder : Option ℕ) (kind : Did) → IsTaskHoused config task
      → Houses program config index (plain_change task holder kind)
  plain_houses task holder kind is = record {
    task = is;
    object = λ object none. absurd cc;
    cog = λ cog none. absurd cc;
    new = λ new none. absurd cc;
    called = λ new none. absurd cc;
  }

  -- a task that ends
  ended_houses : (task : TaskState) (result : Result) → IsTaskHoused config task
      → Houses program config index (ended_change task result)
  ended_houses task result is =
      let now : TaskState = record task { frames = []; state = Ready; outcome = Some result } in
      plain_houses now None did.Finished
      (task_housed config now is.own (no_frames_housed config task.cog task.object task.method))

  -- a task that goes on
  went_houses : (task : TaskState) (target : Target) (value : ValueTree) (next : Option ℕ) (frame : FrameState)
      (others : List FrameState) (lines : List (List ℕ)) (kind : Did) → IsTaskHoused config task
      → AreHoused config task.cog task.object task.method (frame ∷ others)
      → Houses program config index (goes_on config index task target value next frame others lines kind)
  went_houses task target value next frame others lines kind is are = record {
    task = task_housed config
        (record task { frames = record frame { slots = slots_after target value frame.slots; next = next } ∷ others })
        is.own (moved_frames_housed config task.cog task.object task.method frame
        (record frame { slots = slots_after target value frame.slots; next = next }) others are refl refl);
    object = λ object none. absurd cc;
    cog = λ cog none. absurd cc;
    new = λ new none. absurd cc;
    called = λ new none. absurd cc;
  }

  -- a new task of an object of its cog is at home
  new_housed : (after : Configuration) (body : BodyAt) (cog object : ℕ) (cell : ObjectState) (method : Name)
      (call : Option ℕ) (arguments : List ValueTree) → slice_get after.objects object ≡ Some cell → cell.cog ≡ cog
      → IsTaskHoused after (task_for body cog object method call arguments)
  new_housed after body cog object cell method call arguments there in_cog =
      task_housed after (task_for body cog object method call arguments) home
      (one_frame_housed after cog (frame_for (entry_of_body body) (Some method) (Some object) arguments Nothing) home)
    where
      home : IsHome after cog (Some object)
      home at is = (cell, ap (slice_get after.objects) (sym (same_Some object at is)) ∙ there, in_cog)

  module _ (housed : IsHoused program config) where
    -- the task that runs is at home
    runner_housed : (at : Runner) → IsRunner config at → IsTaskHoused config at.task
    runner_housed at runner = housed.tasks_housed at.index at.task runner.there

    -- so are its frames
    all_housed : (at : Runner) → IsRunner config at
        → AreHoused config at.task.cog at.task.object at.task.method (at.frame ∷ at.others)
    all_housed at runner =
        frames_housed config at.task (at.frame ∷ at.others) (runner_housed at runner) runner.frames_are

    -- a task that goes on after its next statement
    next_houses : (at : Runner) (target : Target) (value : ValueTree) (next : Option ℕ) (lines : List (List ℕ))
        (kind : Did) → IsRunner config at
        → Houses program config index (goes_on config index at.task target value next at.frame at.others lines kind)
    next_houses at target value next lines kind runner =
        went_houses at.task target value next at.frame at.others lines kind (runner_housed at runner)
        (all_housed at runner)

    -- a call of another object
    called_houses : (at : Runner) (point : Point) (object : ℕ) (cell : ObjectState) (arguments : List ValueTree)
        (method : Name) (target : Option VariableTree) (body : BodyAt) → at.index ≡ index → IsRunner config at
        → slice_get config.objects object ≡ Some cell
        → callable program cell.class method (length arguments) ≡ Some body
        → Houses program config index (call_with config at (place_of point) (successor point.goes true) object cell
        method target arguments (Some body))
    called_houses at point object cell arguments method target body same runner there found = rw same (record {
      task = goes.task;
      object = goes.object;
      cog = goes.cog;
      new = λ task made. subst (IsTaskHoused (configuration_after config index change))
          (same_Some new_task task made) (task_housed_stays config index change new_task
          (new_housed config body cell.cog object cell method (Some (place_of point)) arguments there refl));
      called = λ task made. subst (IsMethodTask program (configuration_after config index change))
          (same_Some new_task task made) (method_task-stays program config index change new_task
          (task_for-called program config body cell.cog object cell method (Some (place_of point)) arguments there
          (callable_is program cell.class method (length arguments) body found).0));
    })
      where
        new_task : TaskState
        new_task = task_for body cell.cog object method (Some (place_of point)) arguments

        goes : Houses program config index (goes_on config index at.task (target_of target)
            (FutureValue (length config.tasks)) (successor point.goes true) at.frame at.others [] did.Called)
        goes = next_houses at (target_of target) (FutureValue (length config.tasks)) (successor point.goes true) []
            did.Called runner

        change : Change
        change = record (goes_on config index at.task (target_of target)
            (FutureValue (length config.tasks)) (successor point.goes true) at.frame at.others [] did.Called) {
              new = Some new_task;
            }

    -- a new object
    made_houses : (at : Runner) (point : Point) (values : List ValueTree) (mode : Mode) (class : Name)
        (target : Option VariableTree) (entry : ClassEntryTree) → at.index ≡ index
        → IsRunningAt program config at point values
        → effect_of point.statement ≡ Makes mode class target
        → Houses program config index (new_with program config at (place_of point) (successor point.goes true) mode
        class target values (Some entry))
    made_houses at point values mode class target entry same is makes = record {
      task = goes.task;
      object = λ object made. subst (IsMade program) (same_Some new_object object made) new_made;
      cog = λ cog made.
          option_and_then_some (slice_get (program_points program.source)) at.frame.next point is.point_there
          (λ statement next there.
          cog_for-made_by program statement point mode class target at.task.cog cog there makes made);
      new = λ task made. let runs = run_task_is program home (length config.objects) class entry.run task made in
          subst (IsTaskHoused (configuration_after config index change)) runs.4
          (new_housed (configuration_after config index change) runs.1 home (length config.objects) new_object
          (codes "run") None [] (object-new config index change new_object refl) refl);
      called = λ task made. let runs = run_task_is program home (length config.objects) class entry.run task made in
          subst (IsMethodTask program (configuration_after config index change)) runs.4
          (task_for-called program (configuration_after config index change) runs.1 home (length config.objects)
          new_object (codes "run") None [] (object-new config index change new_object refl) runs.3);
    }
      where
        home : ℕ
        home = home_of mode config at.task.cog

        new_object : ObjectState
        new_object = record { cog = home; place = place_of point; class = class; fields = values }

        change : Change
        change = new_with program config at (place_of point) (successor point.goes true) mode class target values
            (Some entry)

        goes : Houses program config index (goes_on config at.index at.task (target_of target)
            (ObjectValue (length config.objects)) (successor point.goes true) at.frame at.others [] did.Made)
        goes = rw same (next_houses at (target_of target) (ObjectValue (length config.objects))
            (successor point.goes true) [] did.Made is.runner)

        new_made : IsMade program new_object
        new_made = option_and_then_some (slice_get (program_points program.source)) at.frame.next point is.point_there
            (λ statement next there. record {
              statement = statement;
              point = point;
              there = there;
              mode = mode;
              target = target;
              makes = makes;
              at_place = refl;
            })

    -- a call of the own object
    pushed_houses : (at : Runner) (next : Option ℕ) (arguments : List ValueTree) (method : Name)
        (target : Option VariableTree) (body : BodyAt) → IsRunner config at
        → Houses program config index (kept_change index at.task at.frame.object (record {
          frames = frame_for (entry_of_body body) (Some method) at.frame.object arguments (target_of target)
              ∷ record at.frame { next = next } ∷ at.others;
          fields = fields_of (object_at config at.frame.object);
        }) [] did.Called)
    pushed_houses at next arguments method target body runner = record {
      task = task_housed config (record at.task { frames = new_frame ∷ below ∷ at.others })
          (runner_housed at runner).own
          (more_frames_housed config at.task.cog at.task.object at.task.method new_frame (below ∷ at.others)
          ((all_housed at runner).homes 0 at.frame refl) (λ last. absurd cc)
          (moved_frames_housed config at.task.cog at.task.object at.task.method at.frame below at.others
          (all_housed at runner) refl refl));
      object = λ object none. absurd cc;
      cog = λ cog none. absurd cc;
      new = λ new none. absurd cc;
      called = λ new none. absurd cc;
    }
      where
        new_frame : FrameState
        new_frame = frame_for (entry_of_body body) (Some method) at.frame.object arguments (target_of target)

        below : FrameState
        below = record at.frame { next = next }

    -- a task that lets others go first
    suspended_houses : (at : Runner) (next : Option ℕ) → IsRunner config at
        → Houses program config index (suspend_rule at next)
    suspended_houses at next runner =
        let below : FrameState = record at.frame { next = next } in
        let task : TaskState = record at.task { frames = below ∷ at.others; state = Ready } in
        plain_houses task None did.Released (task_housed config task (runner_housed at runner).own
        (moved_frames_housed config at.task.cog at.task.object at.task.method at.frame below at.others
        (all_housed at runner) refl refl))

    -- the return of an inner frame
    popped_houses : (at : Runner) (below : FrameState) (rest : List FrameState) (value : ValueTree)
        → IsRunner config at → at.others ≡ below ∷ rest
        → Houses program config index
        (goes_on config index at.task at.frame.target value below.next below rest [] did.Went)
    popped_houses at below rest value runner others =
        went_houses at.task at.frame.target value below.next below rest [] did.Went (runner_housed at runner)
        (subst (AreHoused config at.task.cog at.task.object at.task.method) others
        (other_frames_housed config at.task.cog at.task.object at.task.method at.frame at.others
        (all_housed at runner)))

    -- every rule keeps a configuration housed
    rule_houses : (change : Change) → Rule program config index change → Houses program config index change
    rule_houses change (Taken task cog there unended can at free changed) =
        let is = housed.tasks_housed index task there in
        rw changed (plain_houses (record task { state = Running }) (Some index) did.Took
        (record { own = is.own; frames = is.frames; outermost = is.outermost }))
    rule_houses change (Faulted at cause same runner fails changed) =
        rw changed (ended_houses at.task _ (runner_housed at runner))
    rule_houses change (Skipped at point values same is skips changed) =
        rw changed (next_houses at Nothing NullValue (successor point.goes true) [] did.Went is.runner)
    rule_houses change (Stored at point target value same is stores changed) =
        rw changed (next_houses at (target_of target) value (successor point.goes true) [] did.Went is.runner)
    rule_houses change (Cleared at point values target same is clears changed) = rw changed
        (next_houses at (target_of (Some target)) NullValue (successor point.goes true) [] did.Went is.runner)
    rule_houses change (Chosen at point value answer same is chooses truth changed) =
        rw changed (next_houses at Nothing NullValue (successor point.goes answer) [] did.Went is.runner)
    rule_houses change (Printed at point string same is prints changed) =
        rw changed (next_houses at Nothing NullValue (successor point.goes true) (string ∷ []) did.Printed is.runner)
    rule_houses change (Made at point values mode class target entry same is makes taking changed) =
        rw changed (made_houses at point values mode class target entry same is makes)
    rule_houses change (Called at point object cell arguments method target body same is sends there found changed) =
        rw changed (called_houses at point object cell arguments method target body same is.runner there found)
    rule_houses change (Pushed at point object arguments method target body same is calls there found changed) =
        rw changed (pushed_houses at (successor point.goes true) arguments method target body is.runner)
    rule_houses change (Got at point values slot target future task value same is gets holds there gives changed) =
        rw changed (next_houses at (target_of target) value (successor point.goes true) [] did.Went is.runner)
    rule_houses change (Passed at point values names same is awaits resolved changed) =
        rw changed (next_houses at Nothing NullValue (successor point.goes true) [] did.Went is.runner)
    rule_houses change (Released at point values names same is awaits waits changed) =
        let home = runner_housed at is.runner in
        rw changed (plain_houses (record at.task { state = Awaiting }) None did.Released
        (record { own = home.own; frames = home.frames; outermost = home.outermost }))
    rule_houses change (Suspended at point values same is suspends changed) =
        rw changed (suspended_houses at (successor point.goes true) is.runner)
    rule_houses change (Gave at value same runner others gives changed) =
        rw changed (ended_houses at.task _ (runner_housed at runner))
    rule_houses change (Popped at below rest value same runner others gives changed) =
        rw changed (popped_houses at below rest value runner others)

-- each event of a housed configuration leads to one
pub event_keeps_houses : (program : ProgramTree) (config : Configuration) (index : ℕ) (step : Step)
    → IsHoused program config → event_of program config index ≡ Some step
    → IsHoused program step.config
event_keeps_houses program config index step housed is =
    let event = event_change program config index step is in
    subst (λ (one : Step). IsHoused program one.config) (sym event.2)
    (kept_housed program config index event.0 housed (change_stays program config index event.0 event.1)
    (rule_houses program config index housed event.0 (rule_of program config index event.0 event.1)))
