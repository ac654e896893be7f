-- Each event of a configuration of a program leads to one.
--
--   `Keeps`, `kept_program`        what a change has to keep, and the configuration after it
--   `ended_keeps`, `went_keeps`    a change by which a task ends, and one by which it goes on
--   `made_keeps`, `called_keeps`, ..   those that make an object or a task, push a frame, or wait
--   `rule_keeps`                   every rule keeps this
--   `event_keeps_program`          every event does
use Rattle.std.proofs.Common.{◌≡◌, ℕ, Bool, true, List, [], ◌∷◌, length, slice_get, Option, Some, None, refl, sym, ap, ◌∙◌, subst, codes, option_map}
use Rattle.std.proofs.lemmas.List.{length-set}
use Rattle.std.proofs.lemmas.Option.{same_Some}
use Rattle.abs_program.specs.Bodies.{ClassEntryTree}
use Rattle.abs_program.specs.Control.{Point}
use Rattle.abs_program.specs.Instructions.{EffectTree, Awaits, Makes, CallsOwn, effect_of}
use Rattle.abs_values.specs.Results.{Result}
use Rattle.abs_tree.specs.Syntax.{Name, VariableTree, ProgramTree}
use Rattle.abs_values.specs.ValueTrees.{ValueTree, NullValue, ObjectValue, FutureValue}
use Rattle.abs_program.specs.Whole.{IsWhole}
use Rattle.abs_tree.specs.declared.syntax.statement.Mode.{Mode}
use Rattle.abs_program.specs.ProgramBodies.{BodyAt, IsStatementOf, entry_of_body}
use Rattle.config_state.specs.Bodies.{class_taking, method_at}
use Rattle.config_state.specs.Configurations.{ObjectState, FrameState, TaskState, Configuration, object_at, fields_of}
use Rattle.config_state.specs.First.{frame_for}
use Rattle.config_state.specs.OfProgram.{IsObjectOf, IsTaskOf, IsAtGuard, IsConfigOf, TargetIsIn}
use Rattle.config_state.specs.declared.frame.Target.{Target}
use Rattle.config_state.specs.declared.frame.Target.TheVariants.{Nothing, Local, Field}
use Rattle.config_state.specs.declared.task.State.TheVariants.{Ready, Running, Awaiting}
use Rattle.step_rules.proofs.AfterLemmas.{written-own, task-after, object-after, object-new}
use Rattle.step_rules.proofs.GrowthLemmas.{WritesAll, outgrows_by, task_stays}
use Rattle.step_rules.proofs.FrameLemmas.{successor_is, moved_frame, callable_is, started_frame, AreFramesOf, frames_of_task, task_of_frames, no_frames, one_frame, other_frames, more_frames, moved_frames, run_task_is, run_takes_none}
use Rattle.step_rules.proofs.RuleLemmas.{rule_of}
use Rattle.step_rules.proofs.StayLemmas.{event_change}
use Rattle.step_rules.proofs.UseLemmas.{CanUse, can_use, MaybeThere, target_in, effect_target, target_there, made_as_many, guard_holds}
use Rattle.step_rules.specs.Changes.{Change, configuration_after, plain_change, kept_change, ended_change}
use Rattle.step_rules.specs.Events.{Step, event_of}
use Rattle.step_rules.specs.Lookups.{Runner, callable, place_of, successor}
use Rattle.step_rules.specs.ObjectRules.{goes_on, new_with, call_with}
use Rattle.step_rules.specs.Rules.{Rule, Taken, Faulted, Skipped, Stored, Cleared, Chosen, Printed, Made, Called, Pushed, Got, Passed, Released, Suspended, Gave, Popped}
use Rattle.step_rules.specs.Stays.{TaskAfter, Moved, Old, New, ObjectAfter, Kept, Filled, Fresh}
use Rattle.step_rules.specs.WaitRules.{Unresolved, guard_of, suspend_rule}
use Rattle.step_rules.specs.Targets.{slots_after, fields_after, target_of}
use Rattle.step_rules.specs.RuleParts.{IsRunner, IsRunningAt}
use Rattle.step_rules.specs.NewEntries.{task_for, home_of}
use Rattle.step_rules.specs.declared.kind.Did.{Did}
use Rattle.step_rules.specs.declared.kind.Did.TheVariants as did

-- What a change has to keep: its task and what it makes are of the program, and what it writes are all fields.
pub record Keeps (program : ProgramTree) (config : Configuration) (index : ℕ) (change : Change) : Type 0 where
  pub task : IsTaskOf program config change.task
  pub writes : WritesAll config change.written
  pub object : (object : ObjectState) → change.object ≡ Some object → IsObjectOf program object
  pub new : (task : TaskState) → change.new ≡ Some task
      → IsTaskOf program (configuration_after config index change) task

-- an object with the class of one of the program, and as many fields, is one
same_object_of : (program : ProgramTree) (before after : ObjectState) → IsObjectOf program before
    → after.class ≡ before.class → length after.fields ≡ length before.fields → IsObjectOf program after
same_object_of program before after is class fields = record {
  class = is.class;
  class_there = rw class is.class_there;
  fields_are = fields ∙ is.fields_are;
}

-- the configuration after such a change is of the program
kept_program : (program : ProgramTree) (config : Configuration) (index : ℕ) (change : Change)
    → IsConfigOf program config → Keeps program config index change
    → IsConfigOf program (configuration_after config index change)
kept_program program config index change known keeps = record {
  objects_are = λ other object there. by_object other object (object-after config index change other object there);
  tasks_are = λ other task there. by_task other task (task-after config index change other task there);
}
  where
    by_object : (other : ℕ) (object : ObjectState) → ObjectAfter config change other object
        → IsObjectOf program object
    by_object other object (Kept before there same fields) =
        same_object_of program before object (known.objects_are other before there) same.class (ap length fields)
    by_object other object (Filled before written there same is at fields) =
        same_object_of program before object (known.objects_are other before there) same.class
        (ap length fields ∙ keeps.writes.as_many written before is (ap (slice_get config.objects) at ∙ there))
    by_object other object (Fresh last is) = keeps.object object is

    stays : (task : TaskState) → IsTaskOf program config task
        → IsTaskOf program (configuration_after config index change) task
    stays task is = task_stays program config (configuration_after config index change) task
        (outgrows_by config index change keeps.writes) is

    by_task : (other : ℕ) (task : TaskState) → TaskAfter config index change other task
        → IsTaskOf program (configuration_after config index change) task
    by_task other task (Moved at is) = rw is (stays change.task keeps.task)
    by_task other task (Old differs there) = stays task (known.tasks_are other task there)
    by_task other task (New last is) = keeps.new task is

-- nothing is written
writes_nothing : (config : Configuration) → WritesAll config None
writes_nothing config = record { as_many = λ own object is there. absurd cc }

-- as many fields as the object has are written
writes_own : (config : Configuration) (object : Option ℕ) (fields : List ValueTree)
    → length fields ≡ length (fields_of (object_at config object))
    → WritesAll config (option_map (λ (at : ℕ). record { object = at; fields = fields }) object)
writes_own config object fields as_many = record {
  as_many = λ own cell is there. let written = written-own object fields own is in
      ap length written.1
      ∙ (as_many ∙ ap (λ found. length (fields_of found)) (ap (object_at config) written.0 ∙ there));
}

-- a target takes its value without a change of length
slots_after_length : (target : Target) (value : ValueTree) (slots : List ValueTree)
    → length (slots_after target value slots) ≡ length slots
slots_after_length Nothing value slots = refl
slots_after_length (Local slot) value slots = length-set slots slot value
slots_after_length (Field field) value slots = refl

-- so do fields
fields_after_length : (target : Target) (value : ValueTree) (fields : List ValueTree)
    → length (fields_after target value fields) ≡ length fields
fields_after_length Nothing value fields = refl
fields_after_length (Local slot) value fields = refl
fields_after_length (Field field) value fields = length-set fields field value

module _ (program : ProgramTree) (config : Configuration) (index : ℕ) where
  -- a change that only changes a task
  plain_keeps : (task : TaskState) (holder : Option ℕ) (kind : Did) → IsTaskOf program config task
      → Keeps program config index (plain_change task holder kind)
  plain_keeps task holder kind is = record {
    task = is;
    writes = writes_nothing config;
    object = λ object none. absurd cc;
    new = λ new none. absurd cc;
  }

  -- a task that ends
  ended_keeps : (task : TaskState) (result : Result) → Keeps program config index (ended_change task result)
  ended_keeps task result =
      plain_keeps (record task { frames = []; state = Ready; outcome = Some result }) None did.Finished
      (task_of_frames program config (record task { frames = []; state = Ready; outcome = Some result })
      (no_frames program config) (λ is. absurd cc))

  -- the frame of a task that goes on
  went_frames : (target : Target) (value : ValueTree) (next : Option ℕ) (frame : FrameState) (others : List FrameState)
      (are : AreFramesOf program config (frame ∷ others))
      → ((at : ℕ) → next ≡ Some at → IsStatementOf (are.frames_are 0 frame refl).body at)
      → AreFramesOf program config
      (record frame { slots = slots_after target value frame.slots; next = next } ∷ others)
  went_frames target value next frame others are goes =
      moved_frames program config frame (record frame { slots = slots_after target value frame.slots; next = next })
      others are (moved_frame program config frame (slots_after target value frame.slots) next
      (are.frames_are 0 frame refl) (slots_after_length target value frame.slots) goes) refl

  -- a task that goes on
  went_keeps : (task : TaskState) (target : Target) (value : ValueTree) (next : Option ℕ) (frame : FrameState)
      (others : List FrameState) (lines : List (List ℕ)) (kind : Did) → task.state ≡ Running
      → (are : AreFramesOf program config (frame ∷ others))
      → ((at : ℕ) → next ≡ Some at → IsStatementOf (are.frames_are 0 frame refl).body at)
      → Keeps program config index (goes_on config index task target value next frame others lines kind)
  went_keeps task target value next frame others lines kind runs are goes = record {
    task = task_of_frames program config
        (record task { frames = record frame { slots = slots_after target value frame.slots; next = next } ∷ others })
        (went_frames target value next frame others are goes) (λ is. absurd cc);
    writes = writes_own config frame.object (fields_after target value (fields_of (object_at config frame.object)))
        (fields_after_length target value (fields_of (object_at config frame.object)));
    object = λ object none. absurd cc;
    new = λ new none. absurd cc;
  }

  -- a new task of a method of its object is one of the program
  new_task_is : (after : Configuration) (body : BodyAt) (cog object : ℕ) (cell : ObjectState) (method : Name)
      (call : Option ℕ) (arguments : List ValueTree) → slice_get after.objects object ≡ Some cell
      → method_at program cell.class method ≡ Some body → body.params ≡ length arguments
      → IsTaskOf program after (task_for body cog object method call arguments)
  new_task_is after body cog object cell method call arguments there found takes =
      task_of_frames program after (task_for body cog object method call arguments)
      (one_frame program after (frame_for (entry_of_body body) (Some method) (Some object) arguments Nothing)
      (started_frame program after (Some object) cell method body arguments Nothing there found takes) refl)
      (λ is. absurd cc)

  module _ (whole : IsWhole program.source) (known : IsConfigOf program config) where
    -- the task that runs is of the program
    runner_of : (at : Runner) → IsRunner config at → IsTaskOf program config at.task
    runner_of at runner = known.tasks_are at.index at.task runner.there

    -- so are its frames
    frames_of : (at : Runner) → IsRunner config at → AreFramesOf program config (at.frame ∷ at.others)
    frames_of at runner =
        frames_of_task program config at.task (at.frame ∷ at.others) (runner_of at runner) runner.frames_are

    -- what its next statement can use
    uses : (at : Runner) (point : Point) (values : List ValueTree) → IsRunningAt program config at point values
        → CanUse program config at.frame.object (length at.frame.slots) point.statement
    uses at point values is = can_use program config at.frame point whole known
        ((frames_of at is.runner).frames_are 0 at.frame refl) is.point_there

    -- a task that goes on after its next statement
    next_keeps : (at : Runner) (point : Point) (values : List ValueTree) (target : Target) (value : ValueTree)
        (answer : Bool) (lines : List (List ℕ)) (kind : Did) → IsRunningAt program config at point values
        → Keeps program config index
        (goes_on config index at.task target value (successor point.goes answer) at.frame at.others lines kind)
    next_keeps at point values target value answer lines kind is =
        let are = frames_of at is.runner in
        went_keeps at.task target value (successor point.goes answer) at.frame at.others lines kind is.runner.runs are
        (successor_is program config at.frame point answer (are.frames_are 0 at.frame refl) is.point_there)

    -- a task that waits for its cog alone
    taken_keeps : (task : TaskState) → slice_get config.tasks index ≡ Some task
        → Keeps program config index (plain_change (record task { state = Running }) (Some index) did.Took)
    taken_keeps task there =
        plain_keeps (record task { state = Running }) (Some index) did.Took
        (task_of_frames program config (record task { state = Running })
        (frames_of_task program config task task.frames (known.tasks_are index task there) refl) (λ is. absurd cc))

    -- a call of another object
    called_keeps : (at : Runner) (point : Point) (object : ℕ) (cell : ObjectState) (arguments : List ValueTree)
        (method : Name) (target : Option VariableTree) (body : BodyAt) → at.index ≡ index
        → IsRunningAt program config at point (ObjectValue object ∷ arguments) → slice_get config.objects object ≡ Some cell
        → callable program cell.class method (length arguments) ≡ Some body
        → Keeps program config index (call_with config at (place_of point) (successor point.goes true) object cell
        method target arguments (Some body))
    called_keeps at point object cell arguments method target body same is there found = rw same (record {
      task = goes.task;
      writes = goes.writes;
      object = goes.object;
      new = λ task made. subst (IsTaskOf program (configuration_after config index change))
          (same_Some (task_for body cell.cog object method (Some (place_of point)) arguments) task made)
          (task_stays program config (configuration_after config index change)
          (task_for body cell.cog object method (Some (place_of point)) arguments)
          (outgrows_by config index change goes.writes)
          (new_task_is config body cell.cog object cell method (Some (place_of point)) arguments there takes.0
          takes.1));
    })
      where
        takes : (method_at program cell.class method ≡ Some body) × (body.params ≡ length arguments)
        takes = callable_is program cell.class method (length arguments) body found

        goes : Keeps program config index (goes_on config index at.task (target_of target)
            (FutureValue (length config.tasks)) (successor point.goes true) at.frame at.others [] did.Called)
        goes = next_keeps at point (ObjectValue object ∷ arguments) (target_of target)
            (FutureValue (length config.tasks)) true [] did.Called is

        change : Change
        change = record (goes_on config index at.task (target_of target)
            (FutureValue (length config.tasks)) (successor point.goes true) at.frame at.others [] did.Called) {
              new = Some (task_for body cell.cog object method (Some (place_of point)) arguments);
            }

    -- a new object
    made_keeps : (at : Runner) (point : Point) (values : List ValueTree) (mode : Mode) (class : Name)
        (target : Option VariableTree) (entry : ClassEntryTree) → at.index ≡ index → IsRunningAt program config at point values
        → effect_of point.statement ≡ Makes mode class target → class_taking program class ≡ Some entry
        → Keeps program config index (new_with program config at (place_of point) (successor point.goes true) mode class
        target values (Some entry))
    made_keeps at point values mode class target entry same is makes taking = record {
      task = goes.task;
      writes = goes.writes;
      object = λ object made. subst (IsObjectOf program) (same_Some new_object object made) (record {
        class = entry;
        class_there = taking;
        fields_are = made_as_many program config at.frame point mode class target entry values
            (uses at point values is) makes taking is.gives;
      });
      new = λ task made. let runs = run_task_is program home (length config.objects) class entry.run task made in
          subst (IsTaskOf program (configuration_after config index change)) runs.4
          (new_task_is (configuration_after config index change) runs.1 home (length config.objects) new_object
          (codes "run") None [] (object-new config index change new_object refl) runs.3
          (run_takes_none program class entry runs.0 runs.1 taking runs.2 runs.3));
    }
      where
        home : ℕ
        home = home_of mode config at.task.cog

        new_object : ObjectState
        new_object = record { cog = home; place = place_of point; class = class; fields = values }

        change : Change
        change = new_with program config at (place_of point) (successor point.goes true) mode class target values
            (Some entry)

        goes : Keeps program config index (goes_on config at.index at.task (target_of target)
            (ObjectValue (length config.objects)) (successor point.goes true) at.frame at.others [] did.Made)
        goes = rw same (next_keeps at point values (target_of target) (ObjectValue (length config.objects)) true []
            did.Made is)

    -- a call of the own object
    pushed_keeps : (at : Runner) (point : Point) (object : ObjectState) (arguments : List ValueTree) (method : Name)
        (target : Option VariableTree) (body : BodyAt) → IsRunningAt program config at point arguments
        → effect_of point.statement ≡ CallsOwn method target → object_at config at.frame.object ≡ Some object
        → callable program object.class method (length arguments) ≡ Some body
        → Keeps program config index (kept_change index at.task at.frame.object (record {
          frames = frame_for (entry_of_body body) (Some method) at.frame.object arguments (target_of target)
              ∷ record at.frame { next = successor point.goes true } ∷ at.others;
          fields = fields_of (object_at config at.frame.object);
        }) [] did.Called)
    pushed_keeps at point object arguments method target body is calls there found = record {
      task = task_of_frames program config (record at.task { frames = new_frame ∷ below ∷ at.others })
          (more_frames program config new_frame (below ∷ at.others)
          (started_frame program config at.frame.object object method body arguments (target_of target) there takes.0
          takes.1)
          target_is
          (went_frames Nothing NullValue (successor point.goes true) at.frame at.others are
          (successor_is program config at.frame point true (are.frames_are 0 at.frame refl) is.point_there)))
          (λ waits. let runs = is.runner.runs in absurd cc);
      writes = writes_own config at.frame.object (fields_of (object_at config at.frame.object)) refl;
      object = λ object none. absurd cc;
      new = λ new none. absurd cc;
    }
      where
        new_frame : FrameState
        new_frame = frame_for (entry_of_body body) (Some method) at.frame.object arguments (target_of target)

        below : FrameState
        below = record at.frame { next = successor point.goes true }

        takes : (method_at program object.class method ≡ Some body) × (body.params ≡ length arguments)
        takes = callable_is program object.class method (length arguments) body found

        are : AreFramesOf program config (at.frame ∷ at.others)
        are = frames_of at is.runner

        can : CanUse program config at.frame.object (length at.frame.slots) point.statement
        can = uses at point arguments is

        target_is : TargetIsIn config (Some below) (target_of target)
        target_is = target_there can.inside target config below
            (subst (λ (effect : EffectTree). MaybeThere can.inside (target_in effect)) calls
            (effect_target can.inside point.statement can.there)) can.slots_are can.fields_are

    -- a task that waits for futures
    released_keeps : (at : Runner) (point : Point) (values : List ValueTree) (names : List (Option ℕ))
        → IsRunningAt program config at point values → effect_of point.statement ≡ Awaits names
        → guard_of config at.frame.slots names ≡ Unresolved
        → Keeps program config index (plain_change (record at.task { state = Awaiting }) None did.Released)
    released_keeps at point values names is awaits waits =
        let task = runner_of at is.runner in
        plain_keeps (record at.task { state = Awaiting }) None did.Released (record {
          frames_are = task.frames_are;
          targets_are = task.targets_are;
          awaiting = λ state frame there. subst (IsAtGuard program)
              (same_Some at.frame frame
              (sym (ap (λ (frames : List FrameState). slice_get frames 0) is.runner.frames_are) ∙ there))
              (record {
                point = point;
                point_there = is.point_there;
                named = names;
                awaits = awaits;
                futures = guard_holds config at.frame.slots names (λ cause faulty. absurd cc);
              });
        })

    -- a task that lets others go first
    suspended_keeps : (at : Runner) (point : Point) (values : List ValueTree) → IsRunningAt program config at point values
        → Keeps program config index (suspend_rule at (successor point.goes true))
    suspended_keeps at point values is =
        let are = frames_of at is.runner in
        let below : FrameState = record at.frame { next = successor point.goes true } in
        let task : TaskState = record at.task { frames = below ∷ at.others; state = Ready } in
        plain_keeps task None did.Released (task_of_frames program config task
        (went_frames Nothing NullValue (successor point.goes true) at.frame at.others are
        (successor_is program config at.frame point true (are.frames_are 0 at.frame refl) is.point_there))
        (λ waits. absurd cc))

    -- the return of an inner frame
    popped_keeps : (at : Runner) (below : FrameState) (rest : List FrameState) (value : ValueTree) → IsRunner config at
        → at.others ≡ below ∷ rest
        → Keeps program config index
        (goes_on config index at.task at.frame.target value below.next below rest [] did.Went)
    popped_keeps at below rest value runner others =
        let are : AreFramesOf program config (below ∷ rest) = subst (AreFramesOf program config) others
        (other_frames program config at.frame at.others (frames_of at runner)) in
        went_keeps at.task at.frame.target value below.next below rest [] did.Went runner.runs are
        (are.frames_are 0 below refl).next_is

    -- every rule keeps a configuration one of the program
    rule_keeps : (change : Change) → Rule program config index change → Keeps program config index change
    rule_keeps change (Taken task cog there unended can at free changed) = rw changed (taken_keeps task there)
    rule_keeps change (Faulted at cause same runner fails changed) = rw changed (ended_keeps at.task _)
    rule_keeps change (Skipped at point values same is skips changed) =
        rw changed (next_keeps at point values Nothing NullValue true [] did.Went is)
    rule_keeps change (Stored at point target value same is stores changed) =
        rw changed (next_keeps at point (value ∷ []) (target_of target) value true [] did.Went is)
    rule_keeps change (Cleared at point values target same is clears changed) =
        rw changed (next_keeps at point values (target_of (Some target)) NullValue true [] did.Went is)
    rule_keeps change (Chosen at point value answer same is chooses truth changed) =
        rw changed (next_keeps at point (value ∷ []) Nothing NullValue answer [] did.Went is)
    rule_keeps change (Printed at point string same is prints changed) =
        rw changed (next_keeps at point _ Nothing NullValue true (string ∷ []) did.Printed is)
    rule_keeps change (Made at point values mode class target entry same is makes taking changed) =
        rw changed (made_keeps at point values mode class target entry same is makes taking)
    rule_keeps change (Called at point object cell arguments method target body same is sends there found changed) =
        rw changed (called_keeps at point object cell arguments method target body same is there found)
    rule_keeps change (Pushed at point object arguments method target body same is calls there found changed) =
        rw changed (pushed_keeps at point object arguments method target body is calls there found)
    rule_keeps change (Got at point values slot target future task value same is gets holds there gives changed) =
        rw changed (next_keeps at point values (target_of target) value true [] did.Went is)
    rule_keeps change (Passed at point values names same is awaits resolved changed) =
        rw changed (next_keeps at point values Nothing NullValue true [] did.Went is)
    rule_keeps change (Released at point values names same is awaits waits changed) =
        rw changed (released_keeps at point values names is awaits waits)
    rule_keeps change (Suspended at point values same is suspends changed) =
        rw changed (suspended_keeps at point values is)
    rule_keeps change (Gave at value same runner others gives changed) = rw changed (ended_keeps at.task _)
    rule_keeps change (Popped at below rest value same runner others gives changed) =
        rw changed (popped_keeps at below rest value runner others)

-- each event of a configuration of a program leads to one
pub event_keeps_program : (program : ProgramTree) (config : Configuration) (index : ℕ) (step : Step)
    → IsWhole program.source → IsConfigOf program config
    → event_of program config index ≡ Some step → IsConfigOf program step.config
event_keeps_program program config index step whole known is =
    let event = event_change program config index step is in
    subst (λ (one : Step). IsConfigOf program one.config) (sym event.2)
    (kept_program program config index event.0 known
    (rule_keeps program config index whole known event.0 (rule_of program config index event.0 event.1)))
