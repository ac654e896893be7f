-- Every event is one of the rules of the table. The proof goes down the table: the equation by which a change came is
-- taken apart case by case, until one rule is left.
use Rattle.std.proofs.Common.{◌≡◌, ◌≢◌, ℕ, true, List, [], ◌∷◌, length, slice_get, Option, Some, None, option_and_then, refl, sym, ap, ◌∙◌, subst}
use Rattle.std.proofs.lemmas.Option.{same_Some}
use Rattle.abs_program.specs.Bodies.{ClassEntryTree}
use Rattle.abs_program.specs.Control.{Point, program_points}
use Rattle.abs_values.specs.Evaluation.{results_of, initial_outcomes}
use Rattle.abs_program.specs.Instructions.{EffectTree, Skips, Suspends, Awaits, Chooses, Returns, Prints, Clears, Stores, Makes, Sends, CallsOwn, CallsOther, Gets, effect_of}
use Rattle.abs_values.specs.Results.{Result, Gives, Fails, Results, AllGive, OneFails}
use Rattle.abs_values.specs.Scopes.{library_of}
use Rattle.abs_tree.specs.Syntax.{Name, VariableTree, ProgramTree}
use Rattle.abs_values.specs.ValueTrees.{ValueTree, IntValue, StringValue, BuiltValue, ObjectValue, FutureValue, NullValue}
use Rattle.abs_values.specs.declared.evaluated.Fault.{Fault}
use Rattle.abs_values.specs.declared.evaluated.Fault.TheVariants as fault
use Rattle.abs_tree.specs.declared.syntax.statement.Mode.{Mode}
use Rattle.abs_program.specs.ProgramBodies.{BodyAt}
use Rattle.config_state.specs.Bodies.{class_taking}
use Rattle.config_state.specs.Configurations.{ObjectState, FrameState, TaskState, Configuration, object_at, fields_of}
use Rattle.config_state.specs.OfProgram.{next_point}
use Rattle.config_state.specs.declared.cog.Cog.{Cog}
use Rattle.config_state.specs.declared.task.State.{State}
use Rattle.config_state.specs.declared.task.State.TheVariants.{Ready, Running, Awaiting}
use Rattle.step_rules.specs.Changes.{Change, ended_change}
use Rattle.step_rules.specs.Events.{statement_change, other_change, run_change, run_frames, change_by_state, change_by_outcome, change_of_task, change_by, change_of}
use Rattle.step_rules.specs.Inputs.{Input, scope_of, exprs_at, initials_at, input_in, input_with, input_of_task, input_of, output_of}
use Rattle.step_rules.specs.LocalRules.{used_of, statement_rule, next_rule, local_rule}
use Rattle.step_rules.specs.Lookups.{Runner, successor, place_of, callable, named_value, unit_value, class_of}
use Rattle.step_rules.specs.ObjectRules.{mistyped, new_with, call_with, call_on, call_rule}
use Rattle.step_rules.specs.Plans.{rule_or}
use Rattle.step_rules.specs.Rules.{Rule, Taken, Skipped, Cleared, Made, Called, Got, Passed, Released, Suspended}
use Rattle.step_rules.specs.WaitRules.{Guard, Faulty, Unresolved, Resolved, guard_of, take_if_free, take_rule, take_if_resolved, wake_by, wake_rule, get_by_outcome, get_by_task, get_rule, await_rule}
use Rattle.step_rules.specs.RuleParts.{IsRunner, IsRunningAt, CanTake, IsReady, IsWoken, AtEnd}
use Rattle.step_rules.specs.FaultCauses.{HasNoClass, HasNoReceiver, IsNoObject, HasNoEntry, HasNoMethod, IsFarCall, IsNoFuture, HasNoTask, Evaluates, GetsFault, AwaitsFault, CallsNull, GetsNull}
use Rattle.step_rules.proofs.LocalRuleLemmas.{rule_or_is, faulted, missorted, ended, stored, chosen, printed, pushed, returned}

-- Nothing is evaluated where no statement is left, and so nothing fails.
nothing_fails : (program : ProgramTree) (config : Configuration) (at : Runner) (cause : Fault)
    → results_of (library_of program) (scope_of config at.frame) (exprs_at None) (initials_at program None)
    ≡ OneFails cause → ⊥
unfolding initial_outcomes
nothing_fails program config at cause h = cc

module _ (program : ProgramTree) (config : Configuration) (index : ℕ) (change : Change) (task : TaskState)
    (there : slice_get config.tasks index ≡ Some task) (open_still : task.outcome ≡ None) where
  -- A task that can take its cog takes it, where nobody holds it.
  taken_if_free : CanTake program config task → (cog : Cog) → slice_get config.cogs task.cog ≡ Some cog
      → (holder : Option ℕ) → cog.holder ≡ holder → take_if_free index task holder ≡ Some change
      → Rule program config index change
  taken_if_free can cog is None free h = Taken task cog there open_still can is free (sym (same_Some _ _ h))
  taken_if_free can cog is (Some holder) held h = absurd cc

  -- It does so where its cog is there.
  taken : CanTake program config task → (cog : Option Cog) → slice_get config.cogs task.cog ≡ cog
      → take_rule index task cog ≡ Some change → Rule program config index change
  taken can None is h = absurd cc
  taken can (Some cog) is h = taken_if_free can cog is cog.holder refl h

  module _ (frame : FrameState) (others : List FrameState) (waits : task.state ≡ Awaiting)
      (frames_are : task.frames ≡ frame ∷ others) (point : Point)
      (point_there : next_point program frame ≡ Some point) where
    -- A task that waits takes its cog once all futures are resolved that its `await` names.
    woken_if_resolved : (names : List (Option ℕ)) → effect_of point.statement ≡ Awaits names → (guard : Guard)
        → guard_of config frame.slots names ≡ guard → take_if_resolved config index task guard ≡ Some change
        → Rule program config index change
    woken_if_resolved names awaits (Faulty cause) is h = absurd cc
    woken_if_resolved names awaits Unresolved is h = absurd cc
    woken_if_resolved names awaits Resolved is h =
        taken (IsWoken frame others point names waits frames_are point_there awaits is)
        (slice_get config.cogs task.cog) refl h

    -- Its next statement is an `await`.
    woken_by : (effect : EffectTree) → effect_of point.statement ≡ effect
        → wake_by config index task frame effect ≡ Some change → Rule program config index change
    woken_by (Awaits names) is h = woken_if_resolved names is (guard_of config frame.slots names) refl h
    woken_by effect is h = absurd cc

  -- A statement is left in the innermost frame of a task that waits.
  woken : (frame : FrameState) (others : List FrameState) → task.state ≡ Awaiting → task.frames ≡ frame ∷ others
      → (point : Option Point) → next_point program frame ≡ point
      → option_and_then (λ (at : Point). wake_by config index task frame (effect_of at.statement)) point ≡ Some change
      → Rule program config index change
  woken frame others waits frames_are None is h = absurd cc
  woken frame others waits frames_are (Some point) is h =
      woken_by frame others waits frames_are point is (effect_of point.statement) refl h

module _ (program : ProgramTree) (config : Configuration) (at : Runner) (change : Change)
    (runner : IsRunner config at) where
  module _ (point : Point) where
    -- A `new` makes an object where there is its class, and otherwise has the wrong sort.
    made : (mode : Mode) (class : Name) (target : Option VariableTree)
        → effect_of point.statement ≡ Makes mode class target → (values : List ValueTree)
        → IsRunningAt program config at point values → (entry : Option ClassEntryTree) → class_taking program class ≡ entry
        → new_with program config at (place_of point) (successor point.goes true) mode class target values entry
        ≡ change → Rule program config at.index change
    made mode class target does values is None takes h =
        missorted program config at change runner point values (Makes mode class target) is does
        (HasNoClass mode class target refl takes) h
    made mode class target does values is (Some entry) takes h =
        Made at point values mode class target entry refl is does takes (sym h)

    module _ (method : Name) (target : Option VariableTree)
        (does : effect_of point.statement ≡ Sends method target) where
      -- A call makes a task where the class has the method, and otherwise has the wrong sort.
      called_by : (object : ℕ) (arguments : List ValueTree)
          → IsRunningAt program config at point (ObjectValue object ∷ arguments) → (cell : ObjectState)
          → slice_get config.objects object ≡ Some cell → (body : Option BodyAt)
          → callable program cell.class method (length arguments) ≡ body
          → call_with config at (place_of point) (successor point.goes true) object cell method target arguments body
          ≡ change → Rule program config at.index change
      called_by object arguments is cell there None found h =
          missorted program config at change runner point (ObjectValue object ∷ arguments) (Sends method target) is does
          (HasNoMethod method target object arguments cell refl refl there found) h
      called_by object arguments is cell there (Some body) found h =
          Called at point object cell arguments method target body refl is does there found (sym h)

      -- It has the wrong sort too where the receiver is no object of the configuration.
      called_on : (object : ℕ) (arguments : List ValueTree)
          → IsRunningAt program config at point (ObjectValue object ∷ arguments) → (cell : Option ObjectState)
          → slice_get config.objects object ≡ cell
          → call_on program config at (place_of point) (successor point.goes true) object method target arguments cell
          ≡ change → Rule program config at.index change
      called_on object arguments is None there h =
          missorted program config at change runner point (ObjectValue object ∷ arguments) (Sends method target) is does
          (HasNoEntry method target object arguments refl refl there) h
      called_on object arguments is (Some cell) there h = called_by object arguments is cell there
          (callable program cell.class method (length arguments)) refl h

      -- A receiver that is neither an object nor null has the wrong sort.
      uncalled : (receiver : ValueTree) (arguments : List ValueTree)
          → IsRunningAt program config at point (receiver ∷ arguments) → ((object : ℕ) → receiver ≢ ObjectValue object)
          → receiver ≢ NullValue → mistyped at.task ≡ change → Rule program config at.index change
      uncalled receiver arguments is other named h =
          missorted program config at change runner point (receiver ∷ arguments) (Sends method target) is does
          (IsNoObject method target receiver arguments refl refl other named) h

      -- A call of null is a fault, and one of another value has the wrong sort.
      called : (values : List ValueTree) → IsRunningAt program config at point values
          → call_rule program config at (place_of point) (successor point.goes true) method target values ≡ change
          → Rule program config at.index change
      called (ObjectValue object ∷ arguments) is h =
          called_on object arguments is (slice_get config.objects object) refl h
      called (NullValue ∷ arguments) is h =
          faulted program config at change runner fault.Null (CallsNull point arguments method target is does refl) h
      called [] is h = missorted program config at change runner point [] (Sends method target) is does
          (HasNoReceiver method target refl refl) h
      called (IntValue number ∷ arguments) is h =
          uncalled (IntValue number) arguments is (λ object same. absurd cc) (λ same. absurd cc) h
      called (StringValue string ∷ arguments) is h =
          uncalled (StringValue string) arguments is (λ object same. absurd cc) (λ same. absurd cc) h
      called (BuiltValue constructor parts ∷ arguments) is h =
          uncalled (BuiltValue constructor parts) arguments is (λ object same. absurd cc) (λ same. absurd cc) h
      called (FutureValue task ∷ arguments) is h =
          uncalled (FutureValue task) arguments is (λ object same. absurd cc) (λ same. absurd cc) h

    module _ (values : List ValueTree) (is : IsRunningAt program config at point values) where
      -- A `get` gives the value or the fault of the future, and nothing happens without either.
      got_by : (slot : Option ℕ) (target : Option VariableTree) → effect_of point.statement ≡ Gets slot target
          → (future : ℕ) → named_value at.frame.slots slot ≡ Some (FutureValue future) → (task : TaskState)
          → slice_get config.tasks future ≡ Some task → (outcome : Option Result) → task.outcome ≡ outcome
          → get_by_outcome config at (successor point.goes true) target outcome ≡ Some change
          → Rule program config at.index change
      got_by slot target does future named task there None ends h = absurd cc
      got_by slot target does future named task there (Some (Gives value)) ends h = Got at point values slot target
          future task value refl is does named there ends (sym (same_Some _ _ h))
      got_by slot target does future named task there (Some (Fails cause)) ends h =
          faulted program config at change runner
          cause (GetsFault point values slot target future task is does named there ends) (same_Some _ _ h)

      -- It has the wrong sort where the future has no task.
      got_of : (slot : Option ℕ) (target : Option VariableTree) → effect_of point.statement ≡ Gets slot target
          → (future : ℕ) → named_value at.frame.slots slot ≡ Some (FutureValue future) → (task : Option TaskState)
          → slice_get config.tasks future ≡ task
          → get_by_task config at (successor point.goes true) target task ≡ Some change
          → Rule program config at.index change
      got_of slot target does future named None there h =
          missorted program config at change runner point values (Gets slot target) is does
          (HasNoTask slot target future refl named there) (same_Some _ _ h)
      got_of slot target does future named (Some task) there h =
          got_by slot target does future named task there task.outcome refl h

      -- What is neither a future nor null has the wrong sort.
      ungot : (slot : Option ℕ) (target : Option VariableTree) → effect_of point.statement ≡ Gets slot target
          → (held : Option ValueTree) → named_value at.frame.slots slot ≡ held
          → ((future : ℕ) → held ≢ Some (FutureValue future)) → held ≢ Some NullValue → mistyped at.task ≡ change
          → Rule program config at.index change
      ungot slot target does held named other null h =
          missorted program config at change runner point values (Gets slot target) is does
          (IsNoFuture slot target refl (λ future same. other future (sym named ∙ same))
          (λ same. null (sym named ∙ same))) h

      -- A `get` of null is a fault, and one of another value has the wrong sort.
      got : (slot : Option ℕ) (target : Option VariableTree) → effect_of point.statement ≡ Gets slot target
          → (named : Option ValueTree) → named_value at.frame.slots slot ≡ named
          → get_rule config at (successor point.goes true) target named ≡ Some change
          → Rule program config at.index change
      got slot target does (Some (FutureValue future)) named h =
          got_of slot target does future named (slice_get config.tasks future) refl h
      got slot target does (Some NullValue) named h =
          faulted program config at change runner
          fault.Null (GetsNull point values slot target is does named refl) (same_Some _ _ h)
      got slot target does None named h =
          ungot slot target does _ named (λ future same. absurd cc) (λ same. absurd cc) (same_Some _ _ h)
      got slot target does (Some (IntValue number)) named h =
          ungot slot target does _ named (λ future same. absurd cc) (λ same. absurd cc) (same_Some _ _ h)
      got slot target does (Some (StringValue string)) named h =
          ungot slot target does _ named (λ future same. absurd cc) (λ same. absurd cc) (same_Some _ _ h)
      got slot target does (Some (BuiltValue constructor parts)) named h =
          ungot slot target does _ named (λ future same. absurd cc) (λ same. absurd cc) (same_Some _ _ h)
      got slot target does (Some (ObjectValue object)) named h =
          ungot slot target does _ named (λ future same. absurd cc) (λ same. absurd cc) (same_Some _ _ h)

      -- An `await` is a fault, or waits, or goes on, as its futures allow.
      awaited : (names : List (Option ℕ)) → effect_of point.statement ≡ Awaits names → (guard : Guard)
          → guard_of config at.frame.slots names ≡ guard
          → await_rule config at (successor point.goes true) guard ≡ change → Rule program config at.index change
      awaited names does (Faulty cause) allows h =
          faulted program config at change runner cause (AwaitsFault point values names is does allows) h
      awaited names does Unresolved allows h = Released at point values names refl is does allows (sym h)
      awaited names does Resolved allows h = Passed at point values names refl is does allows (sym h)

      -- The event of a statement is the rule of its effect.
      rule_by_effect : (effect : EffectTree) → effect_of point.statement ≡ effect
          → rule_or at
          (statement_rule (used_of program (class_of (object_at config at.frame.object))) at.frame at.others
          (fields_of (object_at config at.frame.object)) point values effect)
          (statement_change program config at point values effect) ≡ Some change → Rule program config at.index change
      rule_by_effect Skips does h = Skipped at point values refl is does (sym (same_Some _ _ h))
      rule_by_effect Suspends does h = Suspended at point values refl is does (sym (same_Some _ _ h))
      rule_by_effect (Awaits names) does h =
          awaited names does (guard_of config at.frame.slots names) refl (same_Some _ _ h)
      rule_by_effect Chooses does h = chosen program config at change runner point does values is (same_Some _ _ h)
      rule_by_effect Returns does h = returned program config at change runner point does values is h
      rule_by_effect Prints does h = printed program config at change runner point does values is (same_Some _ _ h)
      rule_by_effect (Clears target) does h = Cleared at point values target refl is does (sym (same_Some _ _ h))
      rule_by_effect (Stores target) does h =
          stored program config at change runner point target does values is (same_Some _ _ h)
      rule_by_effect (Makes mode class target) does h =
          made mode class target does values is (class_taking program class) refl (same_Some _ _ h)
      rule_by_effect (Sends method target) does h = called method target does values is (same_Some _ _ h)
      rule_by_effect (CallsOwn method target) does h =
          pushed program config at change runner
          point method target does values is (object_at config at.frame.object) refl (same_Some _ _ h)
      rule_by_effect (CallsOther method slot target) does h =
          missorted program config at change runner point values (CallsOther method slot target) is does
          (IsFarCall method slot target refl) (same_Some _ _ h)
      rule_by_effect (Gets slot target) does h = got slot target does (named_value at.frame.slots slot) refl h

  -- what the task evaluates to at its next statement
  abbrev gives_at : Option Point → Results
  gives_at point =
      results_of (library_of program) (scope_of config at.frame) (exprs_at point) (initials_at program point)

  -- The event of the next statement, whose expressions give values, is one of the rules.
  rule_at : (values : List ValueTree) → gives_at (next_point program at.frame) ≡ AllGive values → (index : ℕ)
      → at.frame.next ≡ Some index → (point : Option Point)
      → slice_get (program_points program.source) index ≡ point
      → rule_or at (option_and_then (λ (next : Point).
      statement_rule (used_of program (class_of (object_at config at.frame.object))) at.frame at.others
      (fields_of (object_at config at.frame.object)) next values (effect_of next.statement)) point)
      (option_and_then (λ (next : Point).
      statement_change program config at next values (effect_of next.statement)) point)
      ≡ Some change → Rule program config at.index change
  rule_at values gives index next None is h = absurd cc
  rule_at values gives index next (Some point) is h =
      rule_by_effect point values (record {
        runner = runner;
        point_there = there;
        gives = subst (λ (point : Option Point). gives_at point ≡ AllGive values) there gives;
      }) (effect_of point.statement) refl h
    where
      there : next_point program at.frame ≡ Some point
      there = ap (option_and_then (slice_get (program_points program.source))) next ∙ is

  -- So is that of what is next in the frame, its end or a statement.
  rule_of_next : (values : List ValueTree) → gives_at (next_point program at.frame) ≡ AllGive values → (next : Option ℕ)
      → at.frame.next ≡ next
      → rule_or at (next_rule (used_of program (class_of (object_at config at.frame.object))) at.frame at.others
      (fields_of (object_at config at.frame.object)) values next) (other_change program config at values next)
      ≡ Some change → Rule program config at.index change
  rule_of_next values gives None is h =
      ended program config at change runner (unit_value program.names) (AtEnd is refl) at.others refl h
  rule_of_next values gives (Some index) is h =
      rule_at values gives index is (slice_get (program_points program.source) index) refl h

  -- So is a fault of the evaluation, which is one of the next statement.
  rule_of_fault : (cause : Fault) (point : Option Point) → next_point program at.frame ≡ point
      → gives_at point ≡ OneFails cause → ended_change at.task (Fails cause) ≡ change
      → Rule program config at.index change
  rule_of_fault cause None is fails h = absurd (nothing_fails program config at cause fails)
  rule_of_fault cause (Some point) is fails h =
      faulted program config at change runner cause (Evaluates point is fails) h

  -- So is the event with any output.
  rule_of_output : (results : Results) → gives_at (next_point program at.frame) ≡ results
      → run_change program config at results ≡ Some change → Rule program config at.index change
  unfolding local_rule
  rule_of_output (OneFails cause) gives h =
      rule_of_fault cause (next_point program at.frame) refl gives (same_Some _ _ h)
  rule_of_output (AllGive values) gives h = rule_of_next values gives at.frame.next refl
      (sym (rule_or_is program config at (AllGive values)
      (next_rule (used_of program (class_of (object_at config at.frame.object))) at.frame at.others
      (fields_of (object_at config at.frame.object)) values at.frame.next)) ∙ h)

module _ (program : ProgramTree) (config : Configuration) (index : ℕ) (change : Change) where
  -- The event of a task that runs is one of the rules, as its output is that of its innermost frame.
  rule_of_runner : (task : TaskState) → slice_get config.tasks index ≡ Some task → task.outcome ≡ None
      → task.state ≡ Running → (frame : FrameState) (others : List FrameState) → task.frames ≡ frame ∷ others
      → run_frames program config index task (output_of program (input_in program config Running frame))
      (frame ∷ others) ≡ Some change → Rule program config index change
  unfolding output_of
  rule_of_runner task there open_still runs frame others frames_are h = rule_of_output program config
      (record { index = index; task = task; frame = frame; others = others }) change
      (record { there = there; open_still = open_still; runs = runs; frames_are = frames_are })
      (output_of program (input_in program config Running frame)) refl h

  -- So is the event of a task in any state.
  rule_by_state : (task : TaskState) → slice_get config.tasks index ≡ Some task → task.outcome ≡ None
      → (frame : FrameState) (others : List FrameState) → task.frames ≡ frame ∷ others → (state : State)
      → task.state ≡ state
      → change_by_state program config index task (output_of program (input_in program config state frame)) state
      ≡ Some change → Rule program config index change
  rule_by_state task there open_still frame others frames_are Ready is h =
      taken program config index change task there open_still (IsReady is) (slice_get config.cogs task.cog) refl h
  rule_by_state task there open_still frame others frames_are Running is h =
      rule_of_runner task there open_still is frame others frames_are (subst (λ (frames : List FrameState).
      run_frames program config index task (output_of program (input_in program config Running frame)) frames
      ≡ Some change) frames_are h)
  rule_by_state task there open_still frame others frames_are Awaiting is h =
      woken program config index change task there open_still frame others is frames_are (next_point program frame) refl
      (subst (λ (frames : List FrameState). wake_rule program config index task frames ≡ Some change) frames_are h)

  -- A task that has a result has no event.
  rule_by_outcome : (task : TaskState) → slice_get config.tasks index ≡ Some task → (frame : FrameState)
      (others : List FrameState) → task.frames ≡ frame ∷ others → (outcome : Option Result) → task.outcome ≡ outcome
      → change_by_outcome program config index task (output_of program (input_in program config task.state frame))
      outcome ≡ Some change → Rule program config index change
  rule_by_outcome task there frame others frames_are (Some result) is h = absurd cc
  rule_by_outcome task there frame others frames_are None is h =
      rule_by_state task there is frame others frames_are task.state refl h

  -- A task without a frame has no input, and so no event.
  rule_by_frames : (task : TaskState) → slice_get config.tasks index ≡ Some task → (frames : List FrameState)
      → task.frames ≡ frames
      → option_and_then (λ (input : Input). change_by_outcome program config index task (output_of program input)
      task.outcome) (input_with program config task.state frames) ≡ Some change → Rule program config index change
  rule_by_frames task there [] is h = absurd cc
  rule_by_frames task there (frame ∷ others) is h = rule_by_outcome task there frame others is task.outcome refl h

  -- Without a task there is no event.
  rule_by_task : (task : Option TaskState) → slice_get config.tasks index ≡ task
      → option_and_then (λ (input : Input). change_of_task program config index (output_of program input) task)
      (input_of_task program config task) ≡ Some change → Rule program config index change
  rule_by_task None is h = absurd cc
  rule_by_task (Some task) is h = rule_by_frames task is task.frames refl h

-- Every event is one of the rules.
pub rule_of : (program : ProgramTree) (config : Configuration) (index : ℕ) (change : Change)
    → change_of program config index ≡ Some change → Rule program config index change
unfolding change_of change_by input_of
rule_of program config index change h = rule_by_task program config index change (slice_get config.tasks index) refl h
