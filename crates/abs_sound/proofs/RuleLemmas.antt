-- Each rule of the table of events keeps an order of knowledge.
--
--   `rule_ordered`             the order after an event is the one that is named
use Rattle.std.proofs.Common.{◌≡◌, true, ℕ, zero, suc, inl, inr, ⊎_elim, List, [], ◌∷◌, slice_get, Option, Some, None, refl, sym, ap, ◌∙◌, subst, length}
use Rattle.std.proofs.lemmas.Option.{none-some, same_Some}
use Rattle.abs_profile.specs.Accepted.{IsAcceptedProgram}
use Rattle.abs_program.specs.Bodies.{ClassEntryTree}
use Rattle.abs_program.specs.Control.{Point}
use Rattle.abs_program.specs.Instructions.{Stores, Sends, CallsOwn, Returns, effect_of}
use Rattle.abs_program.specs.ProgramBodies.{BodyAt, entry_of_body}
use Rattle.abs_sound.proofs.AfterLemmas.{OrderAfter, before_transitive, call_order, plain_order, run_order}
use Rattle.abs_sound.proofs.KnowledgeLemmas.{no_future_in_object, nothing_in_null, put_known, start_known, values_known}
use Rattle.abs_sound.proofs.TaskLemmas.{ended_knows, future_inside, given_known, named_there, new_known, nothing_in_unit, run_called, same_future, same_known}
use Rattle.abs_sound.specs.Knowledge.{HasKnowledgeOrder, IsBefore, InResult, InSlot, TaskKnows}
use Rattle.abs_tree.specs.Syntax.{Name, VariableTree, ProgramTree}
use Rattle.abs_tree.specs.declared.syntax.statement.Mode.{Mode}
use Rattle.abs_values.specs.References.{ToFuture, IsIn}
use Rattle.abs_values.specs.Results.{Gives}
use Rattle.abs_values.specs.ValueTrees.{ValueTree, FutureValue, NullValue, ObjectValue}
use Rattle.config_state.specs.Configurations.{ObjectState, FrameState, TaskState, Configuration, object_at, fields_of}
use Rattle.config_state.specs.First.{frame_for}
use Rattle.config_state.specs.OfProgram.{IsConfigOf}
use Rattle.config_state.specs.declared.frame.Target.{Target}
use Rattle.config_state.specs.declared.frame.Target.TheVariants.{Nothing}
use Rattle.step_rules.specs.Changes.{Change, kept_change}
use Rattle.step_rules.specs.Lookups.{Runner, named_value, place_of, successor}
use Rattle.step_rules.specs.NewEntries.{home_of, task_for}
use Rattle.step_rules.specs.ObjectRules.{call_with, goes_on, new_with}
use Rattle.step_rules.specs.RuleParts.{IsRunner, IsRunningAt, IsValueOf, AtEnd, ByReturn}
use Rattle.step_rules.specs.Rules.{Rule, Taken, Faulted, Skipped, Stored, Cleared, Chosen, Printed, Made, Called, Pushed, Got, Passed, Released, Suspended, Gave, Popped}
use Rattle.step_rules.specs.Targets.{slots_after, target_of}
use Rattle.step_rules.specs.declared.kind.Did.{Did}
use Rattle.step_rules.specs.declared.kind.Did.TheVariants as did
use Rattle.type_sound.specs.WellTyped.{IsWellTyped}

module _ (program : ProgramTree) (config : Configuration) (index : ℕ) (change : Change)
    (known : HasKnowledgeOrder config) (accepted : IsAcceptedProgram program)
    (of_program : IsConfigOf program config) (typed : IsWellTyped program config) where
  module _ (at : Runner) (same : at.index ≡ index) (runner : IsRunner config at) where
    -- the task that moves is there
    there : slice_get config.tasks index ≡ Some at.task
    there = ap (slice_get config.tasks) (sym same) ∙ runner.there

    -- it has no result
    still : change.task.outcome ≡ at.task.outcome → change.task.outcome ≡ None
    still outcome = outcome ∙ runner.open_still

    -- what it knew comes after it
    knew : (future : ℕ) → TaskKnows at.task future → IsBefore known.order index future
    knew future knows = known.later index future (record { task = at.task; there = there; knows = knows })

    -- what it knows after a value went to a target of one of its frames comes after it, if that does which is inside
    -- the value
    put_ordered : (frame : FrameState) (others : List FrameState) (depth : ℕ) (target : Target) (value : ValueTree)
        (next : Option ℕ) → slice_get at.task.frames depth ≡ Some frame
        → ((lower : ℕ) (below : FrameState) → slice_get others lower ≡ Some below
        → (up : ℕ) × (slice_get at.task.frames up ≡ Some below))
        → change.task.frames ≡ record frame { slots = slots_after target value frame.slots; next = next } ∷ others
        → change.task.outcome ≡ at.task.outcome
        → ((future : ℕ) → IsIn (ToFuture future) value → IsBefore known.order index future)
        → (future : ℕ) → TaskKnows change.task future → IsBefore known.order index future
    put_ordered frame others depth target value next is lower frames outcome inside future knows = ⊎_elim
        (inside future) (knew future)
        (put_known at.task change.task frame others depth target value next future is lower frames (still outcome) knows)

    -- the innermost frame, and those below it
    innermost : slice_get at.task.frames 0 ≡ Some at.frame
    innermost = ap (λ (all : List FrameState). slice_get all 0) runner.frames_are

    lower : (depth : ℕ) (below : FrameState) → slice_get at.others depth ≡ Some below
        → (up : ℕ) × (slice_get at.task.frames up ≡ Some below)
    lower depth below is =
        (suc depth, ap (λ (all : List FrameState). slice_get all (suc depth)) runner.frames_are ∙ is)

    -- the task goes on, and a value goes to a target of its innermost frame
    goes_ordered : (target : Target) (value : ValueTree) (next : Option ℕ) (lines : List (List ℕ)) (kind : Did)
        → change ≡ goes_on config index at.task target value next at.frame at.others lines kind
        → ((future : ℕ) → IsIn (ToFuture future) value → IsBefore known.order index future)
        → OrderAfter config known index change
    goes_ordered target value next lines kind is inside =
        plain_order config index change known (at.task, there) (ap (λ (one : Change). one.new) is)
        (put_ordered at.frame at.others 0 target value next innermost lower
        (ap (λ (one : Change). one.task.frames) is) (ap (λ (one : Change). one.task.outcome) is) inside)

    -- null goes to it, or nothing does
    null_ordered : (target : Target) (next : Option ℕ) (lines : List (List ℕ)) (kind : Did)
        → change ≡ goes_on config index at.task target NullValue next at.frame at.others lines kind
        → OrderAfter config known index change
    null_ordered target next lines kind is =
        goes_ordered target NullValue next lines kind is (λ future inside. absurd (nothing_in_null future inside))

    -- what is inside a value with which a frame ends comes after the task
    ends_known : (value : ValueTree) → IsValueOf program config at value → (future : ℕ) → IsIn (ToFuture future) value
        → IsBefore known.order index future
    ends_known value (AtEnd none is) future inside =
        absurd (nothing_in_unit program.names future (subst (IsIn (ToFuture future)) is inside))
    ends_known value (ByReturn point running is) future inside =
        knew future (values_known program config accepted of_program typed at runner point (value ∷ []) Returns running is
        refl 0 future value refl inside)

  -- new: the object has no future inside, and the task of `run` knows nothing
  made_ordered : (at : Runner) (point : Point) (values : List ValueTree) (mode : Mode) (class : Name)
      (target : Option VariableTree) (entry : ClassEntryTree) → at.index ≡ index
      → IsRunningAt program config at point values
      → change ≡ new_with program config at (place_of point) (successor point.goes true) mode class target values
      (Some entry)
      → OrderAfter config known index change
  made_ordered at point values mode class target entry same running is =
      by_new change.new refl
    where
      moved : (future : ℕ) → TaskKnows change.task future → IsBefore known.order index future
      moved = put_ordered at same running.runner at.frame at.others 0 (target_of target)
          (ObjectValue (length config.objects)) (successor point.goes true) (innermost at same running.runner)
          (lower at same running.runner) (ap (λ (one : Change). one.task.frames) is)
          (ap (λ (one : Change). one.task.outcome) is)
          (λ future inside. absurd (no_future_in_object future (length config.objects) inside))

      by_new : (new : Option TaskState) → change.new ≡ new → OrderAfter config known index change
      by_new None none =
          plain_order config index change known (at.task, there at same running.runner) none moved
      by_new (Some task) some =
          let called = run_called program (home_of mode config at.task.cog) (length config.objects) class entry.run task
          (sym (ap (λ (one : Change). one.new) is) ∙ some) in
          run_order config index change known (at.task, there at same running.runner) task some called.0 called.1 moved

  -- call: the new task knows what its caller knew, and the caller knows the new future
  called_ordered : (at : Runner) (point : Point) (object : ℕ) (cell : ObjectState) (arguments : List ValueTree)
      (method : Name) (target : Option VariableTree) (body : BodyAt) → at.index ≡ index
      → IsRunningAt program config at point (ObjectValue object ∷ arguments)
      → effect_of point.statement ≡ Sends method target
      → change ≡ call_with config at (place_of point) (successor point.goes true) object cell method target arguments
      (Some body)
      → OrderAfter config known index change
  called_ordered at point object cell arguments method target body same running effect is =
      let runner = running.runner in
      call_order config index change known (at.task, there at same runner)
      (task_for body cell.cog object method (Some (place_of point)) arguments) (place_of point)
      (ap (λ (one : Change). one.new) is) refl
      (λ future knows.
      let own = new_known body cell.cog object method (Some (place_of point)) arguments future knows in
      knew at same runner future
      (values_known program config accepted of_program typed at runner point (ObjectValue object ∷ arguments)
      (Sends method target) running effect refl (suc own.0) future own.1 own.2 own.3))
      (λ future knows. ⊎_elim (λ new. inl (same_future future (length config.tasks) new))
      (λ old. inr (knew at same runner future old))
      (put_known at.task change.task at.frame at.others 0 (target_of target) (FutureValue (length config.tasks))
      (successor point.goes true) future (innermost at same runner) (lower at same runner)
      (ap (λ (one : Change). one.task.frames) is)
      (still at same runner (ap (λ (one : Change). one.task.outcome) is)) knows))

  -- own call: the new frame holds what is inside the arguments
  pushed_ordered : (at : Runner) (point : Point) (arguments : List ValueTree) (method : Name)
      (target : Option VariableTree) (body : BodyAt) → at.index ≡ index
      → IsRunningAt program config at point arguments → effect_of point.statement ≡ CallsOwn method target
      → change ≡ kept_change index at.task at.frame.object (record {
        frames = frame_for (entry_of_body body) (Some method) at.frame.object arguments (target_of target)
            ∷ record at.frame { next = successor point.goes true } ∷ at.others;
        fields = fields_of (object_at config at.frame.object);
      }) [] did.Called
      → OrderAfter config known index change
  pushed_ordered at point arguments method target body same running effect is =
      plain_order config index change known (at.task, there at same running.runner)
      (ap (λ (one : Change). one.new) is) moved
    where
      frames : change.task.frames ≡ frame_for (entry_of_body body) (Some method) at.frame.object arguments
          (target_of target) ∷ record at.frame { next = successor point.goes true } ∷ at.others
      frames = ap (λ (one : Change). one.task.frames) is

      by_depth : (future depth slot : ℕ) (frame : FrameState) (value : ValueTree)
          → slice_get (frame_for (entry_of_body body) (Some method) at.frame.object arguments (target_of target)
          ∷ record at.frame { next = successor point.goes true } ∷ at.others) depth ≡ Some frame
          → slice_get frame.slots slot ≡ Some value → IsIn (ToFuture future) value
          → IsBefore known.order index future
      by_depth future zero slot frame value found slot_is inside =
          knew at same running.runner future
          (values_known program config accepted of_program typed at running.runner point arguments
          (CallsOwn method target) running effect refl slot future value
          (start_known (entry_of_body body) (Some method) at.frame.object arguments (target_of target) slot value future
          (ap (λ (one : FrameState). slice_get one.slots slot) (same_Some _ frame found) ∙ slot_is) inside) inside)
      by_depth future (suc zero) slot frame value found slot_is inside =
          knew at same running.runner future
          (InSlot 0 slot at.frame value (innermost at same running.runner)
          (ap (λ (one : FrameState). slice_get one.slots slot) (same_Some _ frame found) ∙ slot_is) inside)
      by_depth future (suc (suc depth)) slot frame value found slot_is inside =
          let below = lower at same running.runner depth frame found in
          knew at same running.runner future (InSlot below.0 slot frame value below.1 slot_is inside)

      moved : (future : ℕ) → TaskKnows change.task future → IsBefore known.order index future
      moved future (InSlot depth slot frame value found slot_is inside) =
          by_depth future depth slot frame value
          (ap (λ (all : List FrameState). slice_get all depth) (sym frames) ∙ found) slot_is inside
      moved future (InResult value outcome inside) =
          absurd (none-some (Gives value)
          (sym (still at same running.runner (ap (λ (one : Change). one.task.outcome) is)) ∙ outcome))

  -- get: what is inside the value of a task comes after that task, which comes after the one that gets it
  got_ordered : (at : Runner) (point : Point) (values : List ValueTree) (slot : Option ℕ) (target : Option VariableTree)
      (future : ℕ) (task : TaskState) (value : ValueTree) → at.index ≡ index
      → IsRunningAt program config at point values → named_value at.frame.slots slot ≡ Some (FutureValue future)
      → slice_get config.tasks future ≡ Some task → task.outcome ≡ Some (Gives value)
      → change ≡ goes_on config index at.task (target_of target) value (successor point.goes true)
      at.frame at.others [] did.Went
      → OrderAfter config known index change
  got_ordered at point values slot target future task value same running holds got outcome is =
      let named = named_there at.frame.slots slot (FutureValue future) holds in
      let own = knew at same running.runner future
      (InSlot 0 named.0 at.frame (FutureValue future) (innermost at same running.runner) named.1
      (future_inside future)) in
      goes_ordered at same running.runner (target_of target) value (successor point.goes true) [] did.Went is
      (λ other inside. before_transitive known.order (length config.tasks) index future other known.once own
      (known.later future other (record { task = task; there = got; knows = InResult value outcome inside })))

  -- return of an inner frame: the value goes to the frame below
  popped_ordered : (at : Runner) (below : FrameState) (rest : List FrameState) (value : ValueTree) → at.index ≡ index
      → IsRunner config at → at.others ≡ below ∷ rest → IsValueOf program config at value
      → change ≡ goes_on config index at.task at.frame.target value below.next below rest [] did.Went
      → OrderAfter config known index change
  popped_ordered at below rest value same runner others ends is =
      plain_order config index change known (at.task, there at same runner) (ap (λ (one : Change). one.new) is)
      (put_ordered at same runner below rest 1 at.frame.target value below.next
      (ap (λ (all : List FrameState). slice_get all 1) runner.frames_are
      ∙ ap (λ (all : List FrameState). slice_get all 0) others)
      (λ depth found found_is. lower at same runner (suc depth) found
      (ap (λ (all : List FrameState). slice_get all (suc depth)) others ∙ found_is))
      (ap (λ (one : Change). one.task.frames) is) (ap (λ (one : Change). one.task.outcome) is)
      (ends_known at same runner value ends))

  -- each rule of the table keeps the order
  pub rule_ordered : Rule program config index change → OrderAfter config known index change
  rule_ordered (Taken task cog is_there open_still can cog_there free is) =
      plain_order config index change known (task, is_there) (ap (λ (one : Change). one.new) is)
      (λ future knows. known.later index future (record {
        task = task;
        there = is_there;
        knows = same_known task change.task future (ap (λ (one : Change). one.task.frames) is)
            (ap (λ (one : Change). one.task.outcome) is) knows;
      }))
  rule_ordered (Faulted at cause same runner fails is) =
      plain_order config index change known (at.task, there at same runner) (ap (λ (one : Change). one.new) is)
      (λ future knows. absurd (ended_knows change.task cause future (ap (λ (one : Change). one.task.frames) is)
      (ap (λ (one : Change). one.task.outcome) is) knows))
  rule_ordered (Skipped at point values same running effect is) =
      null_ordered at same running.runner Nothing (successor point.goes true) [] did.Went is
  rule_ordered (Stored at point target value same running effect is) =
      goes_ordered at same running.runner (target_of target) value (successor point.goes true) [] did.Went is
      (λ future inside. knew at same running.runner future
      (values_known program config accepted of_program typed at running.runner point (value ∷ []) (Stores target) running
      effect refl 0 future value refl inside))
  rule_ordered (Cleared at point values target same running effect is) =
      null_ordered at same running.runner (target_of (Some target)) (successor point.goes true) [] did.Went is
  rule_ordered (Chosen at point value answer same running effect truth is) =
      null_ordered at same running.runner Nothing (successor point.goes answer) [] did.Went is
  rule_ordered (Printed at point string same running effect is) =
      null_ordered at same running.runner Nothing (successor point.goes true) (string ∷ []) did.Printed is
  rule_ordered (Made at point values mode class target entry same running effect taking is) =
      made_ordered at point values mode class target entry same running is
  rule_ordered (Called at point object cell arguments method target body same running effect object_there callable is) =
      called_ordered at point object cell arguments method target body same running effect is
  rule_ordered (Pushed at point object arguments method target body same running effect object_is callable is) =
      pushed_ordered at point arguments method target body same running effect is
  rule_ordered (Got at point values slot target future task value same running effect holds got outcome is) =
      got_ordered at point values slot target future task value same running holds got outcome is
  rule_ordered (Passed at point values names same running effect resolved is) =
      null_ordered at same running.runner Nothing (successor point.goes true) [] did.Went is
  rule_ordered (Released at point values names same running effect unresolved is) =
      plain_order config index change known (at.task, there at same running.runner)
      (ap (λ (one : Change). one.new) is)
      (λ future knows. knew at same running.runner future
      (same_known at.task change.task future (ap (λ (one : Change). one.task.frames) is)
      (ap (λ (one : Change). one.task.outcome) is) knows))
  rule_ordered (Suspended at point values same running effect is) =
      plain_order config index change known (at.task, there at same running.runner)
      (ap (λ (one : Change). one.new) is)
      (put_ordered at same running.runner at.frame at.others 0 Nothing NullValue (successor point.goes true)
      (innermost at same running.runner) (lower at same running.runner) (ap (λ (one : Change). one.task.frames) is)
      (ap (λ (one : Change). one.task.outcome) is) (λ future inside. absurd (nothing_in_null future inside)))
  rule_ordered (Gave at value same runner alone ends is) =
      plain_order config index change known (at.task, there at same runner) (ap (λ (one : Change). one.new) is)
      (λ future knows. ends_known at same runner value ends future
      (given_known change.task value future (ap (λ (one : Change). one.task.frames) is)
      (ap (λ (one : Change). one.task.outcome) is) knows))
  rule_ordered (Popped at below rest value same runner others ends is) =
      popped_ordered at below rest value same runner others ends is
