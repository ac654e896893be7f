-- What was there before a change, and what is there after it.
--
--   `written-own`                                  what a task that goes on writes
--   `task-after`, `object-after`, `cog-after`      what a task, an object and a cog after a change were before it
--   `task-moved`, `task-kept`, `task-away`         the task that changes, another one, and one of another cog
--   `cog-held`, `cog-kept`, `cog-there`            the cog of this task, another one, and each one
--   `object-kept`, `object-there`                  an object that is not written, and each one
--   `tasks-grow`, `objects-grow`, `cogs-grow`      no list gets shorter
--   `there-stays`, ..                              what is there stays there
--   `task-new`, `object-new`, `cog-new`            what is made is at the end of its list
use Rattle.std.proofs.Common.{◌≡◌, ◌≢◌, ◌⊎◌, ◌<◌, ℕ, inl, inr, List, length, set, slice_get, Option, Some, None, refl, sym, ap, ◌∙◌, subst, arith}
use Rattle.std.proofs.lemmas.Bool.{cases_eq}
use Rattle.std.proofs.lemmas.List.{length-set}
use Rattle.std.proofs.lemmas.Option.{same_Some, slice_get_within}
use Rattle.std.specs.Option.{option_map}
use Rattle.abs_values.specs.References.{Reference, ToObject, ToFuture}
use Rattle.abs_values.specs.ValueTrees.{ValueTree}
use Rattle.config_state.specs.Configurations.{ObjectState, FrameState, TaskState, Configuration, Each}
use Rattle.config_state.specs.WellFormed.{IsThere, ValueIsThere, AreThere, IsFrameFormed}
use Rattle.config_state.specs.declared.cog.Cog.{Cog}
use Rattle.step_rules.proofs.ListLemmas.{set-updated, updated-same, updated-other, length-updated, WasUpdated, updated-entry, added-there, added-last, length-added, WasAdded, added-entry}
use Rattle.step_rules.specs.Changes.{Written, Change, with_holder, with_fields, configuration_after}
use Rattle.step_rules.specs.Stays.{IsSameObject, TaskAfter, Moved, Old, New, ObjectAfter, Kept, Filled, Fresh, CogAfter, Untouched, Held, Founded}
use Rattle.list_facts.proofs.EntryLemmas.{slice_get-there}

-- an object with the fields that are written, and a cog with a holder
abbrev filled : Written → ObjectState → ObjectState
filled written object = record object { fields = written.fields }

abbrev held : Option ℕ → Cog → Cog
held holder cog = record cog { holder = holder }

-- the objects are as many after fields were written
length-with_fields : (objects : List ObjectState) (written : Option Written)
    → length (with_fields objects written) ≡ length objects
length-with_fields objects None = refl
length-with_fields objects (Some written) = length-updated (filled written) objects written.object

-- what a task that goes on writes are these fields of this object
pub written-own : (object : Option ℕ) (fields : List ValueTree) (written : Written)
    → option_map (λ (at : ℕ). record { object = at; fields = fields }) object ≡ Some written
    → (object ≡ Some written.object) × (written.fields ≡ fields)
written-own None fields written is = absurd cc
written-own (Some at) fields written is =
    let same = same_Some _ written is in
    (ap (λ (one : Written). Some one.object) same, ap (λ (one : Written). one.fields) (sym same))

-- An object is there after a change, with its cog, place and class, and with its fields or with those that are written.
abbrev pub ObjectStays : Configuration → ℕ → Change → ℕ → ObjectState → Type 0
ObjectStays config index change other before =
    (now : ObjectState) × (slice_get (configuration_after config index change).objects other ≡ Some now)
    × IsSameObject before now
    × ((now.fields ≡ before.fields) ⊎ ((written : Written) × (change.written ≡ Some written)
    × (written.object ≡ other) × (now.fields ≡ written.fields)))

-- A cog is there after a change, with its parent and place, and with its holder if it is not the cog of the task.
abbrev pub CogStays : Configuration → ℕ → Change → ℕ → Cog → Type 0
CogStays config index change other before =
    (now : Cog) × (slice_get (configuration_after config index change).cogs other ≡ Some now)
    × (now.parent ≡ before.parent) × (now.place ≡ before.place)
    × ((other ≢ change.task.cog) → now.holder ≡ before.holder)

module _ (config : Configuration) (index : ℕ) (change : Change) where
  -- the configuration after the change
  abbrev after : Configuration
  after = configuration_after config index change

  -- a task after a change is that which moved, another old one, or the new one
  pub task-after : (other : ℕ) (task : TaskState) → slice_get after.tasks other ≡ Some task
      → TaskAfter config index change other task
  unfolding configuration_after
  task-after other task is = by_added (added-entry change.new (set config.tasks index change.task) other task is)
    where
      by_set : WasUpdated (λ (entry : TaskState). change.task) config.tasks index other task
          → TaskAfter config index change other task
      by_set (inl old) = Old old.0 old.1
      by_set (inr moved) = Moved moved.0 moved.3

      by_added : WasAdded change.new (set config.tasks index change.task) other task
          → TaskAfter config index change other task
      by_added (inl old) = by_set (updated-entry (λ (entry : TaskState). change.task) config.tasks index other task
          (ap (λ (tasks : List TaskState). slice_get tasks other) (sym (set-updated config.tasks index change.task))
          ∙ old))
      by_added (inr last) = New (last.0 ∙ length-set config.tasks index change.task) last.1

  -- an object after a change is an old one, with its fields as before or as written, or the new one
  pub object-after : (other : ℕ) (object : ObjectState) → slice_get after.objects other ≡ Some object
      → ObjectAfter config change other object
  unfolding configuration_after
  object-after other object is =
      by_added (added-entry change.object (with_fields config.objects change.written) other object is)
    where
      by_entry : (written : Written) → change.written ≡ Some written
          → WasUpdated (filled written) config.objects written.object other object
          → ObjectAfter config change other object
      by_entry written was (inl old) = Kept object old.1 (record { cog = refl; place = refl; class = refl }) refl
      by_entry written was (inr now) = Filled now.1 written now.2
          (subst (IsSameObject now.1) (sym now.3) (record { cog = refl; place = refl; class = refl })) was (sym now.0)
          (ap (λ (entry : ObjectState). entry.fields) now.3)

      by_written : (written : Option Written) → change.written ≡ written
          → slice_get (with_fields config.objects written) other ≡ Some object → ObjectAfter config change other object
      by_written None was there = Kept object there (record { cog = refl; place = refl; class = refl }) refl
      by_written (Some written) was there = by_entry written was
          (updated-entry (filled written) config.objects written.object other object there)

      by_added : WasAdded change.object (with_fields config.objects change.written) other object
          → ObjectAfter config change other object
      by_added (inl old) = by_written change.written refl old
      by_added (inr last) = Fresh (last.0 ∙ length-with_fields config.objects change.written) last.1

  -- there are as many cogs after one got its holder
  length-with_holder : length (with_holder config.cogs change.task.cog change.holder) ≡ length config.cogs
  length-with_holder = length-updated (held change.holder) config.cogs change.task.cog

  -- a cog after a change is an old one, that of the task with its new holder, or the new one
  pub cog-after : (other : ℕ) (cog : Cog) → slice_get after.cogs other ≡ Some cog → CogAfter config change other cog
  unfolding configuration_after
  cog-after other cog is =
      by_added (added-entry change.cog (with_holder config.cogs change.task.cog change.holder) other cog is)
    where
      by_entry : WasUpdated (held change.holder) config.cogs change.task.cog other cog
          → CogAfter config change other cog
      by_entry (inl old) = Untouched old.0 old.1
      by_entry (inr now) = Held now.1 now.0 now.2 now.3

      by_added : WasAdded change.cog (with_holder config.cogs change.task.cog change.holder) other cog
          → CogAfter config change other cog
      by_added (inl old) = by_entry (updated-entry (held change.holder) config.cogs change.task.cog other cog old)
      by_added (inr last) = Founded (last.0 ∙ length-with_holder) last.1

  -- the task that changes
  pub task-moved : (task : TaskState) → slice_get config.tasks index ≡ Some task
      → slice_get after.tasks index ≡ Some change.task
  unfolding configuration_after
  task-moved task there = added-there change.new (set config.tasks index change.task) index change.task
      (rw (set-updated config.tasks index change.task)
      (updated-same (λ (entry : TaskState). change.task) config.tasks index task there))

  -- another task is as before
  pub task-kept : (other : ℕ) (task : TaskState) → other ≢ index → slice_get config.tasks other ≡ Some task
      → slice_get after.tasks other ≡ Some task
  unfolding configuration_after
  task-kept other task differs there = added-there change.new (set config.tasks index change.task) other task
      (rw (set-updated config.tasks index change.task)
      (updated-other (λ (entry : TaskState). change.task) config.tasks index other task differs there))

  -- so is one of another cog than that of the task that changes
  pub task-away : (other : ℕ) (task moved : TaskState) → slice_get config.tasks index ≡ Some moved
      → slice_get config.tasks other ≡ Some task → task.cog ≢ moved.cog → slice_get after.tasks other ≡ Some task
  task-away other task moved moved_there there apart = task-kept other task
      (λ same. apart (ap (λ (one : TaskState). one.cog)
      (same_Some task moved (sym there ∙ (ap (slice_get config.tasks) same ∙ moved_there))))) there

  -- the cog of the task gets a holder
  pub cog-held : (cog : Cog) → slice_get config.cogs change.task.cog ≡ Some cog
      → slice_get after.cogs change.task.cog ≡ Some (record cog { holder = change.holder })
  unfolding configuration_after
  cog-held cog there = added-there change.cog (with_holder config.cogs change.task.cog change.holder) change.task.cog
      (held change.holder cog) (updated-same (held change.holder) config.cogs change.task.cog cog there)

  -- another cog is as before
  pub cog-kept : (other : ℕ) (cog : Cog) → other ≢ change.task.cog → slice_get config.cogs other ≡ Some cog
      → slice_get after.cogs other ≡ Some cog
  unfolding configuration_after
  cog-kept other cog differs there =
      added-there change.cog (with_holder config.cogs change.task.cog change.holder) other cog
      (updated-other (held change.holder) config.cogs change.task.cog other cog differs there)

  -- each cog is there
  pub cog-there : (other : ℕ) (before : Cog) → slice_get config.cogs other ≡ Some before
      → CogStays config index change other before
  cog-there other before there = by_index (cases_eq other change.task.cog)
    where
      by_index : (other ≡ change.task.cog) ⊎ (other ≢ change.task.cog) → CogStays config index change other before
      by_index (inl same) = (
        held change.holder before,
        ap (slice_get after.cogs) same ∙ cog-held before (ap (slice_get config.cogs) (sym same) ∙ there),
        refl,
        refl,
        λ differs. absurd (differs same),
      )
      by_index (inr differs) = (before, cog-kept other before differs there, refl, refl, λ other_cog. refl)

  -- tasks do not get fewer
  tasks-grow : (task : ℕ) → task < length config.tasks → task < length after.tasks
  unfolding configuration_after
  tasks-grow task within = omega (
    arith,
    within,
    length-set config.tasks index change.task,
    length-added change.new (set config.tasks index change.task),
  )

  -- objects do not get fewer
  pub objects-grow : (object : ℕ) → object < length config.objects → object < length after.objects
  unfolding configuration_after
  objects-grow object within = omega (
    arith,
    within,
    length-with_fields config.objects change.written,
    length-added change.object (with_fields config.objects change.written),
  )

  -- cogs do not get fewer
  pub cogs-grow : (cog : ℕ) → cog < length config.cogs → cog < length after.cogs
  unfolding configuration_after
  cogs-grow cog within = omega (
    arith,
    within,
    length-with_holder,
    length-added change.cog (with_holder config.cogs change.task.cog change.holder),
  )

  -- an object that is not written is as before
  pub object-kept : (other : ℕ) (before : ObjectState) → slice_get config.objects other ≡ Some before
      → ((written : Written) → change.written ≡ Some written → other ≢ written.object)
      → slice_get after.objects other ≡ Some before
  unfolding configuration_after
  object-kept other before there unwritten =
      added-there change.object (with_fields config.objects change.written) other before
      (by_written change.written unwritten)
    where
      by_written : (written : Option Written) → ((one : Written) → written ≡ Some one → other ≢ one.object)
          → slice_get (with_fields config.objects written) other ≡ Some before
      by_written None unwritten = there
      by_written (Some written) unwritten =
          updated-other (filled written) config.objects written.object other before (unwritten written refl) there

  -- each object is there
  pub object-there : (other : ℕ) (before : ObjectState) → slice_get config.objects other ≡ Some before
      → ObjectStays config index change other before
  object-there other before there =
      let now = slice_get-there after.objects other (objects-grow other within) in
      by_after now.0 now.1 (object-after other now.0 now.1)
    where
      within : other < length config.objects
      within = slice_get_within config.objects other before there

      by_after : (now : ObjectState) → slice_get after.objects other ≡ Some now → ObjectAfter config change other now
          → ObjectStays config index change other before
      by_after now now_there (Kept was was_there same fields) =
          rw (← (same_Some was before (sym was_there ∙ there))) (now, now_there, same, inl fields)
      by_after now now_there (Filled was written was_there same is at fields) =
          rw (← (same_Some was before (sym was_there ∙ there))) (now, now_there, same, inr (written, is, at, fields))
      by_after now now_there (Fresh last is) = absurd (omega (arith, within, last))

  -- what is there stays there
  there-stays : (reference : Reference) → IsThere config reference → IsThere after reference
  there-stays (ToObject object) within = objects-grow object within
  there-stays (ToFuture task) within = tasks-grow task within

  -- a value that is there stays there
  pub value-stays : (value : ValueTree) → ValueIsThere config value → ValueIsThere after value
  value-stays value there reference inside = there-stays reference (there reference inside)

  -- values that are there stay there
  pub values-stay : (values : List ValueTree) → AreThere config values → AreThere after values
  values-stay values there place value is = value-stays value (there place value is)

  -- an object that is there, if there is one, stays there
  pub object_there-stays : (object : Option ℕ) → ((at : ℕ) → object ≡ Some at → at < length config.objects)
      → (at : ℕ) → object ≡ Some at → at < length after.objects
  object_there-stays object there at is = objects-grow at (there at is)

  -- a frame that is formed stays formed
  pub formed_frame-stays : (frame : FrameState) → IsFrameFormed config frame → IsFrameFormed after frame
  formed_frame-stays frame formed = record {
    object_there = object_there-stays frame.object formed.object_there;
    slots_there = values-stay frame.slots formed.slots_there;
  }

  -- frames that are formed stay formed
  pub formed_frames-stay : (frames : List FrameState) → Each frames (λ depth frame. IsFrameFormed config frame)
      → Each frames (λ depth frame. IsFrameFormed after frame)
  formed_frames-stay frames formed depth frame is = formed_frame-stays frame (formed depth frame is)

  -- the task that is made is the last one
  pub task-new : (task : TaskState) → change.new ≡ Some task → slice_get after.tasks (length config.tasks) ≡ Some task
  unfolding configuration_after
  task-new task is = added-last change.new (set config.tasks index change.task) (length config.tasks) task is
      (sym (length-set config.tasks index change.task))

  -- the object that is made is the last one
  pub object-new : (object : ObjectState) → change.object ≡ Some object
      → slice_get after.objects (length config.objects) ≡ Some object
  unfolding configuration_after
  object-new object is =
      added-last change.object (with_fields config.objects change.written) (length config.objects) object is
      (sym (length-with_fields config.objects change.written))

  -- the cog that is made is the last one
  pub cog-new : (cog : Cog) → change.cog ≡ Some cog → slice_get after.cogs (length config.cogs) ≡ Some cog
  unfolding configuration_after
  cog-new cog is = added-last change.cog (with_holder config.cogs change.task.cog change.holder) (length config.cogs)
      cog is (sym length-with_holder)
