-- A configuration stays well-formed by a change, if what the change brings is formed.
--
--   `Forms`                    what a change needs for this
--   `formed-after`             the configuration after such a change is well-formed
use Rattle.std.proofs.Common.{◌≡◌, ◌≢◌, ◌<◌, ℕ, [], length, slice_get, Option, Some, None, sym, ap, ◌∙◌, subst}
use Rattle.std.proofs.lemmas.Option.{none-some, same_Some}
use Rattle.abs_values.specs.Results.{Result, Gives}
use Rattle.abs_values.specs.ValueTrees.{ValueTree}
use Rattle.config_state.specs.Configurations.{ObjectState, TaskState, Configuration, Each}
use Rattle.config_state.specs.WellFormed.{ValueIsThere, AreThere, IsHolder, IsRunningIn, IsCogFormed, IsObjectFormed, IsFrameFormed, IsTaskFormed, IsWellFormed}
use Rattle.config_state.specs.declared.cog.Cog.{Cog}
use Rattle.config_state.specs.declared.task.State.TheVariants.{Ready, Running}
use Rattle.step_rules.proofs.AfterLemmas.{task-after, object-after, cog-after, task-moved, task-away, cog-held, cog-kept, cogs-grow, value-stays, values-stay, object_there-stays, formed_frames-stay}
use Rattle.step_rules.specs.Changes.{Written, Change, configuration_after}
use Rattle.step_rules.specs.Stays.{IsSameObject, TaskAfter, Moved, Old, New, ObjectAfter, Kept, Filled, Fresh, CogAfter, Untouched, Held, Founded}
use Rattle.list_facts.proofs.EntryLemmas.{slice_get-there}

-- What a change of a task needs: nobody else holds the cog of the task; it becomes the holder exactly where it then
-- runs; and what it then holds, what is written and what is made is formed.
pub record Forms (config : Configuration) (index : ℕ) (task : TaskState) (change : Change) : Type 0 where
  pub same_cog : change.task.cog ≡ task.cog
  pub same_object : change.task.object ≡ task.object
  pub own_cog : (cog : Cog) (holder : ℕ) → slice_get config.cogs task.cog ≡ Some cog → cog.holder ≡ Some holder
      → holder ≡ index
  pub holder_runs : (holder : ℕ) → change.holder ≡ Some holder → (holder ≡ index) × (change.task.state ≡ Running)
  pub holds : change.task.state ≡ Running → change.holder ≡ Some index
  pub frames : Each change.task.frames (λ depth frame. IsFrameFormed (configuration_after config index change) frame)
  pub result : (value : ValueTree) → change.task.outcome ≡ Some (Gives value)
      → ValueIsThere (configuration_after config index change) value
  pub ended : (result : Result) → change.task.outcome ≡ Some result
      → (change.task.frames ≡ []) × (change.task.state ≡ Ready)
  pub unfinished : change.task.outcome ≡ None → change.task.frames ≢ []
  pub written : (written : Written) → change.written ≡ Some written
      → AreThere (configuration_after config index change) written.fields
  pub new_cog : (cog : Cog) → change.cog ≡ Some cog
      → (cog.holder ≡ None) × (parent : ℕ) × (cog.parent ≡ Some parent) × (parent < length config.cogs)
  pub new_object : (object : ObjectState) → change.object ≡ Some object
      → IsObjectFormed (configuration_after config index change) object
  pub new_task : (new : TaskState) → change.new ≡ Some new
      → (place : ℕ) → IsTaskFormed (configuration_after config index change) place new

module _ (config : Configuration) (index : ℕ) (task : TaskState) (change : Change) (formed : IsWellFormed config)
    (there : slice_get config.tasks index ≡ Some task) (forms : Forms config index task change) where
  -- the cog of the task is there
  own_cog-there : change.task.cog < length config.cogs
  own_cog-there = subst (λ (cog : ℕ). cog < length config.cogs) (sym forms.same_cog)
      (formed.tasks_formed index task there).cog_there

  -- a holder of another cog still runs in it
  runs-still : (cog holder : ℕ) → cog ≢ change.task.cog → IsRunningIn config cog holder
      → IsRunningIn (configuration_after config index change) cog holder
  runs-still cog holder differs old = record {
    task = old.task;
    there = task-away config index change holder old.task task there old.there
        (λ same. differs (sym old.in_cog ∙ (same ∙ sym forms.same_cog)));
    in_cog = old.in_cog;
    runs = old.runs;
  }

  -- a task of another cog still holds it
  holds-still : (cog holder : ℕ) → cog ≢ change.task.cog → IsHolder config cog holder
      → IsHolder (configuration_after config index change) cog holder
  holds-still cog holder differs old = record {
    entry = old.entry;
    there = cog-kept config index change cog old.entry differs old.there;
    holds = old.holds;
  }

  -- each cog is formed
  cog-formed : (other : ℕ) (cog : Cog) → CogAfter config change other cog
      → IsCogFormed (configuration_after config index change) other cog
  cog-formed other cog (Untouched differs is) = record {
    parent_earlier = (formed.cogs_formed other cog is).parent_earlier;
    first_alone = (formed.cogs_formed other cog is).first_alone;
    holder_runs = λ holder has. runs-still other holder differs
        ((formed.cogs_formed other cog is).holder_runs holder has);
  }
  cog-formed other cog (Held before own is same) = record {
    parent_earlier = λ parent has. (formed.cogs_formed other before is).parent_earlier parent
        (sym (ap (λ (entry : Cog). entry.parent) same) ∙ has);
    first_alone = λ none. (formed.cogs_formed other before is).first_alone
        (sym (ap (λ (entry : Cog). entry.parent) same) ∙ none);
    holder_runs = λ holder has. (let held = forms.holder_runs holder
        (sym (ap (λ (entry : Cog). entry.holder) same) ∙ has) in record {
          task = change.task;
          there = ap (slice_get (configuration_after config index change).tasks) held.0
              ∙ task-moved config index change task there;
          in_cog = sym own;
          runs = held.1;
        });
  }
  cog-formed other cog (Founded last is) = record {
    parent_earlier = λ parent has. (let made = forms.new_cog cog is in
        subst (λ (count : ℕ). parent < count) (sym last)
        (subst (λ (found : ℕ). found < length config.cogs) (same_Some made.1 parent (sym made.2 ∙ has)) made.3));
    first_alone = λ none. (let made = forms.new_cog cog is in absurd (none-some made.1 (sym none ∙ made.2)));
    holder_runs = λ holder has. absurd (cc ((forms.new_cog cog is).0, has));
  }

  -- an old object is formed, if its fields are there
  object-still : (before object : ObjectState) → IsObjectFormed config before → IsSameObject before object
      → AreThere (configuration_after config index change) object.fields
      → IsObjectFormed (configuration_after config index change) object
  object-still before object old same fields = record {
    cog_there = subst (λ (cog : ℕ). cog < length (configuration_after config index change).cogs) (sym same.cog)
        (cogs-grow config index change before.cog old.cog_there);
    fields_there = fields;
  }

  -- each object is formed
  object-formed : (other : ℕ) (object : ObjectState) → ObjectAfter config change other object
      → IsObjectFormed (configuration_after config index change) object
  object-formed other object (Kept before is same fields) =
      let old = formed.objects_formed other before is in
      object-still before object old same (subst (AreThere (configuration_after config index change)) (sym fields)
      (values-stay config index change before.fields old.fields_there))
  object-formed other object (Filled before written is same was at fields) =
      object-still before object (formed.objects_formed other before is) same
      (subst (AreThere (configuration_after config index change)) (sym fields) (forms.written written was))
  object-formed other object (Fresh last is) = forms.new_object object is

  -- the task that changed holds its cog, if it runs
  moved-holds : change.task.state ≡ Running
      → IsHolder (configuration_after config index change) change.task.cog index
  moved-holds runs =
      let cog = slice_get-there config.cogs change.task.cog own_cog-there in record {
        entry = record cog.0 { holder = change.holder };
        there = cog-held config index change cog.0 cog.1;
        holds = forms.holds runs;
      }

  -- the task that changed is formed
  moved-formed : IsTaskFormed (configuration_after config index change) index change.task
  moved-formed = record {
    cog_there = cogs-grow config index change change.task.cog own_cog-there;
    object_there = object_there-stays config index change change.task.object (subst (λ (object : Option ℕ). (at : ℕ)
        → object ≡ Some at → at < length config.objects) (sym forms.same_object)
        (formed.tasks_formed index task there).object_there);
    frames_formed = forms.frames;
    result_there = forms.result;
    ended = forms.ended;
    unfinished = forms.unfinished;
    holds_cog = moved-holds;
  }

  -- each task is formed
  task-formed : (other : ℕ) (one : TaskState) → TaskAfter config index change other one
      → IsTaskFormed (configuration_after config index change) other one
  task-formed other one (Moved at is) =
      subst (λ (place : ℕ). IsTaskFormed (configuration_after config index change) place one) (sym at)
      (subst (IsTaskFormed (configuration_after config index change) index) (sym is) moved-formed)
  task-formed other one (Old differs is) =
      let old = formed.tasks_formed other one is in record {
        cog_there = cogs-grow config index change one.cog old.cog_there;
        object_there = object_there-stays config index change one.object old.object_there;
        frames_formed = formed_frames-stay config index change one.frames old.frames_formed;
        result_there = λ value has. value-stays config index change value (old.result_there value has);
        ended = old.ended;
        unfinished = old.unfinished;
        holds_cog = λ runs. (let held = old.holds_cog runs in
            holds-still one.cog other (λ same. differs (forms.own_cog held.entry other
            (ap (slice_get config.cogs) (sym forms.same_cog ∙ sym same) ∙ held.there) held.holds)) held);
      }
  task-formed other one (New last is) = forms.new_task one is other

  -- the configuration after the change is well-formed
  pub formed-after : IsWellFormed (configuration_after config index change)
  formed-after = record {
    cogs_formed = λ other cog is. cog-formed other cog (cog-after config index change other cog is);
    objects_formed = λ other object is. object-formed other object (object-after config index change other object is);
    tasks_formed = λ other one is. task-formed other one (task-after config index change other one is);
  }
