-- A task that takes its cog, goes on, releases its cog or ends leaves a well-formed configuration well-formed.
--
--   `takes-formed`, `rests-formed`, `ends-formed`      the task takes its cog, releases it, or ends
--   `keeps-formed`                                     it goes on with frames and fields, and maybe something is made
--   `puts-formed`, `goes_on-formed`                    it goes on, and a value goes to a target
use Rattle.std.proofs.Common.{◌≡◌, ◌≢◌, ℕ, List, [], slice_get, Option, Some, None, refl, sym, ap, ◌∙◌, subst}
use Rattle.std.proofs.lemmas.Option.{same_Some}
use Rattle.abs_values.proofs.ResultLemmas.{IfGives, IfGives-at}
use Rattle.abs_values.specs.Results.{Result, Gives}
use Rattle.abs_values.specs.ValueTrees.{ValueTree}
use Rattle.config_state.proofs.EachLemmas.{Each-none}
use Rattle.config_state.specs.Configurations.{ObjectState, FrameState, TaskState, Configuration, Each, object_at, fields_of}
use Rattle.config_state.specs.WellFormed.{ValueIsThere, AreThere, IsObjectFormed, IsFrameFormed, IsTaskFormed, IsWellFormed}
use Rattle.config_state.specs.declared.cog.Cog.{Cog}
use Rattle.config_state.specs.declared.frame.Target.{Target}
use Rattle.config_state.specs.declared.task.State.TheVariants.{Running}
use Rattle.step_rules.proofs.AfterLemmas.{written-own, value-stays, values-stay, formed_frame-stays, formed_frames-stay}
use Rattle.step_rules.proofs.FormedLemmas.{formed-after}
use Rattle.step_rules.proofs.FormedPartLemmas.{fields_after-there, put-formed}
use Rattle.step_rules.proofs.OutputLemmas.{fields-there}
use Rattle.step_rules.specs.Changes.{Change, plain_change, kept_change, ended_change, configuration_after}
use Rattle.step_rules.specs.ObjectRules.{goes_on}
use Rattle.step_rules.specs.Targets.{FramesAndFields, put}
use Rattle.step_rules.specs.declared.kind.Did.{Did}
use Rattle.step_rules.specs.declared.kind.Did.TheVariants as did

module _ (config : Configuration) (index : ℕ) (task : TaskState) (formed : IsWellFormed config)
    (there : slice_get config.tasks index ≡ Some task) (open_still : task.outcome ≡ None) where
  -- nobody else holds the cog of a task that runs
  own_cog-held : task.state ≡ Running → (cog : Cog) (holder : ℕ) → slice_get config.cogs task.cog ≡ Some cog
      → cog.holder ≡ Some holder → holder ≡ index
  own_cog-held runs cog holder is has =
      let own = (formed.tasks_formed index task there).holds_cog runs in
      same_Some holder index (sym has ∙ (ap (λ (entry : Cog). entry.holder)
      (same_Some cog own.entry (sym is ∙ own.there)) ∙ own.holds))

  -- the task takes its cog, which is free
  pub takes-formed : (cog : Cog) → slice_get config.cogs task.cog ≡ Some cog → cog.holder ≡ None
      → IsWellFormed (configuration_after config index
      (plain_change (record task { state = Running }) (Some index) did.Took))
  takes-formed cog is free =
      let old = formed.tasks_formed index task there in
      let change = plain_change (record task { state = Running }) (Some index) did.Took in
      formed-after config index task change formed there (record {
        same_cog = refl;
        same_object = refl;
        own_cog = λ entry holder at has. absurd (cc (
          ap (λ (one : Cog). one.holder)
              (same_Some entry cog (sym at ∙ is)),
          has,
          free,
        ));
        holder_runs = λ holder has. (sym (same_Some index holder has), refl);
        holds = λ runs. refl;
        frames = formed_frames-stay config index change task.frames old.frames_formed;
        result = λ value has. absurd (cc (open_still, has));
        ended = λ result has. absurd (cc (open_still, has));
        unfinished = old.unfinished;
        written = λ written has. absurd cc;
        new_cog = λ entry has. absurd cc;
        new_object = λ entry has. absurd cc;
        new_task = λ entry has. absurd cc;
      })

  -- the task runs no more and releases its cog, but has no result
  pub rests-formed : task.state ≡ Running → (after : TaskState) (kind : Did) → after.cog ≡ task.cog
      → after.object ≡ task.object → after.outcome ≡ None → after.state ≢ Running → after.frames ≢ []
      → Each after.frames (λ depth frame. IsFrameFormed config frame)
      → IsWellFormed (configuration_after config index (plain_change after None kind))
  rests-formed runs after kind same_cog same_object open_after rests some_frame frames =
      let change = plain_change after None kind in
      formed-after config index task change formed there (record {
        same_cog = same_cog;
        same_object = same_object;
        own_cog = own_cog-held runs;
        holder_runs = λ holder has. absurd cc;
        holds = λ still. absurd (rests still);
        frames = formed_frames-stay config index change after.frames frames;
        result = λ value has. absurd (cc (open_after, has));
        ended = λ result has. absurd (cc (open_after, has));
        unfinished = λ none. some_frame;
        written = λ written has. absurd cc;
        new_cog = λ entry has. absurd cc;
        new_object = λ entry has. absurd cc;
        new_task = λ entry has. absurd cc;
      })

  -- the task ends with a result
  pub ends-formed : task.state ≡ Running → (result : Result) → IfGives result (ValueIsThere config)
      → IsWellFormed (configuration_after config index (ended_change task result))
  ends-formed runs result result_there =
      let change = ended_change task result in
      formed-after config index task change formed there (record {
        same_cog = refl;
        same_object = refl;
        own_cog = own_cog-held runs;
        holder_runs = λ holder has. absurd cc;
        holds = λ still. absurd cc;
        frames = Each-none _;
        result = λ value has. value-stays config index change value
            (IfGives-at result (ValueIsThere config) value (same_Some result (Gives value) has) result_there);
        ended = λ one has. (refl, refl);
        unfinished = λ none. absurd cc;
        written = λ written has. absurd cc;
        new_cog = λ entry has. absurd cc;
        new_object = λ entry has. absurd cc;
        new_task = λ entry has. absurd cc;
      })

  -- the change of a task that goes on with these frames and fields, where maybe something is made
  abbrev pub keeps : Option ℕ → FramesAndFields → List (List ℕ) → Did → Option Cog → Option ObjectState → Option TaskState → Change
  keeps at own lines kind cog object new =
      record (kept_change index task at own lines kind) { cog = cog; object = object; new = new }

  -- the task goes on and holds its cog
  pub keeps-formed : task.state ≡ Running → (at : Option ℕ) (own : FramesAndFields) (lines : List (List ℕ)) (kind : Did)
      (cog : Option Cog) (object : Option ObjectState) (new : Option TaskState)
      → own.frames ≢ []
      → Each own.frames (λ depth frame. IsFrameFormed
      (configuration_after config index (keeps at own lines kind cog object new)) frame)
      → AreThere (configuration_after config index (keeps at own lines kind cog object new)) own.fields
      → ((entry : Cog) → cog ≡ Some entry
      → (entry.holder ≡ None) × (entry.parent ≡ Some task.cog))
      → ((entry : ObjectState) → object ≡ Some entry
      → IsObjectFormed (configuration_after config index (keeps at own lines kind cog object new)) entry)
      → ((entry : TaskState) → new ≡ Some entry → (place : ℕ)
      → IsTaskFormed (configuration_after config index (keeps at own lines kind cog object new)) place entry)
      → IsWellFormed (configuration_after config index (keeps at own lines kind cog object new))
  keeps-formed runs at own lines kind cog object new some_frame frames fields cog_made object_made task_made =
      let change = keeps at own lines kind cog object new in
      formed-after config index task change formed there (record {
        same_cog = refl;
        same_object = refl;
        own_cog = own_cog-held runs;
        holder_runs = λ holder has. (sym (same_Some index holder has), runs);
        holds = λ still. refl;
        frames = frames;
        result = λ value has. absurd (cc (open_still, has));
        ended = λ result has. absurd (cc (open_still, has));
        unfinished = λ none. some_frame;
        written = λ written has. subst (AreThere (configuration_after config index change))
            (sym (written-own at own.fields written has).1) fields;
        new_cog = λ entry has. (let made = cog_made entry has in
            (made.0, task.cog, made.1, (formed.tasks_formed index task there).cog_there));
        new_object = object_made;
        new_task = task_made;
      })

  -- that of a task that goes on, where a value goes to a target of this frame
  abbrev pub puts : Target → ValueTree → Option ℕ → FrameState → List FrameState → List (List ℕ) → Did → Option Cog
      → Option ObjectState → Option TaskState → Change
  puts target value next frame others lines kind cog object new =
      keeps frame.object (put target value next frame others (fields_of (object_at config frame.object))) lines kind
      cog object new

  -- the task goes on, a value goes to a target, and what is made is formed
  pub puts-formed : task.state ≡ Running → (target : Target) (value : ValueTree) (next : Option ℕ) (frame : FrameState)
      (others : List FrameState) (lines : List (List ℕ)) (kind : Did) (cog : Option Cog) (object : Option ObjectState)
      (new : Option TaskState) → IsFrameFormed config frame → Each others (λ depth one. IsFrameFormed config one)
      → ValueIsThere (configuration_after config index
      (puts target value next frame others lines kind cog object new)) value
      → ((entry : Cog) → cog ≡ Some entry
      → (entry.holder ≡ None) × (entry.parent ≡ Some task.cog))
      → ((entry : ObjectState) → object ≡ Some entry → IsObjectFormed (configuration_after config index
      (puts target value next frame others lines kind cog object new)) entry)
      → ((entry : TaskState) → new ≡ Some entry → (place : ℕ) → IsTaskFormed (configuration_after config index
      (puts target value next frame others lines kind cog object new)) place entry)
      → IsWellFormed (configuration_after config index (puts target value next frame others lines kind cog object new))
  puts-formed runs target value next frame others lines kind cog object new frame_formed others_formed value_there
      cog_made object_made task_made =
      let change = puts target value next frame others lines kind cog object new in
      let after = configuration_after config index change in
      let fields = fields_of (object_at config frame.object) in
      keeps-formed runs frame.object (put target value next frame others fields) lines kind cog object new
      (λ none. absurd cc)
      (put-formed after target value next frame others fields value_there
      (formed_frame-stays config index change frame frame_formed)
      (formed_frames-stay config index change others others_formed))
      (fields_after-there after target value fields value_there
      (values-stay config index change fields (fields-there config formed frame.object)))
      cog_made object_made task_made

  -- the task goes on, a value goes to a target, and nothing is made
  pub goes_on-formed : task.state ≡ Running → (target : Target) (value : ValueTree) (next : Option ℕ)
      (frame : FrameState) (others : List FrameState) (lines : List (List ℕ)) (kind : Did) → IsFrameFormed config frame
      → Each others (λ depth one. IsFrameFormed config one) → ValueIsThere config value
      → IsWellFormed (configuration_after config index
      (goes_on config index task target value next frame others lines kind))
  goes_on-formed runs target value next frame others lines kind frame_formed others_formed value_there =
      puts-formed runs target value next frame others lines kind None None None frame_formed others_formed
      (value-stays config index (puts target value next frame others lines kind None None None) value value_there)
      (λ entry has. absurd cc) (λ entry has. absurd cc) (λ entry has. absurd cc)
