-- What events of one task leave of a configuration.
--
--   `IsMoving`                 what a change says of its task, and of what it makes
--   `rule-moving`              each rule says so
--   `holders-with_holder`, `holders-added`     the holders after a cog got another one, and after a cog was made
--   `change-moved`             what one event leaves
--   `local-moved`              what a local event and those after it leave
--   `AreEvents-moved`          what one or more events leave
use Rattle.std.proofs.Common.{◌≡◌, ◌≢◌, ℕ, zero, suc, List, [], ◌∷◌, ◌++◌, codes, set, set-set, slice_get, Option, Some, None, IsSome, is_some, refl, sym, ap, ◌∙◌, subst}
use Rattle.std.proofs.lemmas.List.{map-append}
use Rattle.std.proofs.lemmas.Option.{same_Some, slice_get_within}
use Rattle.std.specs.Option.{option_map}
use Rattle.abs_program.specs.ProgramBodies.{BodyAt}
use Rattle.abs_tree.specs.Syntax.{Name, ProgramTree}
use Rattle.abs_tree.specs.declared.syntax.statement.Mode.{Mode}
use Rattle.abs_tree.specs.declared.syntax.statement.Mode.TheVariants as mode
use Rattle.abs_values.specs.Results.{Result}
use Rattle.config_state.specs.Bodies.{method_at}
use Rattle.config_state.specs.Configurations.{TaskState, Configuration}
use Rattle.config_state.specs.declared.cog.Cog.{Cog}
use Rattle.future_cells.proofs.ItemLemmas.{slice_get-set_same}
use Rattle.future_cells.specs.Moved.{IsNewTask, TasksAre, NoneMade, OneMade, IsMoved}
use Rattle.future_cells.specs.Ready.{holders_with}
use Rattle.future_cells.specs.Standings.{holders_of}
use Rattle.future_cells.specs.TaskEvents.{IsLocal, AreEvents, Last, Then}
use Rattle.step_rules.proofs.RuleLemmas.{rule_of}
use Rattle.step_rules.proofs.StayLemmas.{change_stays}
use Rattle.step_rules.specs.Changes.{Change, plain_change, kept_change, ended_change, with_holder, added, configuration_after}
use Rattle.step_rules.specs.Events.{change_of}
use Rattle.step_rules.specs.NewEntries.{task_for, cog_for, run_task}
use Rattle.step_rules.specs.Rules.{Rule, Taken, Faulted, Skipped, Stored, Cleared, Chosen, Printed, Made, Called, Pushed, Got, Passed, Released, Suspended, Gave, Popped}
use Rattle.step_rules.specs.Targets.{FramesAndFields}
use Rattle.step_rules.specs.declared.kind.Did.{Did}
use Rattle.step_rules.specs.declared.kind.Did.TheVariants.{Finished}

-- The task of the change has a result exactly where the kind is Finished. A task that is made is new, and nobody holds a
-- cog that is made.
record IsMoving (change : Change) : Type 0 where
  ended : change.did ≡ Finished → IsSome change.task.outcome
  unfinished : change.did ≢ Finished → change.task.outcome ≡ None
  new_is_new : (made : TaskState) → change.new ≡ Some made → IsNewTask made
  cog_is_free : (cog : Cog) → change.cog ≡ Some cog → cog.holder ≡ None

-- a task that goes on has no result
kept-moving : (index : ℕ) (task : TaskState) (object : Option ℕ) (own : FramesAndFields) (lines : List (List ℕ))
    (kind : Did) → task.outcome ≡ None → kind ≢ Finished → IsMoving (kept_change index task object own lines kind)
kept-moving index task object own lines kind still goes_on = record {
  ended = λ finished. absurd (goes_on finished);
  unfinished = λ differs. still;
  new_is_new = λ made is. absurd cc;
  cog_is_free = λ cog is. absurd cc;
}

-- so has one that takes or releases its cog
plain-moving : (task : TaskState) (holder : Option ℕ) (kind : Did) → task.outcome ≡ None → kind ≢ Finished
    → IsMoving (plain_change task holder kind)
plain-moving task holder kind still goes_on = record {
  ended = λ finished. absurd (goes_on finished);
  unfinished = λ differs. still;
  new_is_new = λ made is. absurd cc;
  cog_is_free = λ cog is. absurd cc;
}

-- a task that ends has one
ended-moving : (task : TaskState) (result : Result) → IsMoving (ended_change task result)
ended-moving task result = record {
  ended = λ finished. refl;
  unfinished = λ differs. absurd (differs refl);
  new_is_new = λ made is. absurd cc;
  cog_is_free = λ cog is. absurd cc;
}

-- the task of the method `run` of a new object is new
run-new : (program : ProgramTree) (cog object : ℕ) (class : Name) (run : Option ℕ) (made : TaskState)
    → run_task program cog object class run ≡ Some made → IsNewTask made
run-new program cog object class None made is = absurd cc
run-new program cog object class (Some member) made is = by (method_at program class (codes "run")) is
  where
    by : (found : Option BodyAt)
        → option_map (λ (body : BodyAt). task_for body cog object (codes "run") None []) found ≡ Some made
        → IsNewTask made
    by None is = absurd cc
    by (Some body) is = subst IsNewTask (same_Some _ made is) (record { ready = refl; unfinished = refl })

-- nobody holds a cog that a `new` makes
cog-free : (mode : Mode) (parent place : ℕ) (cog : Cog) → cog_for mode parent place ≡ Some cog → cog.holder ≡ None
cog-free mode.Cog parent place cog is = ap (λ (one : Cog). one.holder) (sym (same_Some _ cog is))
cog-free mode.Plain parent place cog is = absurd cc
cog-free (mode.Local at) parent place cog is = absurd cc

-- each rule says so
rule-moving : (program : ProgramTree) (config : Configuration) (index : ℕ) (change : Change)
    → Rule program config index change → IsMoving change
rule-moving program config index change (Taken task cog there open_still can_take cog_there free is) =
    subst IsMoving (sym is) (plain-moving _ _ _ open_still (λ finished. absurd cc))
rule-moving program config index change (Faulted at cause same runner fault is) =
    subst IsMoving (sym is) (ended-moving at.task _)
rule-moving program config index change (Skipped at point values same is_at effect is) =
    subst IsMoving (sym is) (kept-moving _ at.task _ _ _ _ is_at.runner.open_still (λ finished. absurd cc))
rule-moving program config index change (Stored at point target value same is_at effect is) =
    subst IsMoving (sym is) (kept-moving _ at.task _ _ _ _ is_at.runner.open_still (λ finished. absurd cc))
rule-moving program config index change (Cleared at point values target same is_at effect is) =
    subst IsMoving (sym is) (kept-moving _ at.task _ _ _ _ is_at.runner.open_still (λ finished. absurd cc))
rule-moving program config index change (Chosen at point value answer same is_at effect truth is) =
    subst IsMoving (sym is) (kept-moving _ at.task _ _ _ _ is_at.runner.open_still (λ finished. absurd cc))
rule-moving program config index change (Printed at point string same is_at effect is) =
    subst IsMoving (sym is) (kept-moving _ at.task _ _ _ _ is_at.runner.open_still (λ finished. absurd cc))
rule-moving program config index change (Made at point values mode class target entry same is_at effect class_there is) =
    subst IsMoving (sym is) (record {
      ended = λ finished. absurd cc;
      unfinished = λ differs. is_at.runner.open_still;
      new_is_new = run-new program _ _ class entry.run;
      cog_is_free = cog-free mode _ _;
    })
rule-moving program config index change
    (Called at point object cell arguments method target body same is_at effect cell_there can_call is) =
    subst IsMoving (sym is) (record {
      ended = λ finished. absurd cc;
      unfinished = λ differs. is_at.runner.open_still;
      new_is_new = λ made is_made.
          subst IsNewTask (same_Some _ made is_made) (record { ready = refl; unfinished = refl });
      cog_is_free = λ cog is_cog. absurd cc;
    })
rule-moving program config index change
    (Pushed at point object arguments method target body same is_at effect object_there can_call is) =
    subst IsMoving (sym is) (kept-moving _ at.task _ _ _ _ is_at.runner.open_still (λ finished. absurd cc))
rule-moving program config index change
    (Got at point values slot target future task value same is_at effect holds task_there gives is) =
    subst IsMoving (sym is) (kept-moving _ at.task _ _ _ _ is_at.runner.open_still (λ finished. absurd cc))
rule-moving program config index change (Passed at point values names same is_at effect resolved is) =
    subst IsMoving (sym is) (kept-moving _ at.task _ _ _ _ is_at.runner.open_still (λ finished. absurd cc))
rule-moving program config index change (Released at point values names same is_at effect unresolved is) =
    subst IsMoving (sym is) (plain-moving _ _ _ is_at.runner.open_still (λ finished. absurd cc))
rule-moving program config index change (Suspended at point values same is_at effect is) =
    subst IsMoving (sym is) (plain-moving _ _ _ is_at.runner.open_still (λ finished. absurd cc))
rule-moving program config index change (Gave at value same runner others_are value_of is) =
    subst IsMoving (sym is) (ended-moving at.task _)
rule-moving program config index change (Popped at below rest value same runner others_are value_of is) =
    subst IsMoving (sym is) (kept-moving _ at.task _ _ _ _ runner.open_still (λ finished. absurd cc))

-- the holders after a cog got another one
holders-with_holder : (cogs : List Cog) (cog : ℕ) (holder : Option ℕ)
    → holders_of (with_holder cogs cog holder) ≡ set (holders_of cogs) cog holder
holders-with_holder [] cog holder = refl
holders-with_holder (first ∷ others) zero holder = refl
holders-with_holder (first ∷ others) (suc cog) holder =
    ap (λ (rest : List (Option ℕ)). first.holder ∷ rest) (holders-with_holder others cog holder)

-- the holders after a cog was made, if one was
holders-added : (cogs : List Cog) (new : Option Cog) → ((cog : Cog) → new ≡ Some cog → cog.holder ≡ None)
    → holders_of (added new cogs) ≡ holders_with (is_some new) (holders_of cogs)
holders-added cogs None free = refl
holders-added cogs (Some cog) free = map-append (λ (one : Cog). one.holder) cogs (cog ∷ [])
    ∙ ap (λ (holder : Option ℕ). holders_of cogs ++ holder ∷ []) (free cog refl)

module _ (config : Configuration) (index : ℕ) (change : Change) where
  -- the tasks after a change whose new task is new
  tasks-after : ((made : TaskState) → change.new ≡ Some made → IsNewTask made)
      → TasksAre config (configuration_after config index change) index change.task
  unfolding configuration_after
  tasks-after is_new = by change.new refl
    where
      by : (new : Option TaskState) → change.new ≡ new
          → TasksAre config (configuration_after config index change) index change.task
      by None is = NoneMade (ap (λ (new : Option TaskState). added new (set config.tasks index change.task)) is)
      by (Some made) is = OneMade made (is_new made is)
          (ap (λ (new : Option TaskState). added new (set config.tasks index change.task)) is)

  -- the holders after a change whose new cog is free
  holders-after : ((cog : Cog) → change.cog ≡ Some cog → cog.holder ≡ None)
      → holders_of (configuration_after config index change).cogs
      ≡ holders_with (is_some change.cog) (set (holders_of config.cogs) change.task.cog change.holder)
  unfolding configuration_after
  holders-after free = holders-added (with_holder config.cogs change.task.cog change.holder) change.cog free
      ∙ ap (holders_with (is_some change.cog)) (holders-with_holder config.cogs change.task.cog change.holder)

-- what one event leaves
change-moved : (program : ProgramTree) (config : Configuration) (index : ℕ) (change : Change)
    → change_of program config index ≡ Some change
    → IsMoved config (configuration_after config index change) index change.did
change-moved program config index change is =
    let stays = change_stays program config index change is in
    let moving = rule-moving program config index change (rule_of program config index change is) in
    record {
      task = stays.task;
      there = stays.there;
      had_no_result = stays.had_no_result;
      moved = change.task;
      same_cog = stays.is_same.cog;
      ended = moving.ended;
      unfinished = moving.unfinished;
      tasks_are = tasks-after config index change moving.new_is_new;
      new_cog = is_some change.cog;
      holder = change.holder;
      holders_are = holders-after config index change moving.cog_is_free
          ∙ ap (λ (cog : ℕ). holders_with (is_some change.cog) (set (holders_of config.cogs) cog change.holder))
          stays.is_same.cog;
    }

module _ (program : ProgramTree) (config : Configuration) (index : ℕ) (change : Change)
    (local : IsLocal program config index change) where
  -- the configuration after the local event
  abbrev between : Configuration
  between = configuration_after config index change

  -- it makes no task
  tasks-between : between.tasks ≡ set config.tasks index change.task
  unfolding configuration_after
  tasks-between = ap (λ (one : Change). added one.new (set config.tasks index change.task)) local.change_is

  -- and no cog
  holders-between : holders_of between.cogs ≡ set (holders_of config.cogs) change.task.cog change.holder
  unfolding configuration_after
  holders-between =
      ap (λ (one : Change). holders_of (added one.cog (with_holder config.cogs change.task.cog change.holder)))
      local.change_is ∙ holders-with_holder config.cogs change.task.cog change.holder

  -- the task before it
  task-before : slice_get config.tasks index ≡ Some local.at.task
  task-before = ap (slice_get config.tasks) (sym local.index_is) ∙ local.runs.there

  -- the task after it
  task-between : slice_get between.tasks index ≡ Some change.task
  task-between = ap (λ (tasks : List TaskState). slice_get tasks index) tasks-between
      ∙ slice_get-set_same config.tasks index change.task
      (slice_get_within config.tasks index local.at.task task-before)

  -- the cog of the task stays
  cog-between : change.task.cog ≡ local.at.task.cog
  cog-between = ap (λ (one : Change). one.task.cog) local.change_is

  -- what a local event and those after it leave
  local-moved : (after : Configuration) (did : Did) → IsMoved between after index did → IsMoved config after index did
  local-moved after did rest = record {
    task = local.at.task;
    there = task-before;
    had_no_result = local.runs.open_still;
    moved = rest.moved;
    same_cog = rest.same_cog ∙ (same ∙ cog-between);
    ended = rest.ended;
    unfinished = rest.unfinished;
    tasks_are = by rest.tasks_are;
    new_cog = rest.new_cog;
    holder = rest.holder;
    holders_are = rest.holders_are ∙ ap (holders_with rest.new_cog) holders;
  }
    where
      same : rest.task.cog ≡ change.task.cog
      same = ap (λ (one : TaskState). one.cog) (same_Some rest.task change.task (sym rest.there ∙ task-between))

      tasks : set between.tasks index rest.moved ≡ set config.tasks index rest.moved
      tasks = ap (λ (all : List TaskState). set all index rest.moved) tasks-between
          ∙ set-set config.tasks index change.task rest.moved

      by : TasksAre between after index rest.moved → TasksAre config after index rest.moved
      by (NoneMade are) = NoneMade (are ∙ tasks)
      by (OneMade made new are) = OneMade made new (are ∙ ap (λ (all : List TaskState). all ++ made ∷ []) tasks)

      holders : set (holders_of between.cogs) rest.task.cog rest.holder
          ≡ set (holders_of config.cogs) local.at.task.cog rest.holder
      holders = ap (λ (cog : ℕ). set (holders_of between.cogs) cog rest.holder) same
          ∙ (ap (λ (all : List (Option ℕ)). set all change.task.cog rest.holder) holders-between
          ∙ (set-set (holders_of config.cogs) change.task.cog change.holder rest.holder
          ∙ ap (λ (cog : ℕ). set (holders_of config.cogs) cog rest.holder) cog-between))

-- what one or more events leave
pub AreEvents-moved : (program : ProgramTree) (task : ℕ) (after : Configuration) (did : Did) (before : Configuration)
    → AreEvents program task after did before → IsMoved before after task did
AreEvents-moved program task after did _ (Last before change event after_is did_is) =
    subst (λ (one : Configuration). IsMoved before one task did) (sym after_is)
    (subst (IsMoved before (configuration_after before task change) task) (sym did_is)
    (change-moved program before task change event))
AreEvents-moved program task after did _ (Then before change event local rest) =
    local-moved program before task change local after did
    (AreEvents-moved program task after did (configuration_after before task change) rest)
