-- What an event changes, and how the change is put in place.
--
--   `Written`, `Change`        the new fields of an object, and all that an event changes
--   `kept_change`, `ended_change`      the task goes on and holds its cog, or it ends with a result
--   `updated`, `added`         lists with one entry changed, and with one more entry
--   `configuration_after`      the configuration after a change of a task
use Rattle.std.specs.Prelude.{ℕ, zero, suc, List, [], ◌∷◌, ◌++◌, set, Option, Some, None}
use Rattle.std.specs.Option.{option_map}
use Rattle.abs_values.specs.Results.{Result}
use Rattle.abs_values.specs.ValueTrees.{ValueTree}
use Rattle.config_state.specs.Configurations.{ObjectState, TaskState, Configuration}
use Rattle.config_state.specs.declared.cog.Cog.{Cog}
use Rattle.config_state.specs.declared.task.State.TheVariants.{Ready}
use Rattle.step_rules.specs.Targets.{FramesAndFields}
use Rattle.step_rules.specs.declared.kind.Did.{Did}
use Rattle.step_rules.specs.declared.kind.Did.TheVariants as did

-- the new values of the fields of an object
pub record Written : Type 0 where
  pub object : ℕ
  pub fields : List ValueTree

-- all that an event changes: the task, the holder of its cog, and the fields of an object; the cog, the object and the
-- task that are made; the lines that are printed; and its kind. An event inside a method gives the fields of the object
-- anew, also where no value of them is another
pub record Change : Type 0 where
  pub task : TaskState
  pub holder : Option ℕ
  pub written : Option Written
  pub cog : Option Cog
  pub object : Option ObjectState
  pub new : Option TaskState
  pub lines : List (List ℕ)
  pub did : Did

-- the task changes, and the holder of its cog; nothing is written, made or printed
abbrev pub plain_change : TaskState → Option ℕ → Did → Change
plain_change task holder kind = record {
  task = task;
  holder = holder;
  written = None;
  cog = None;
  object = None;
  new = None;
  lines = [];
  did = kind;
}

-- the task goes on with these frames, holds its cog, and the fields of the object of its innermost frame are these
abbrev pub kept_change : ℕ → TaskState → Option ℕ → FramesAndFields → List (List ℕ) → Did → Change
kept_change index task object own lines kind = record {
  task = record task { frames = own.frames };
  holder = Some index;
  written = option_map (λ at. record { object = at; fields = own.fields }) object;
  cog = None;
  object = None;
  new = None;
  lines = lines;
  did = kind;
}

-- the task ends with this result: it has no frame any more, and nobody holds its cog
abbrev pub ended_change : TaskState → Result → Change
ended_change task result =
    plain_change (record task { frames = []; state = Ready; outcome = Some result }) None did.Finished

-- a list whose entry at an index is changed
abbrev pub updated : {A : Type 0} → (A → A) → List A → ℕ → List A
updated change [] index = []
updated change (first ∷ others) zero = change first ∷ others
updated change (first ∷ others) (suc index) = first ∷ updated change others index

-- a list with one more entry, if there is one
abbrev pub added : {A : Type 0} → Option A → List A → List A
added None list = list
added (Some entry) list = list ++ entry ∷ []

-- cogs of which one has this holder
abbrev pub with_holder : List Cog → ℕ → Option ℕ → List Cog
with_holder cogs cog holder = updated (λ (entry : Cog). record entry { holder = holder }) cogs cog

-- objects of which one has these fields
abbrev pub with_fields : List ObjectState → Option Written → List ObjectState
with_fields objects None = objects
with_fields objects (Some written) =
    updated (λ (entry : ObjectState). record entry { fields = written.fields }) objects written.object

-- the configuration after a change of a task
unfoldable pub configuration_after : Configuration → ℕ → Change → Configuration
configuration_after config index change = record {
  cogs = added change.cog (with_holder config.cogs change.task.cog change.holder);
  objects = added change.object (with_fields config.objects change.written);
  tasks = added change.new (set config.tasks index change.task);
}
