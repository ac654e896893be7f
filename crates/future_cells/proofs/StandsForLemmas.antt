-- When a ready set stands for a configuration.
--
--   `able-kept`                the tasks that have an event are told by what is kept
--   `stands_for`               by its posts and holders
--   `stands-same`, `moved-same`        where another one is the same
--   `agrees_but`, `stands_after`       after events of a task
use Rattle.std.proofs.Common.{◌≡◌, ◌≢◌, ℕ, List, length, slice_get, Option, Some, ◌∙◌, ap, sym}
use mathlib.Core.Logic.{∥∥₁_map₂}
use Rattle.abs_tree.specs.Syntax.{ProgramTree}
use Rattle.config_state.specs.Configurations.{TaskState, Configuration}
use Rattle.config_state.specs.OfProgram.{IsConfigOf}
use Rattle.config_state.specs.WellFormed.{IsWellFormed}
use Rattle.future_cells.proofs.AbleLemmas.{able-tasks_with_event}
use Rattle.step_rules.proofs.CauseLemmas.{ended_has_none}
use Rattle.step_rules.proofs.WaitLemmas.{event_unless_waits}
use Rattle.future_cells.specs.Ready.{KeptReady, able_tasks}
use Rattle.future_cells.specs.Standings.{IsPostOf, StandsFor, holders_of, tasks_with_event}
use Rattle.future_cells.specs.Following.{AgreesBut, Follows}
use Rattle.future_cells.specs.TaskEvents.{HasMoved}
use Rattle.future_cells.specs.declared.posts.Post.{Post}
use Rattle.step_rules.specs.declared.kind.Did.{Did}
use Rattle.step_rules.specs.declared.kind.Did.TheVariants.{Finished}

-- what follows of three facts
pub ∥∥₁_map₃ : {A B C D : Type 0} → ∥ A ∥₁ → ∥ B ∥₁ → ∥ C ∥₁ → (A → B → C → D) → ∥ D ∥₁
∥∥₁_map₃ {A} {B} {C} {D} one two three follows =
    let both : ∥ B × C ∥₁ = ∥∥₁_map₂ two three (λ b c. (b, c)) in
    ∥∥₁_map₂ one both (λ a others. follows a others.0 others.1)

-- where the posts and the holders are those of a configuration, the tasks that are able are those with an event
able-kept : (program : ProgramTree) (config : Configuration) → IsWellFormed config → IsConfigOf program config
    → (posts : List Post) (holders : List (Option ℕ)) → length posts ≡ length config.tasks
    → ((index : ℕ) (task : TaskState) (post : Post) → slice_get config.tasks index ≡ Some task
    → slice_get posts index ≡ Some post → IsPostOf program config task post)
    → holders ≡ holders_of config.cogs → able_tasks posts holders ≡ tasks_with_event program config
able-kept program config formed of_program posts holders count posts_are holders_are =
    able-tasks_with_event program config posts holders
    (λ index task there none. event_unless_waits program config index task formed of_program there none)
    (λ index task there some. ended_has_none program config index task there some) count posts_are holders_are

-- a ready set with the right posts and holders is that of the configuration
pub stands_for : (program : ProgramTree) (config : Configuration) (ready : KeptReady) → IsWellFormed config
    → IsConfigOf program config → ready.tasks ≡ able_tasks ready.posts ready.holders
    → length ready.posts ≡ length config.tasks
    → ((index : ℕ) (task : TaskState) (post : Post) → slice_get config.tasks index ≡ Some task
    → slice_get ready.posts index ≡ Some post → IsPostOf program config task post)
    → ready.holders ≡ holders_of config.cogs → StandsFor program config ready
stands_for program config ready formed of_program tasks count posts_are holders_are = record {
  tasks_are = tasks
      ∙ able-kept program config formed of_program ready.posts ready.holders count posts_are holders_are;
  post_for_each = count;
  posts_are = posts_are;
  holders_are = holders_are;
}

-- a ready set with the same list, posts and holders stands for the same configuration
stands-same : (program : ProgramTree) (config : Configuration) (ready now : KeptReady)
    → StandsFor program config ready → now.tasks ≡ ready.tasks → now.posts ≡ ready.posts
    → now.holders ≡ ready.holders → StandsFor program config now
stands-same program config ready now stood tasks posts holders = record {
  tasks_are = tasks ∙ stood.tasks_are;
  post_for_each = ap length posts ∙ stood.post_for_each;
  posts_are = λ index task post there posted.
      stood.posts_are index task post there (ap (λ all. slice_get all index) (sym posts) ∙ posted);
  holders_are = holders ∙ stood.holders_are;
}

-- so events of a task came since then
pub moved-same : (program : ProgramTree) (config : Configuration) (task : ℕ) (did : Did) (ready now : KeptReady)
    → HasMoved program config task did ready → now.tasks ≡ ready.tasks → now.posts ≡ ready.posts
    → now.holders ≡ ready.holders → HasMoved program config task did now
moved-same program config task did ready now moved tasks posts holders = record {
  before = moved.before;
  formed = moved.formed;
  stood = stands-same program moved.before ready now moved.stood tasks posts holders;
  events = moved.events;
}

-- where the task has ended, only tasks that waited for it do not agree
pub agrees_but : (program : ProgramTree) (config : Configuration) (index : ℕ) (did : Did) (ready : KeptReady)
    → Follows program config index did ready → did ≡ Finished → AgreesBut program config index ready
agrees_but program config index did ready follows finished = record {
  task = follows.task;
  there = follows.there;
  has_ended = follows.has_ended finished;
  post_for_each = follows.post_for_each;
  posts_are = follows.posts_are;
  holders_are = follows.holders_are;
}

-- where it has not, the ready set is that of the configuration
pub stands_after : (program : ProgramTree) (config : Configuration) (index : ℕ) (did : Did) (ready : KeptReady)
    → IsWellFormed config → IsConfigOf program config → ready.tasks ≡ able_tasks ready.posts ready.holders
    → Follows program config index did ready → did ≢ Finished → StandsFor program config ready
stands_after program config index did ready formed of_program tasks follows unfinished =
    stands_for program config ready formed of_program tasks follows.post_for_each (follows.unless unfinished)
    follows.holders_are
