-- How a ready set comes to stand for a configuration.
--
--   `stands_none`, `stands_more`       no task, and one more, has what it is by itself
--   `stands_all`                       all tasks have
--   `going_open`                       a task that goes has not ended
--   `posts_count`                      there is a post for each task of the code
use Rattle.std.proofs.Common.{◌≡◌, ◌≢◌, ◌<◌, ◌≤◌, ◌+◌, ◌⊎◌, ⊎_elim, ℕ, Bool, true, false, List, length, set, slice_get, Some, arith, sym, ap, ◌∙◌, subst}
use Rattle.std.proofs.Math.ListN.{length-set}
use Rattle.std.proofs.lemmas.Bool.{true≢false}
use Rattle.std.proofs.lemmas.List.{length-map}
use Rattle.std.proofs.lemmas.Option.{same_Some, slice_get_within}
use Rattle.abs_tree.specs.Syntax.{Name, ProgramTree}
use Rattle.config_state.specs.ConfigViews.{configuration}
use Rattle.config_state.specs.Configurations.{TaskState, Configuration}
use Rattle.config_state.specs.Views.{task_state}
use Rattle.config_state.specs.declared.config.Config.{Config}
use Rattle.future_cells.proofs.ItemLemmas.{slice_get-set_cases}
use Rattle.future_cells.specs.Following.{StandsUpTo, going_post, going_posts}
use Rattle.future_cells.specs.Ready.{KeptReady}
use Rattle.future_cells.specs.Standings.{IsStanding, IsPostOf, holders_of}
use Rattle.future_cells.specs.declared.posts.Post.{Post}
use Rattle.future_cells.specs.declared.posts.Standing.{Standing}
use Rattle.future_cells.specs.declared.posts.Standing.TheVariants.{Ended, Waits, Goes}
use Rattle.list_facts.proofs.EntryLemmas.{slice_get-mapped}

-- the post of a task as if it went has the cog of the task
going_cog : (names : List Name) (config : Config) (index : ℕ) (task : TaskState) (post : Post)
    → slice_get (configuration names config).tasks index ≡ Some task
    → slice_get (going_posts config.tasks) index ≡ Some post → (post.cog ≡ task.cog) × (post.standing ≡ Goes)
going_cog names config index task post found posted =
    let cell = slice_get-mapped (task_state names) config.tasks index task found in
    let other = slice_get-mapped going_post config.tasks index post posted in
    let same = same_Some cell.0 other.0 (sym cell.1 ∙ other.1) in (
      sym (ap (λ (post : Post). post.cog) other.2) ∙ sym (ap (λ cell. cell.cog) same)
          ∙ ap (λ (task : TaskState). task.cog) cell.2,
      sym (ap (λ (post : Post). post.standing) other.2),
    )

-- no task has what it is by itself, but all go
pub stands_none : (program : ProgramTree) (names : List Name) (config : Config) (ready : KeptReady)
    → ready.posts ≡ going_posts config.tasks → ready.holders ≡ holders_of config.cogs
    → StandsUpTo program (configuration names config) 0 ready
stands_none program names config ready posts holders = record {
  post_for_each = ap length posts ∙ length-map config.tasks going_post
      ∙ sym (length-map config.tasks (task_state names));
  cogs_are = λ index task post found posted.
      (going_cog names config index task post found (ap (λ all. slice_get all index) (sym posts) ∙ posted)).0;
  before = λ index task post found posted below. absurd (omega (arith, below));
  going = λ index post posted above. sym (ap (λ (post : Post). post.standing)
      (slice_get-mapped going_post config.tasks index post
      (ap (λ all. slice_get all index) (sym posts) ∙ posted)).2);
  holders_are = holders;
}

-- one more task has what it is by itself
pub stands_more : (program : ProgramTree) (config : Configuration) (count : ℕ) (ready after : KeptReady)
    (task : TaskState) (post : Post) (standing : Standing) → StandsUpTo program config count ready
    → slice_get config.tasks count ≡ Some task → slice_get ready.posts count ≡ Some post
    → after.posts ≡ set ready.posts count (record post { standing = standing }) → after.holders ≡ ready.holders
    → IsStanding program config task standing → StandsUpTo program config (count + 1) after
stands_more program config count ready after task post standing so_far there posted posts holders is = record {
  post_for_each = ap length posts ∙ length-set ready.posts count (record post { standing = standing })
      ∙ so_far.post_for_each;
  cogs_are = λ index other found other_there other_posted.
      ⊎_elim
      (λ here. ap (λ (post : Post). post.cog) here.1 ∙ so_far.cogs_are count task post there posted
      ∙ ap (λ (task : TaskState). task.cog)
      (same_Some task other (sym there ∙ ap (slice_get config.tasks) (sym here.0) ∙ other_there)))
      (λ elsewhere. so_far.cogs_are index other found other_there elsewhere.1)
      (cases index found other_posted);
  before = λ index other found other_there other_posted below.
      ⊎_elim
      (λ here. subst (λ (post : Post). IsStanding program config other post.standing) (sym here.1)
      (subst (λ (task : TaskState). IsStanding program config task standing)
      (same_Some task other (sym there ∙ ap (slice_get config.tasks) (sym here.0) ∙ other_there)) is))
      (λ elsewhere. so_far.before index other found other_there elsewhere.1 (below_count index below elsewhere.0))
      (cases index found other_posted);
  going = λ index found other_posted above.
      ⊎_elim
      (λ here. absurd (omega (arith, here.0, above)))
      (λ elsewhere. so_far.going index found elsewhere.1 (omega (arith, above)))
      (cases index found other_posted);
  holders_are = holders ∙ so_far.holders_are;
}
  where
    cases : (index : ℕ) (found : Post) → slice_get after.posts index ≡ Some found
        → ((index ≡ count) × (found ≡ record post { standing = standing }))
        ⊎ ((index ≢ count) × (slice_get ready.posts index ≡ Some found))
    cases index found posted_after =
        slice_get-set_cases ready.posts count index (record post { standing = standing }) found
        (ap (λ all. slice_get all index) (sym posts) ∙ posted_after)

    below_count : (index : ℕ) → index < count + 1 → index ≢ count → index < count
    below_count index below differs = omega (arith, below, differs)

-- all tasks have what they are by themselves
pub stands_all : (program : ProgramTree) (config : Configuration) (count : ℕ) (ready : KeptReady)
    → StandsUpTo program config count ready → length config.tasks ≤ count
    → (index : ℕ) (task : TaskState) (post : Post) → slice_get config.tasks index ≡ Some task
    → slice_get ready.posts index ≡ Some post → IsPostOf program config task post
stands_all program config count ready so_far all index task post found posted = record {
  cog_is = so_far.cogs_are index task post found posted;
  standing_is = so_far.before index task post found posted
      (omega (arith, slice_get_within config.tasks index task found, all));
}

-- whether a standing is that of a task that goes
abbrev is_goes : Standing → Bool
is_goes Goes = true
is_goes (Waits future) = false
is_goes Ended = false

-- a task that goes has not ended
pub going_open : (post : Post) → post.standing ≡ Goes → post.standing ≢ Ended
going_open post goes ended = true≢false (ap is_goes (sym goes ∙ ended))

-- there is a post for each task of the code
pub posts_count : (program : ProgramTree) (names : List Name) (config : Config) (count : ℕ) (ready : KeptReady)
    → StandsUpTo program (configuration names config) count ready → length ready.posts ≡ length config.tasks
posts_count program names config count ready so_far =
    so_far.post_for_each ∙ length-map config.tasks (task_state names)
