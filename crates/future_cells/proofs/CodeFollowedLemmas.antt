-- What the events of a task leave, as the code has it.
--
--   `home_is`                  the cog of the last task, if there is one more than before
--   `home-there`               the cog of a new task is there
--   `cogs-count`, `posts-count`        there is a holder for each cog, and a post for each task, with that of the new one
--   `moved-within`             the task of the events is there
--   `moved-open`               its post is not that of an ended task
--   `follows-code`             the ready set follows the events
use Rattle.std.proofs.Common.{◌≡◌, ◌≢◌, ◌<◌, ℕ, nat_lt, List, length, set, slice_get, Option, Some, None, option_map, arith, refl, sym, ap, ◌∙◌, subst}
use Rattle.std.proofs.lemmas.List.{length-map}
use Rattle.std.proofs.lemmas.Option.{same_Some, slice_get-map, slice_get_within}
use Rattle.abs_tree.specs.Syntax.{Name, ProgramTree}
use Rattle.config_state.specs.ConfigViews.{configuration}
use Rattle.config_state.specs.Configurations.{TaskState}
use Rattle.config_state.specs.Views.{task_state}
use Rattle.config_state.specs.declared.cog.Cog.{Cog}
use Rattle.config_state.specs.declared.config.Config.{Config}
use Rattle.config_state.specs.declared.task.TaskCell.{TaskCell}
use Rattle.future_cells.proofs.FollowedLemmas.{follows, holders-count, holders-followed, home-count, moved-post}
use Rattle.future_cells.proofs.MovedLemmas.{AreEvents-moved}
use Rattle.future_cells.proofs.CodeStandingLemmas.{cell_home}
use Rattle.future_cells.proofs.StandingLemmas.{task-moved}
use Rattle.future_cells.specs.Following.{Follows}
use Rattle.future_cells.specs.Moved.{IsMoved}
use Rattle.future_cells.specs.Ready.{KeptReady, holders_with, posts_with}
use Rattle.future_cells.specs.Standings.{IsStanding}
use Rattle.future_cells.specs.TaskEvents.{HasMoved}
use Rattle.future_cells.specs.declared.posts.Post.{Post}
use Rattle.future_cells.specs.declared.posts.Standing.{Standing}
use Rattle.future_cells.specs.declared.posts.Standing.TheVariants.{Ended}
use Rattle.list_facts.proofs.EntryLemmas.{slice_get-mapped, slice_get-there}
use Rattle.step_rules.specs.declared.kind.Did.{Did}

-- the cog of a task of the code, if there is one
abbrev pub home_of : Config → ℕ → Option ℕ
home_of config index = option_map (λ (task : TaskCell). task.cog) (slice_get config.tasks index)

-- it is that of the task without memory
home_state : (names : List Name) (config : Config) (index : ℕ) → home_of config index
    ≡ option_map (λ (task : TaskState). task.cog) (slice_get (configuration names config).tasks index)
home_state names config index = by (slice_get config.tasks index) ∙ sym (ap (option_map (λ (task : TaskState). task.cog))
    (slice_get-map (task_state names) config.tasks index))
  where
    by : (found : Option TaskCell) → option_map (λ (task : TaskCell). task.cog) found
        ≡ option_map (λ (task : TaskState). task.cog) (option_map (task_state names) found)
    by None = refl
    by (Some cell) = refl

module _ (program : ProgramTree) (names : List Name) (config : Config) (index : ℕ) (did : Did) (ready : KeptReady)
    (moved : HasMoved program (configuration names config) index did ready) where
  -- what the events leave
  leave : IsMoved moved.before (configuration names config) index did
  leave = AreEvents-moved program index (configuration names config) did moved.before moved.events

  -- there is a holder for each cog
  pub cogs-count : length (holders_with (nat_lt (length ready.holders) (length config.cogs)) ready.holders)
      ≡ length config.cogs
  cogs-count =
      holders-count program moved.before (configuration names config) index did ready moved.formed moved.stood leave

  -- the cog of a new task is there
  pub home-there : (cog : ℕ) → home_of config (length ready.posts) ≡ Some cog
      → cog < length (holders_with (nat_lt (length ready.holders) (length config.cogs)) ready.holders)
  home-there cog is = by (slice_get config.tasks (length ready.posts)) refl is
    where
      by : (found : Option TaskCell) → slice_get config.tasks (length ready.posts) ≡ found
          → option_map (λ (task : TaskCell). task.cog) found ≡ Some cog
          → cog < length (holders_with (nat_lt (length ready.holders) (length config.cogs)) ready.holders)
      by None none is = absurd cc
      by (Some cell) there is =
          let home = cell_home config (length ready.posts) cell there in
          subst
          (λ cog. cog < length (holders_with (nat_lt (length ready.holders) (length config.cogs)) ready.holders))
          (same_Some cell.cog cog is) (omega (arith, home, cogs-count))

  -- there is a post for each task, with that of the new one
  pub posts-count : length (posts_with (home_of config (length ready.posts)) ready.posts) ≡ length config.tasks
  posts-count = home-count program moved.before (configuration names config) index did ready moved.formed moved.stood
      leave (home_of config (length ready.posts)) (home_state names config (length ready.posts))
      ∙ length-map config.tasks (task_state names)

  -- the task of the events is there
  pub moved-within : index < length config.tasks
  moved-within =
      let there = task-moved moved.before (configuration names config) index did leave in
      omega (
        arith,
        slice_get_within (configuration names config).tasks index leave.moved there,
        length-map config.tasks (task_state names),
      )

  -- its post is not that of an ended task
  pub moved-open : (post : Post)
      → slice_get (posts_with (home_of config (length ready.posts)) ready.posts) index ≡ Some post
      → post.standing ≢ Ended
  moved-open post posted =
      (moved-post program moved.before (configuration names config) index did ready moved.formed moved.stood
      leave (home_of config (length ready.posts)) (home_state names config (length ready.posts)) post posted).1

  -- the ready set follows the events
  pub follows-code : (now : KeptReady) (standing : Standing) (cell : TaskCell) (cog : Cog)
      → slice_get config.tasks index ≡ Some cell → slice_get config.cogs cell.cog ≡ Some cog
      → ((post : Post) → slice_get (posts_with (home_of config (length ready.posts)) ready.posts) index ≡ Some post
      → now.posts ≡ set (posts_with (home_of config (length ready.posts)) ready.posts) index
      (record post { standing = standing }))
      → now.holders ≡ set (holders_with (nat_lt (length ready.holders) (length config.cogs)) ready.holders) cell.cog
      cog.holder
      → ((state : TaskState) → slice_get (configuration names config).tasks index ≡ Some state
      → IsStanding program (configuration names config) state standing)
      → Follows program (configuration names config) index did now
  follows-code now standing cell cog cell_there cog_there posts holders stands =
      let home = home_of config (length ready.posts) in
      let there = task-moved moved.before (configuration names config) index did leave in
      let post = slice_get-there (posts_with home ready.posts) index (omega (arith, posts-count, moved-within)) in
      let state = slice_get-mapped (task_state names) config.tasks index leave.moved there in
      let cell_is = same_Some cell state.0 (sym cell_there ∙ state.1) in
      let same_cog = ap (λ (cell : TaskCell). cell.cog) cell_is ∙ ap (λ (task : TaskState). task.cog) state.2
      ∙ leave.same_cog in
      follows program moved.before (configuration names config) index did ready moved.formed moved.stood leave home
      (home_state names config (length ready.posts)) now post.0 standing post.1 (posts post.0 post.1)
      (holders ∙ holders-followed program moved.before (configuration names config) index did ready moved.formed
      moved.stood leave cell.cog cog.holder same_cog
      (slice_get-map (λ (cog : Cog). cog.holder) config.cogs cell.cog
      ∙ ap (option_map (λ (cog : Cog). cog.holder)) cog_there))
      (stands leave.moved there)
