-- What a ready set is after events of a task.
--
--   `posts_before`, `holders_before`   how many posts and holders there were
--   `new_cog-is`, `home-count`         whether there is a new cog, and how many posts there are then
--   `home-there`                       the cog of a new task is there
--   `holders-followed`                 the holders after the events
--   `posts-followed`                   the posts after the events
--   `follows`                          the ready set follows the events
use Rattle.std.proofs.Common.{◌≡◌, ◌≢◌, ◌<◌, ◌+◌, ◌⊎◌, inl, inr, ⊎_elim, ℕ, Bool, true, false, nat_lt, List, [], ◌∷◌, length, set, slice_get, Option, Some, None, option_map, arith, refl, sym, ap, ◌∙◌, subst}
use Rattle.std.proofs.Math.ListN.{length-set}
use Rattle.std.proofs.lemmas.Bool.{cases_Bool}
use Rattle.std.proofs.lemmas.Bool.Decides.{nat_tests}
use Rattle.std.proofs.lemmas.List.{length-append, length-map, set-append_left}
use Rattle.std.proofs.lemmas.Option.{same_Some, slice_get_past, slice_get_within}
use Rattle.abs_tree.specs.Syntax.{ProgramTree}
use Rattle.config_state.specs.Configurations.{TaskState, Configuration}
use Rattle.config_state.specs.WellFormed.{IsWellFormed}
use Rattle.config_state.specs.declared.cog.Cog.{Cog}
use Rattle.future_cells.proofs.ItemLemmas.{slice_get-set_cases, slice_get-set_same}
use Rattle.future_cells.proofs.PostLemmas.{is_waiting_for-found}
use Rattle.future_cells.proofs.WakeLemmas.{waiting-not}
use Rattle.future_cells.proofs.CodeStandingLemmas.{still_open}
use Rattle.future_cells.specs.Posts.{is_waiting_for}
use Rattle.future_cells.proofs.StandingLemmas.{standing-kept, standing-new, task-kept, task-moved}
use Rattle.future_cells.specs.Following.{Follows, IsPostBut, Stands, Waited}
use Rattle.future_cells.specs.Moved.{IsNewTask, TasksAre, NoneMade, OneMade, IsMoved}
use Rattle.future_cells.specs.Ready.{KeptReady, holders_with, posts_with}
use Rattle.future_cells.specs.Standings.{IsStanding, IsPostOf, StandsFor, holders_of}
use Rattle.future_cells.specs.declared.posts.Post.{Post}
use Rattle.future_cells.specs.declared.posts.Standing.{Standing}
use Rattle.future_cells.specs.declared.posts.Standing.TheVariants.{Ended, Waits, Goes}
use Rattle.list_facts.proofs.EntryLemmas.{slice_get-after, slice_get-before, slice_get-push, slice_get-there}
use Rattle.step_rules.specs.declared.kind.Did.{Did}
use Rattle.step_rules.specs.declared.kind.Did.TheVariants.{Finished}

-- one item is added where there is a new cog
abbrev added_count : Bool → ℕ
added_count true = 1
added_count false = 0

-- the number of holders with a new cog
length-holders_with : (new_cog : Bool) (holders : List (Option ℕ))
    → length (holders_with new_cog holders) ≡ length holders + added_count new_cog
length-holders_with true holders = length-append holders (None ∷ [])
length-holders_with false holders = omega arith

-- whether a number is below itself with what is added
below-added : (new_cog : Bool) (n : ℕ) → nat_lt n (n + added_count new_cog) ≡ new_cog
below-added true n = grind (arith, nat_tests)
below-added false n = grind (arith, nat_tests)

-- a holder is put in place before a cog is added, or after it
set-holders_with : (new_cog : Bool) (holders : List (Option ℕ)) (cog : ℕ) (holder : Option ℕ) → cog < length holders
    → set (holders_with new_cog holders) cog holder ≡ holders_with new_cog (set holders cog holder)
set-holders_with true holders cog holder there = set-append_left holders (None ∷ []) cog holder there
set-holders_with false holders cog holder there = refl

-- a holder that is there is there also with a new cog
holders_with-there : (new_cog : Bool) (holders : List (Option ℕ)) (cog : ℕ) → cog < length holders
    → slice_get (holders_with new_cog holders) cog ≡ slice_get holders cog
holders_with-there true holders cog there = slice_get-before holders (None ∷ []) cog there
holders_with-there false holders cog there = refl

-- a post that is there is there also with that of a new task
posts_with-there : (home : Option ℕ) (posts : List Post) (index : ℕ) → index < length posts
    → slice_get (posts_with home posts) index ≡ slice_get posts index
posts_with-there None posts index there = refl
posts_with-there (Some cog) posts index there =
    slice_get-before posts (record { cog = cog; standing = Goes } ∷ []) index there

module _ (program : ProgramTree) (before config : Configuration) (index : ℕ) (did : Did) (ready : KeptReady)
    (formed : IsWellFormed before) (stood : StandsFor program before ready)
    (is_moved : IsMoved before config index did) where
  -- there was a holder for each cog
  holders_before : length ready.holders ≡ length before.cogs
  holders_before = ap length stood.holders_are ∙ length-map before.cogs (λ (cog : Cog). cog.holder)

  -- the cog of the task was there
  cog_there : is_moved.task.cog < length ready.holders
  cog_there =
      omega (arith, (formed.tasks_formed index is_moved.task is_moved.there).cog_there, holders_before)

  -- the holders are those before, with another one for the cog of the task
  holders_after : holders_of config.cogs
      ≡ holders_with is_moved.new_cog (set ready.holders is_moved.task.cog is_moved.holder)
  holders_after = is_moved.holders_are
      ∙ ap (λ (all : List (Option ℕ)). holders_with is_moved.new_cog (set all is_moved.task.cog is_moved.holder))
      (sym stood.holders_are)

  -- how many cogs there are
  cogs_count : length config.cogs ≡ length ready.holders + added_count is_moved.new_cog
  cogs_count = sym (length-map config.cogs (λ (cog : Cog). cog.holder)) ∙ ap length holders_after
      ∙ length-holders_with is_moved.new_cog (set ready.holders is_moved.task.cog is_moved.holder)
      ∙ ap (λ (n : ℕ). n + added_count is_moved.new_cog)
      (length-set ready.holders is_moved.task.cog is_moved.holder)

  -- whether there is a new cog is told by the numbers of cogs
  new_cog-is : nat_lt (length ready.holders) (length config.cogs) ≡ is_moved.new_cog
  new_cog-is = ap (nat_lt (length ready.holders)) cogs_count ∙ below-added is_moved.new_cog (length ready.holders)

  -- so there is a holder for each cog
  pub holders-count : length (holders_with (nat_lt (length ready.holders) (length config.cogs)) ready.holders)
      ≡ length config.cogs
  holders-count =
      ap (λ new_cog. length (holders_with new_cog ready.holders)) new_cog-is
      ∙ length-holders_with is_moved.new_cog ready.holders ∙ sym cogs_count

  -- the holders after the events
  pub holders-followed : (cog : ℕ) (holder : Option ℕ) → cog ≡ is_moved.task.cog
      → slice_get (holders_of config.cogs) cog ≡ Some holder
      → set (holders_with (nat_lt (length ready.holders) (length config.cogs)) ready.holders) cog holder
      ≡ holders_of config.cogs
  holders-followed cog holder same found =
      let there = cog_there in
      let put = slice_get-set_same ready.holders is_moved.task.cog is_moved.holder there in
      let within = length-set ready.holders is_moved.task.cog is_moved.holder in
      let holder_is = same_Some is_moved.holder holder (sym put
      ∙ sym (holders_with-there is_moved.new_cog (set ready.holders is_moved.task.cog is_moved.holder)
      is_moved.task.cog (omega (arith, there, within)))
      ∙ ap (λ (all : List (Option ℕ)). slice_get all is_moved.task.cog) (sym holders_after)
      ∙ ap (slice_get (holders_of config.cogs)) (sym same) ∙ found) in
      ap (λ new_cog. set (holders_with new_cog ready.holders) cog holder) new_cog-is
      ∙ ap (λ (at : ℕ). set (holders_with is_moved.new_cog ready.holders) at holder) same
      ∙ set-holders_with is_moved.new_cog ready.holders is_moved.task.cog holder there
      ∙ ap (λ (one : Option ℕ). holders_with is_moved.new_cog (set ready.holders is_moved.task.cog one)) (sym holder_is)
      ∙ sym holders_after

  -- the task of the events is there
  moved_there : slice_get config.tasks index ≡ Some is_moved.moved
  moved_there = task-moved before config index did is_moved

  -- how many tasks there were
  set_count : length (set before.tasks index is_moved.moved) ≡ length ready.posts
  set_count = length-set before.tasks index is_moved.moved ∙ sym stood.post_for_each

  -- there is no new task, or the last one is new
  home-cases : (home : Option ℕ)
      → home ≡ option_map (λ (task : TaskState). task.cog) (slice_get config.tasks (length ready.posts))
      → ((home ≡ None) × (length config.tasks ≡ length ready.posts))
      ⊎ ((made : TaskState) × IsNewTask made × (home ≡ Some made.cog)
      × (slice_get config.tasks (length ready.posts) ≡ Some made) × (length config.tasks ≡ length ready.posts + 1))
  home-cases home is = by is_moved.tasks_are
    where
      by : TasksAre before config index is_moved.moved
          → ((home ≡ None) × (length config.tasks ≡ length ready.posts))
          ⊎ ((made : TaskState) × IsNewTask made × (home ≡ Some made.cog)
          × (slice_get config.tasks (length ready.posts) ≡ Some made)
          × (length config.tasks ≡ length ready.posts + 1))
      by (NoneMade are) =
          let count = ap length are ∙ set_count in
          inl (
            is ∙ ap (option_map (λ (task : TaskState). task.cog))
                (slice_get_past config.tasks (length ready.posts) (omega (arith, count))),
            count,
          )
      by (OneMade made new are) =
          let tasks = set before.tasks index is_moved.moved in
          let found = ap (λ (all : List TaskState). slice_get all (length ready.posts)) are
          ∙ slice_get-after tasks (made ∷ []) (length ready.posts) 0 (omega (arith, set_count)) in
          inr (
            made,
            new,
            is ∙ ap (option_map (λ (task : TaskState). task.cog)) found,
            found,
            ap length are ∙ length-append tasks (made ∷ []) ∙ ap (λ (n : ℕ). n + 1) set_count,
          )

  module _ (home : Option ℕ)
      (is : home ≡ option_map (λ (task : TaskState). task.cog) (slice_get config.tasks (length ready.posts))) where
    -- there is a post for each task
    pub home-count : length (posts_with home ready.posts) ≡ length config.tasks
    home-count =
        ⊎_elim
        (λ none. ap (λ (home : Option ℕ). length (posts_with home ready.posts)) none.0 ∙ sym none.1)
        (λ made. ap (λ (home : Option ℕ). length (posts_with home ready.posts)) made.2
        ∙ length-append ready.posts (record { cog = made.0.cog; standing = Goes } ∷ []) ∙ sym made.4)
        (home-cases home is)

    -- a post is an old one, or that of the new task
    home-post : (other : ℕ) (post : Post) → slice_get (posts_with home ready.posts) other ≡ Some post
        → (slice_get ready.posts other ≡ Some post)
        ⊎ ((made : TaskState) × IsNewTask made × (slice_get config.tasks other ≡ Some made)
        × (post ≡ record { cog = made.cog; standing = Goes }))
    home-post other post posted =
        ⊎_elim
        (λ none. inl (ap (λ (home : Option ℕ). slice_get (posts_with home ready.posts) other) (sym none.0) ∙ posted))
        (λ made.
        ⊎_elim (λ old. inl old)
        (λ new. inr (made.0, made.1, ap (slice_get config.tasks) (sym new.0) ∙ made.3, sym new.1))
        (slice_get-push ready.posts (record { cog = made.0.cog; standing = Goes }) other post
        (ap (λ (home : Option ℕ). slice_get (posts_with home ready.posts) other) (sym made.2) ∙ posted)))
        (home-cases home is)

    -- the post of a task that did not move was that of the task, or the task is new
    old_or_new : (other : ℕ) (task : TaskState) (post : Post) → other ≢ index
        → slice_get config.tasks other ≡ Some task → slice_get (posts_with home ready.posts) other ≡ Some post
        → ((slice_get before.tasks other ≡ Some task) × IsPostOf program before task post)
        ⊎ IsPostOf program config task post
    old_or_new other task post differs there posted =
        ⊎_elim
        (λ old.
        let earlier = slice_get-there before.tasks other
        (omega (arith, slice_get_within ready.posts other post old, stood.post_for_each)) in
        let kept = task-kept before config index did is_moved other earlier.0 differs earlier.1 in
        let same = same_Some earlier.0 task (sym kept ∙ there) in
        inl (
          earlier.1 ∙ ap Some same,
          subst (λ (task : TaskState). IsPostOf program before task post) same
              (stood.posts_are other earlier.0 post earlier.1 old),
        ))
        (λ made.
        inr (subst (λ (post : Post). IsPostOf program config task post) (sym made.3)
        (subst (λ (task : TaskState). IsPostOf program config task (record { cog = made.0.cog; standing = Goes }))
        (same_Some made.0 task (sym made.2 ∙ there)) (record {
          cog_is = refl;
          standing_is = standing-new program config made.0 made.1;
        }))))
        (home-post other post posted)

    -- the post of a task that did not move is that of the task, if this waits for none that has ended
    other_post : (other : ℕ) (task : TaskState) (post : Post) → other ≢ index
        → slice_get config.tasks other ≡ Some task → slice_get (posts_with home ready.posts) other ≡ Some post
        → (did ≡ Finished → post.standing ≢ Waits index) → IsPostOf program config task post
    other_post other task post differs there posted past =
        ⊎_elim
        (λ old. record {
          cog_is = old.1.cog_is;
          standing_is = standing-kept program before config index did formed is_moved other task differs old.0
              post.standing old.1.standing_is past;
        })
        (λ new. new)
        (old_or_new other task post differs there posted)

    -- it has the cog of the task
    other_cog : (other : ℕ) (task : TaskState) (post : Post) → other ≢ index
        → slice_get config.tasks other ≡ Some task → slice_get (posts_with home ready.posts) other ≡ Some post
        → post.cog ≡ task.cog
    other_cog other task post differs there posted =
        ⊎_elim (λ old. old.1.cog_is) (λ new. new.cog_is) (old_or_new other task post differs there posted)

    -- it is that of the task, or waits for the one that moved
    other_but : (other : ℕ) (task : TaskState) (post : Post) → other ≢ index
        → slice_get config.tasks other ≡ Some task → slice_get (posts_with home ready.posts) other ≡ Some post
        → IsPostBut program config index task post
    other_but other task post differs there posted =
        ⊎_elim
        (λ waits. Waited (other_cog other task post differs there posted) (is_waiting_for-found index post.standing waits))
        (λ past.
        let is_post = other_post other task post differs there posted
        (λ finished waits. waiting-not index post.standing past waits) in
        Stands is_post.cog_is is_post.standing_is)
        (cases_Bool (is_waiting_for index post.standing))

    -- the post of the task that moved, before that has what the task is by itself
    pub moved-post : (post : Post) → slice_get (posts_with home ready.posts) index ≡ Some post
        → (post.cog ≡ is_moved.task.cog) × (post.standing ≢ Ended)
    moved-post post posted =
        let within = slice_get_within before.tasks index is_moved.task is_moved.there in
        let old = sym (posts_with-there home ready.posts index (omega (arith, within, stood.post_for_each))) ∙ posted in
        let is_post = stood.posts_are index is_moved.task post is_moved.there old in (
          is_post.cog_is,
          still_open program before is_moved.task post.standing is_post.standing_is
              is_moved.had_no_result,
        )

    -- the ready set follows the events
    pub follows : (now : KeptReady) (post : Post) (standing : Standing)
        → slice_get (posts_with home ready.posts) index ≡ Some post
        → now.posts ≡ set (posts_with home ready.posts) index (record post { standing = standing })
        → now.holders ≡ holders_of config.cogs → IsStanding program config is_moved.moved standing
        → Follows program config index did now
    follows now post standing posted posts holders stands = record {
      task = is_moved.moved;
      there = moved_there;
      has_ended = is_moved.ended;
      post_for_each = ap length posts ∙ length-set (posts_with home ready.posts) index changed ∙ home-count;
      posts_are = λ other task found there found_there.
          ⊎_elim
          (λ here. let own = own_post task found here.1 (ap (slice_get config.tasks) (sym here.0) ∙ there) in
          Stands own.cog_is own.standing_is)
          (λ elsewhere. other_but other task found elsewhere.0 there elsewhere.1)
          (cases other found found_there);
      unless = λ unfinished other task found there found_there.
          ⊎_elim
          (λ here. own_post task found here.1 (ap (slice_get config.tasks) (sym here.0) ∙ there))
          (λ elsewhere. other_post other task found elsewhere.0 there elsewhere.1
          (λ finished. absurd (unfinished finished)))
          (cases other found found_there);
      holders_are = holders;
    }
      where
        changed : Post
        changed = record post { standing = standing }

        cases : (other : ℕ) (found : Post) → slice_get now.posts other ≡ Some found
            → ((other ≡ index) × (found ≡ record post { standing = standing }))
            ⊎ ((other ≢ index) × (slice_get (posts_with home ready.posts) other ≡ Some found))
        cases other found found_there =
            slice_get-set_cases (posts_with home ready.posts) index other (record post { standing = standing }) found
            (ap (λ all. slice_get all other) (sym posts) ∙ found_there)

        own_post : (task : TaskState) (found : Post) → found ≡ record post { standing = standing }
            → slice_get config.tasks index ≡ Some task → IsPostOf program config task found
        own_post task found found_is there =
            subst (λ (post : Post). IsPostOf program config task post) (sym found_is)
            (subst (λ (task : TaskState). IsPostOf program config task (record post { standing = standing }))
            (same_Some is_moved.moved task (sym moved_there ∙ there)) (record {
              cog_is = (moved-post post posted).0 ∙ sym is_moved.same_cog;
              standing_is = stands;
            }))
