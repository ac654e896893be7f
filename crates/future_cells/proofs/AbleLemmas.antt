-- The tasks that have an event, by what is kept of them.
--
--   `free-Decides`             whether nobody else than a task holds a cog, by the holders of the cogs
--   `able-post`                whether a task goes while nobody else holds its cog, by its post
--   `able-has_event`           whether it has an event
--   `able-tasks_with_event`    so the tasks that are able are those with an event
use Rattle.std.proofs.Common.{◌≡◌, ◌↔◌, ℕ, Bool, true, false, ◌&&◌, Decides, List, filter, length, slice_get, Option, Some, None, IsSome, is_some, option_map, refl, sym, ap, ◌∙◌, subst, arith, eq-eqb}
use Rattle.std.proofs.lemmas.Bool.{eqb-true}
use Rattle.std.proofs.lemmas.Bool.Decides.{same_from_decides}
use Rattle.std.proofs.lemmas.List.Elements.{filter_agree}
use Rattle.std.proofs.lemmas.Option.{same_Some, slice_get-map, slice_get_within}
use Rattle.std.specs.List.{range_with_len}
use Rattle.abs_tree.specs.Syntax.{ProgramTree}
use Rattle.config_state.specs.Configurations.{TaskState, Configuration}
use Rattle.config_state.specs.declared.cog.Cog.{Cog}
use Rattle.step_rules.specs.Blocked.{WaitsFor, IsFreeFor}
use Rattle.future_cells.specs.Posts.{is_going, goes_by}
use Rattle.future_cells.specs.Ready.{is_free_for, is_able_by, is_able, able_tasks}
use Rattle.future_cells.specs.Standings.{IsStanding, HasEnded, IsWaiting, IsGoing, IsPostOf, tasks_with_event, holders_of}
use Rattle.future_cells.specs.declared.posts.Post.{Post}
use Rattle.future_cells.specs.declared.posts.Standing.{Standing}
use Rattle.list_facts.proofs.EntryLemmas.{slice_get-there}
use Rattle.step_rules.proofs.StayLemmas.{change_stays, event_change}
use Rattle.step_rules.specs.Events.{Step, event_of}

-- whether nobody else than a task holds a cog, by the holders of the cogs
free-Decides : (config : Configuration) (cog index : ℕ)
    → Decides (is_free_for index (slice_get (holders_of config.cogs) cog)) (IsFreeFor config cog index)
free-Decides config cog index =
    subst (λ (found : Option (Option ℕ)). Decides (is_free_for index found) (IsFreeFor config cog index))
    (sym (slice_get-map (λ (one : Cog). one.holder) config.cogs cog)) (by (slice_get config.cogs cog) refl)
  where
    by_holder : (entry : Cog) → slice_get config.cogs cog ≡ Some entry → (holder : Option ℕ) → entry.holder ≡ holder
        → Decides (is_free_for index (Some holder)) (IsFreeFor config cog index)
    by_holder entry there None is = (
      λ passes. record { entry = entry; there = there; free = λ holder held. absurd (cc (is, held)) },
      λ free. refl,
    )
    by_holder entry there (Some holder) is = (
      λ passes. record {
        entry = entry;
        there = there;
        free = λ other held. same_Some other holder (sym held ∙ is) ∙ eqb-true holder index passes;
      },
      λ free. eq-eqb holder index (free.free holder
          (ap (λ (one : Cog). one.holder) (same_Some free.entry entry (sym free.there ∙ there)) ∙ is)),
    )

    by : (found : Option Cog) → slice_get config.cogs cog ≡ found
        → Decides (is_free_for index (option_map (λ (one : Cog). one.holder) found)) (IsFreeFor config cog index)
    by None is = ((λ passes. absurd cc), (λ free. let there = free.there in absurd (cc (is, there))))
    by (Some entry) is = by_holder entry is entry.holder refl

-- whether a task goes while nobody else holds its cog, by its post
able-post : (posts : List Post) (holders : List (Option ℕ)) (index : ℕ) (post : Post)
    → slice_get posts index ≡ Some post
    → is_able posts holders index ≡ (is_going post.standing && is_free_for index (slice_get holders post.cog))
able-post posts holders index post there =
    ap (is_able_by posts holders index) there
    ∙ (ap (λ (found : Option Post). goes_by post.cog found && is_free_for index (slice_get holders post.cog)) there
    ∙ ap (λ same. (same && is_going post.standing) && is_free_for index (slice_get holders post.cog))
    (eq-eqb post.cog post.cog refl))

-- a task that is not there has no event
event-absent : (program : ProgramTree) (config : Configuration) (index : ℕ) → slice_get config.tasks index ≡ None
    → is_some (event_of program config index) ≡ false
event-absent program config index absent = by (event_of program config index) refl
  where
    by : (found : Option Step) → event_of program config index ≡ found → is_some found ≡ false
    by None is = refl
    by (Some step) is =
        let change = event_change program config index step is in
        let there = (change_stays program config index change.0 change.1).there in
        absurd (cc (absent, there))

module _ (program : ProgramTree) (config : Configuration) (posts : List Post) (holders : List (Option ℕ))
    (law : (index : ℕ) (task : TaskState) → slice_get config.tasks index ≡ Some task → task.outcome ≡ None
    → IsSome (event_of program config index)
    ↔ (((future : ℕ) → WaitsFor program config task future → ⊥) × IsFreeFor config task.cog index))
    (ended : (index : ℕ) (task : TaskState) → slice_get config.tasks index ≡ Some task → IsSome task.outcome
    → event_of program config index ≡ None) (post_for_each : length posts ≡ length config.tasks)
    (posts_are : (index : ℕ) (task : TaskState) (post : Post) → slice_get config.tasks index ≡ Some task
    → slice_get posts index ≡ Some post → IsPostOf program config task post)
    (holders_are : holders ≡ holders_of config.cogs) where
  -- a task that is there and has this standing has an event where it goes while nobody else holds its cog
  by_standing : (index : ℕ) (task : TaskState) → slice_get config.tasks index ≡ Some task → (standing : Standing)
      → IsStanding program config task standing
      → (is_going standing && is_free_for index (slice_get (holders_of config.cogs) task.cog))
      ≡ is_some (event_of program config index)
  by_standing index task there standing (HasEnded has_result) = sym (ap is_some (ended index task there has_result))
  by_standing index task there standing (IsWaiting future still waits) = by (is_some (event_of program config index)) refl
    where
      by : (some : Bool) → is_some (event_of program config index) ≡ some → false ≡ some
      by true is = absurd (((law index task there still).0 is).0 future waits)
      by false is = refl
  by_standing index task there standing (IsGoing still waits_not) =
      let has = law index task there still in
      same_from_decides _ _ (free-Decides config task.cog index)
      ((λ some. (has.0 some).1), (λ free. has.1 (waits_not, free)))

  -- whether a task has an event
  able-has_event : (index : ℕ) → is_able posts holders index ≡ is_some (event_of program config index)
  able-has_event index = by (slice_get config.tasks index) refl
    where
      by : (found : Option TaskState) → slice_get config.tasks index ≡ found
          → is_able posts holders index ≡ is_some (event_of program config index)
      by None absent = by_post (slice_get posts index) refl ∙ sym (event-absent program config index absent)
        where
          by_post : (found : Option Post) → slice_get posts index ≡ found → is_able posts holders index ≡ false
          by_post None none = ap (is_able_by posts holders index) none
          by_post (Some post) post_there =
              let within = slice_get_within posts index post post_there in
              let task = slice_get-there config.tasks index (omega (arith, within, post_for_each)) in
              let there = task.1 in
              absurd (cc (absent, there))
      by (Some task) there =
          let within = slice_get_within config.tasks index task there in
          let post = slice_get-there posts index (omega (arith, within, post_for_each)) in
          let is_post = posts_are index task post.0 there post.1 in
          able-post posts holders index post.0 post.1
          ∙ (ap (λ (all : List (Option ℕ)). is_going post.0.standing && is_free_for index (slice_get all post.0.cog))
          holders_are
          ∙ (ap (λ cog. is_going post.0.standing && is_free_for index (slice_get (holders_of config.cogs) cog))
          is_post.cog_is
          ∙ by_standing index task there post.0.standing is_post.standing_is))

  -- so the tasks that are able are those with an event
  pub able-tasks_with_event : able_tasks posts holders ≡ tasks_with_event program config
  able-tasks_with_event =
      ap (λ (count : ℕ). filter (is_able posts holders) (range_with_len 0 count)) post_for_each
      ∙ filter_agree (is_able posts holders) (λ task. is_some (event_of program config task)) able-has_event
      (range_with_len 0 (length config.tasks))
