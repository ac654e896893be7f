-- How the tasks that waited for one that has ended come to have what they are by themselves.
--
--   `waiting-not`, `waits_not_ended`   what a standing that waits is not, and one that does not wait
--   `waiter_found`             a task that waits has a post that says so
--   `standing_past`            nobody waits for a task that has ended
--   `wakes_one`, `wakes_all`   one more task has what it is, and all have
--   `waiting_count-falls`      one task less waits
--   `agrees_there`, `agrees_count`     the task that has ended is there, and a post for each task
use Rattle.std.proofs.Common.{◌≡◌, ◌≢◌, ◌<◌, ⊎_elim, ℕ, zero, suc, true, false, is_some, IsSome, List, [], ◌∷◌, length, set, slice_get, Some, arith, refl, sym, ap, ◌∙◌, subst}
use Rattle.std.proofs.Math.ListN.{length-set}
use Rattle.std.proofs.lemmas.Bool.{cases_eq, eq-eqb, ne_eqb, true≢false}
use Rattle.std.proofs.lemmas.Option.{none-some, same_Some, slice_get_within}
use Rattle.std.proofs.lemmas.List.{length-map}
use Rattle.abs_tree.specs.Syntax.{Name, ProgramTree}
use Rattle.config_state.specs.ConfigViews.{configuration}
use Rattle.config_state.specs.Views.{task_state}
use Rattle.config_state.specs.declared.config.Config.{Config}
use Rattle.config_state.specs.Configurations.{TaskState, Configuration, IsUnfinished}
use Rattle.future_cells.proofs.ItemLemmas.{passes-found, slice_get-set_cases}
use Rattle.future_cells.proofs.StandingLemmas.{waited-unfinished}
use Rattle.future_cells.specs.Following.{AgreesBut, IsPostBut, Stands, Waited, waiting_count}
use Rattle.future_cells.specs.Posts.{is_waiting_for, waits_by, waits_for}
use Rattle.future_cells.specs.Ready.{KeptReady}
use Rattle.future_cells.specs.Standings.{IsStanding, HasEnded, IsWaiting, IsGoing, IsPostOf}
use Rattle.future_cells.specs.declared.posts.Post.{Post}
use Rattle.future_cells.specs.declared.posts.Standing.{Standing}
use Rattle.future_cells.specs.declared.posts.Standing.TheVariants.{Ended, Waits, Goes}

-- a standing that does not wait for a future
pub waiting-not : (future : ℕ) (standing : Standing) → is_waiting_for future standing ≡ false
    → standing ≢ Waits future
waiting-not future standing past waits =
    true≢false (sym (eq-eqb future future refl) ∙ sym (ap (is_waiting_for future) waits) ∙ past)

-- a standing that waits for a future is not that of an ended task
pub waits_not_ended : (future : ℕ) (standing : Standing) → is_waiting_for future standing ≡ true → standing ≢ Ended
waits_not_ended future standing waits ended =
    true≢false (sym waits ∙ ap (is_waiting_for future) ended)

-- a task that waits has a post that says so
pub waiter_found : (posts : List Post) (future task : ℕ) → waits_for posts future task ≡ true
    → (post : Post) × (slice_get posts task ≡ Some post) × (is_waiting_for future post.standing ≡ true)
waiter_found posts future task waits = passes-found (waits_by future) posts task refl waits

-- a task that has ended is not unfinished
has_no_result : (config : Configuration) (ended : ℕ) (last : TaskState) (future : ℕ)
    → slice_get config.tasks ended ≡ Some last → IsSome last.outcome → IsUnfinished config future → future ≡ ended
    → ⊥
has_no_result config ended last future there some waited same =
    let last_is = same_Some waited.task last (sym waited.there ∙ ap (slice_get config.tasks) same ∙ there) in
    true≢false (sym some ∙ ap (λ (task : TaskState). is_some task.outcome) (sym last_is)
    ∙ ap is_some waited.open_still)

-- nobody waits for a task that has ended
pub standing_past : (program : ProgramTree) (config : Configuration) (ended : ℕ) (last task : TaskState)
    (standing : Standing) → slice_get config.tasks ended ≡ Some last → IsSome last.outcome
    → IsStanding program config task standing → is_waiting_for ended standing ≡ false
standing_past program config ended last task Ended there some (HasEnded done) = refl
standing_past program config ended last task Goes there some (IsGoing unfinished waits_not) = refl
standing_past program config ended last task (Waits _) there some (IsWaiting future unfinished waits) =
    ⊎_elim
    (λ same. absurd (has_no_result config ended last future there some
    (waited-unfinished program config task future waits) same))
    (λ differs. ne_eqb future ended differs)
    (cases_eq future ended)

-- one more task has what it is by itself
pub wakes_one : (program : ProgramTree) (config : Configuration) (ended waiter : ℕ) (ready after : KeptReady)
    (task : TaskState) (post : Post) (standing : Standing) → AgreesBut program config ended ready
    → slice_get config.tasks waiter ≡ Some task → slice_get ready.posts waiter ≡ Some post
    → after.posts ≡ set ready.posts waiter (record post { standing = standing }) → after.holders ≡ ready.holders
    → IsStanding program config task standing → AgreesBut program config ended after
wakes_one program config ended waiter ready after task post standing agrees there posted posts holders is = record {
  task = agrees.task;
  there = agrees.there;
  has_ended = agrees.has_ended;
  post_for_each = ap length posts ∙ length-set ready.posts waiter (record post { standing = standing })
      ∙ agrees.post_for_each;
  posts_are = λ index other found other_there other_posted.
      ⊎_elim
      (λ here.
      let same = same_Some task other (sym there ∙ ap (slice_get config.tasks) (sym here.0) ∙ other_there) in
      subst (IsPostBut program config ended other) (sym here.1)
      (subst (λ (task : TaskState). IsPostBut program config ended task (record post { standing = standing })) same
      (Stands (cog_is task post (agrees.posts_are waiter task post there posted)) is)))
      (λ elsewhere. agrees.posts_are index other found other_there elsewhere.1)
      (slice_get-set_cases ready.posts waiter index (record post { standing = standing }) found
      (ap (λ all. slice_get all index) (sym posts) ∙ other_posted));
  holders_are = holders ∙ agrees.holders_are;
}
  where
    cog_is : (task : TaskState) (post : Post) → IsPostBut program config ended task post → post.cog ≡ task.cog
    cog_is task post (Stands cog standing) = cog
    cog_is task post (Waited cog standing) = cog

-- a post that does not wait for the task that has ended has what the task is by itself
post_stands : (program : ProgramTree) (config : Configuration) (ended : ℕ) (task : TaskState) (post : Post)
    → is_waiting_for ended post.standing ≡ false → IsPostBut program config ended task post
    → IsPostOf program config task post
post_stands program config ended task post past (Stands cog standing) =
    record { cog_is = cog; standing_is = standing }
post_stands program config ended task post past (Waited cog standing) =
    absurd (waiting-not ended post.standing past standing)

-- all tasks have what they are by themselves
pub wakes_all : (program : ProgramTree) (config : Configuration) (ended : ℕ) (ready : KeptReady)
    → AgreesBut program config ended ready → ((task : ℕ) → waits_for ready.posts ended task ≡ false)
    → (index : ℕ) (task : TaskState) (post : Post) → slice_get config.tasks index ≡ Some task
    → slice_get ready.posts index ≡ Some post → IsPostOf program config task post
wakes_all program config ended ready agrees none index task post there posted =
    post_stands program config ended task post
    (ap (waits_by ended) (sym posted) ∙ none index) (agrees.posts_are index task post there posted)

-- one task less waits
pub waiting_count-falls : (posts : List Post) (future task : ℕ) (post now : Post)
    → slice_get posts task ≡ Some post → is_waiting_for future post.standing ≡ true
    → is_waiting_for future now.standing ≡ false
    → waiting_count future (set posts task now) < waiting_count future posts
waiting_count-falls [] future task post now there waits past = absurd (none-some post there)
waiting_count-falls (first ∷ posts) future zero post now there waits past =
    let first_waits = ap (λ (post : Post). is_waiting_for future post.standing) (same_Some first post there) ∙ waits in
    rw (first_waits, past) (omega arith)
waiting_count-falls (first ∷ posts) future (suc task) post now there waits past =
    omega (arith, waiting_count-falls posts future task post now there waits past)

-- the task that has ended is there
pub agrees_there : (program : ProgramTree) (config : Configuration) (ended : ℕ) (ready : KeptReady)
    → AgreesBut program config ended ready → ended < length config.tasks
agrees_there program config ended ready agrees = slice_get_within config.tasks ended agrees.task agrees.there

-- there is a post for each task of the code
pub agrees_count : (program : ProgramTree) (names : List Name) (config : Config) (ended : ℕ) (ready : KeptReady)
    → AgreesBut program (configuration names config) ended ready → length ready.posts ≡ length config.tasks
agrees_count program names config ended ready agrees =
    agrees.post_for_each ∙ length-map config.tasks (task_state names)
