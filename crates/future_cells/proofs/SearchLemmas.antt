-- The search for the first task that has an event.
--
--   `has-filter_range`         what is in the part of a range that passes
--   `has-none`                 a list that has no task is empty
--   `no_later-trans`           what comes no later than what comes no later
--   `IsFirstOf-same`           the first of the tasks that pass one test is that of those that pass an equal one
--   `has-able_tasks`           the list of the tasks that have an event has just those
--   `seated-first`, `seated-none`      the first seated task in a cog that is not busy is the first such task at all
--   `seen_as`                  what contracts see of a ready set with these parts
--   `is_free_able-is`          what contracts see of whether a task has an event in a cog that is not busy
--   `is_free_able-no_entries`  no cog is busy without entries
use Rattle.std.proofs.Common.{◌≡◌, ◌<◌, ◌≤◌, ◌+◌, ◌⊎◌, inl, inr, ℕ, zero, suc, Bool, true, false, ◌&&◌, cond, filter, length, nat_lt, nat_le, List, [], ◌∷◌, not, slice_get, Option, Some, None, refl, sym, ◌∙◌, subst, ap, arith}
use Rattle.std.proofs.Math.Bool.{and-true}
use Rattle.std.proofs.lemmas.Bool.{cases_Bool, and_from, and_parts, false≢true}
use Rattle.std.proofs.lemmas.Bool.Decides.{nat_tests}
use Rattle.std.proofs.lemmas.Option.{slice_get_past}
use Rattle.std.specs.List.{range_with_len}
use Rattle.list_facts.proofs.EntryLemmas.{slice_get-there}
use Rattle.future_cells.proofs.ItemLemmas.{passes-there}
use Rattle.future_cells.proofs.PostLemmas.{goes_in-post}
use Rattle.future_cells.proofs.SeatLemmas.{is_seated-at, is_seated-found}
use Rattle.future_cells.specs.Posts.{goes_in}
use Rattle.future_cells.specs.Ready.{is_busy, KeptReady, is_free_able, is_free_for, is_able_in, is_able_by, is_able, able_tasks, IsCandidate, AreCandidates, is_idle_by}
use Rattle.future_cells.specs.Seats.{is_seated}
use Rattle.future_cells.specs.Search.{is_idle_able, is_idle_seated}
use Rattle.future_cells.specs.TaskSets.{has}
use Rattle.future_cells.specs.Turns.{IsFirstOf, no_later}
use Rattle.future_cells.specs.declared.posts.Post.{Post}

-- what is in the part of a range that passes
pub has-filter_range : (passes : ℕ → Bool) (from count task : ℕ)
    → has (filter passes (range_with_len from count)) task
    ≡ ((nat_le from task && nat_lt task (from + count)) && passes task)
has-filter_range passes from zero task = grind (arith, nat_tests)
has-filter_range passes from (suc count) task =
    at (passes from) refl (has-filter_range passes (from + 1) count task)
  where
    at : (here : Bool) → passes from ≡ here → has (filter passes (range_with_len (from + 1) count)) task
        ≡ ((nat_le (from + 1) task && nat_lt task (from + 1 + count)) && passes task)
        → has (cond here (from ∷ filter passes (range_with_len (from + 1) count))
        (filter passes (range_with_len (from + 1) count))) task
        ≡ ((nat_le from task && nat_lt task (from + suc count)) && passes task)
    at true is others = grind (arith, nat_tests)
    at false is others = grind (arith, nat_tests)

-- a list that has no task is empty
pub has-none : (tasks : List ℕ) → ((task : ℕ) → has tasks task ≡ false) → tasks ≡ []
has-none [] none = refl
has-none (first ∷ others) none = let no_first = none first in grind (arith, nat_tests)

-- what comes no later than what comes no later
no_later-trans : (last one two three : ℕ) → no_later last one two ≡ true → no_later last two three ≡ true
    → no_later last one three ≡ true
no_later-trans last one two three first second = grind (arith, nat_tests)

-- the first of the tasks that pass one test is that of those that pass an equal one
pub IsFirstOf-same : (one two : ℕ → Bool) (last task : ℕ) → ((other : ℕ) → one other ≡ two other)
    → IsFirstOf one last task → IsFirstOf two last task
IsFirstOf-same one two last task same first = record {
  is_one = sym (same task) ∙ first.is_one;
  first = λ other is. first.first other (same other ∙ is);
}

module _ (posts : List Post) (holders : List (Option ℕ)) where
  -- an index beyond the tasks is that of no task that has an event
  is_able-beyond : (task : ℕ) → length posts ≤ task → is_able posts holders task ≡ false
  is_able-beyond task beyond = ap (is_able_by posts holders task) (slice_get_past posts task beyond)

  -- the list of the tasks that have an event has just those
  pub has-able_tasks : (task : ℕ) → has (able_tasks posts holders) task ≡ is_able posts holders task
  has-able_tasks task =
      let within = has-filter_range (is_able posts holders) 0 (length posts) task in
      let beyond = is_able-beyond task in
      grind (arith, nat_tests)

module _ (posts : List Post) (holders : List (Option ℕ)) where
  -- a task that has an event in a cog has one, and it is idle where the cog is
  is_able-from_cog : (cog task : ℕ) → is_able_in posts holders cog task ≡ true
      → (able : is_able posts holders task ≡ true)
      × ((busy : List Bool) → is_idle_by busy (slice_get posts task) ≡ not (is_busy (slice_get busy cog)))
  is_able-from_cog cog task is =
      let own = goes_in-post posts cog task
      (and_parts (goes_in posts cog task) (is_free_for task (slice_get holders cog)) is).0 in (
        ap (is_able_by posts holders task) own.1
            ∙ subst (λ (other : ℕ). is_able_in posts holders other task ≡ true) (sym own.2) is,
        λ busy. ap (is_idle_by busy) own.1 ∙ ap (λ (other : ℕ). not (is_busy (slice_get busy other))) own.2,
      )

  -- a task that has an event has one in a cog that is there
  is_able-in_cog : (task : ℕ) → is_able posts holders task ≡ true
      → (cog : ℕ) × (able : is_able_in posts holders cog task ≡ true) × (cog < length holders)
  is_able-in_cog task is = by_entry (slice_get posts task) is
    where
      by_entry : (entry : Option Post) → is_able_by posts holders task entry ≡ true
          → (cog : ℕ) × (able : is_able_in posts holders cog task ≡ true) × (cog < length holders)
      by_entry None is = absurd cc
      by_entry (Some post) is =
          let free = (and_parts (goes_in posts post.cog task) (is_free_for task (slice_get holders post.cog)) is).1 in
          (post.cog, is, passes-there (is_free_for task) holders post.cog refl free)

module _ (posts : List Post) (holders : List (Option ℕ)) (last : ℕ) (seats : List (Option ℕ))
    (are : AreCandidates posts holders last seats) where
  -- a seated task has an event
  is_seated-able : (task : ℕ) → is_seated seats task ≡ true → is_able posts holders task ≡ true
  is_seated-able task is =
      let at = is_seated-found seats task is in
      (is_able-from_cog posts holders at.0 task (are.candidates_are at.0 (Some task) at.1).is_one).0

  -- the cog of a task that has an event has a seated task that comes no later
  is_able-seat : (task : ℕ) → is_able posts holders task ≡ true
      → (seated : ℕ) × (is : is_seated seats seated ≡ true) × (earlier : no_later last seated task ≡ true)
      × ((busy : List Bool) → is_idle_by busy (slice_get posts seated) ≡ is_idle_by busy (slice_get posts task))
  is_able-seat task is =
      let own = is_able-in_cog posts holders task is in
      let seat = slice_get-there seats own.0 (rw are.seat_for_each own.2) in
      by_seat own.0 own.1 seat.0 seat.1 (are.candidates_are own.0 seat.0 seat.1)
    where
      by_seat : (cog : ℕ) → is_able_in posts holders cog task ≡ true → (seat : Option ℕ)
          → slice_get seats cog ≡ Some seat → IsCandidate posts holders last cog seat
          → (seated : ℕ) × (is : is_seated seats seated ≡ true) × (earlier : no_later last seated task ≡ true)
          × ((busy : List Bool) → is_idle_by busy (slice_get posts seated) ≡ is_idle_by busy (slice_get posts task))
      by_seat cog able None at none = absurd (false≢true (sym (none task) ∙ able))
      by_seat cog able (Some seated) at first = (
        seated,
        is_seated-at seats cog seated at,
        first.first task able,
        λ busy. (is_able-from_cog posts holders cog seated first.is_one).1 busy
            ∙ sym ((is_able-from_cog posts holders cog task able).1 busy),
      )

  -- if that cog is not busy, that task is one in a cog that is not busy
  idle-seat : (busy : List Bool) (task : ℕ) → is_idle_able posts holders busy task ≡ true
      → (seated : ℕ) × (is : is_idle_seated posts seats busy seated ≡ true) × (no_later last seated task ≡ true)
  idle-seat busy task is =
      let parts = and_parts (is_able posts holders task) (is_idle_by busy (slice_get posts task)) is in
      let seat = is_able-seat task parts.0 in
      (seat.0, and_from _ _ seat.1 (seat.3 busy ∙ parts.1), seat.2)

  -- the first seated task in a cog that is not busy is the first task with an event in such a cog
  pub seated-first : (busy : List Bool) (task : ℕ) → IsFirstOf (is_idle_seated posts seats busy) last task
      → IsFirstOf (is_idle_able posts holders busy) last task
  seated-first busy task first = record {
    is_one =
        let parts = and_parts (is_seated seats task) (is_idle_by busy (slice_get posts task)) first.is_one in
        and_from _ _ (is_seated-able task parts.0) parts.1;
    first = λ other is.
        let seat = idle-seat busy other is in
        no_later-trans last task seat.0 other (first.first seat.0 seat.1) seat.2;
  }

  -- where there is no such seated task, there is no such task
  pub seated-none : (busy : List Bool) → ((task : ℕ) → is_idle_seated posts seats busy task ≡ false)
      → (task : ℕ) → is_idle_able posts holders busy task ≡ false
  seated-none busy none task = at (cases_Bool (is_idle_able posts holders busy task))
    where
      at : (is_idle_able posts holders busy task ≡ true) ⊎ (is_idle_able posts holders busy task ≡ false)
          → is_idle_able posts holders busy task ≡ false
      at (inl is) = let seat = idle-seat busy task is in absurd (false≢true (sym (none seat.0) ∙ seat.1))
      at (inr is_not) = is_not

-- what contracts see of a ready set with these parts
abbrev pub seen_as : List Post → List (Option ℕ) → ℕ → ℕ → KeptReady
seen_as posts holders spare last = record {
  tasks = able_tasks posts holders;
  spare = spare;
  posts = posts;
  holders = holders;
  last = last;
}

module _ (posts : List Post) (holders : List (Option ℕ)) (spare last : ℕ) (ready : KeptReady)
    (seen : seen_as posts holders spare last ≡ ready) where
  -- what contracts see of whether a task has an event in a cog that is not busy
  pub is_free_able-is : (busy : List Bool) (task : ℕ) → is_idle_able posts holders busy task ≡ is_free_able ready busy task
  is_free_able-is busy task = rw (← seen, has-able_tasks posts holders task)

  -- no cog is busy without entries
  pub is_free_able-no_entries : (task : ℕ) → is_free_able ready [] task ≡ has ready.tasks task
  is_free_able-no_entries task =
      rw (← seen, has-able_tasks posts holders task) (by_entry (slice_get posts task))
    where
      by_entry : (entry : Option Post)
          → (is_able_by posts holders task entry && is_idle_by [] entry) ≡ is_able_by posts holders task entry
      by_entry None = refl
      by_entry (Some post) = and-true (is_able_in posts holders post.cog task)
