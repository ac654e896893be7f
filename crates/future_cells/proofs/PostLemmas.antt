-- The posts of the tasks and the sets of those that go and of those that wait: they go together after a task is added,
-- and after one changes its standing.
--
--   `is_waiting_for-found`     a standing that waits for a future is the one that says so
--   `goes_in-post`             a task that goes in a cog has a post in it
--   `AreFiled-goers`, `AreFiled-waiters`       which task is in which set
--   `AreFiled-more`, `AreFiled-added`, `AreFiled-changed`      with one more cog, one more task, and after a change
use Rattle.std.proofs.Common.{◌≡◌, ℕ, zero, suc, ◌<◌, ◌≤◌, ◌+◌, Bool, true, false, not, ◌&&◌, ◌||◌, nat_eq, List, [], ◌∷◌, ◌++◌, length, set, slice_get, Option, Some, None, arith, refl, sym, ap, ◌∙◌, ◌⊎◌, inl, inr, ⊎_elim, subst}
use Rattle.std.proofs.lemmas.Bool.{cases_eq, cases_lt, ne_eqb, eqb-true, eqb-false, and_parts, true≢false, false_from_ne_true}
use Rattle.std.proofs.lemmas.Bool.Decides.{nat_tests}
use Rattle.std.proofs.lemmas.List.{length-set, length_push}
use Rattle.std.proofs.lemmas.Option.{same_Some, slice_get_within}
use Rattle.list_facts.proofs.EntryLemmas.{slice_get-there, slice_get-push}
use Rattle.future_cells.proofs.ItemLemmas.{passes-found, slice_get-set_other, slice_get-set_same}
use Rattle.future_cells.proofs.SetLemmas.{has_at-found, has_at-past, has_at-push}
use Rattle.future_cells.specs.Posts.{is_going, is_waiting_for, goes_by, goes_in, waits_by, waits_for, AreFiled}
use Rattle.future_cells.specs.SetLists.{has_at}
use Rattle.future_cells.specs.TaskSets.{has}
use Rattle.future_cells.specs.declared.posts.Post.{Post}
use Rattle.future_cells.specs.declared.posts.Standing.{Standing}
use Rattle.future_cells.specs.declared.posts.Standing.TheVariants.{Ended, Waits, Goes}

-- a standing that waits for a future is the one that says so
pub is_waiting_for-found : (future : ℕ) (standing : Standing) → is_waiting_for future standing ≡ true
    → standing ≡ Waits future
is_waiting_for-found future Goes is = absurd (true≢false (sym is))
is_waiting_for-found future (Waits other) is = ap Waits (eqb-true other future is)
is_waiting_for-found future Ended is = absurd (true≢false (sym is))

-- a task that goes in a cog has a post, which is in this cog
pub goes_in-post : (posts : List Post) (cog task : ℕ) → goes_in posts cog task ≡ true
    → (post : Post) × (slice_get posts task ≡ Some post) × (post.cog ≡ cog)
goes_in-post posts cog task goes =
    let found = passes-found (goes_by cog) posts task refl goes in
    (found.0, found.1, eqb-true found.0.cog cog (and_parts (nat_eq found.0.cog cog) (is_going found.0.standing) found.2).0)

-- no task goes in a cog that is not there
goes_in-past : (posts : List Post) (goers waiters : List (List ℕ)) (cog task : ℕ) → AreFiled posts goers waiters
    → length goers ≤ cog → goes_in posts cog task ≡ false
goes_in-past posts goers waiters cog task filed past =
    false_from_ne_true (goes_in posts cog task) (λ is.
    let found = goes_in-post posts cog task is in
    let there = filed.cogs_there task found.0 found.1 in
    omega (arith, there, found.2, past))

-- no task waits for the task of a future that is not there
waits_for-past : (posts : List Post) (goers waiters : List (List ℕ)) (future task : ℕ) → AreFiled posts goers waiters
    → length posts ≤ future → waits_for posts future task ≡ false
waits_for-past posts goers waiters future task filed past =
    false_from_ne_true (waits_for posts future task) (λ is.
    let found = passes-found (waits_by future) posts task refl is in
    let waits = is_waiting_for-found future found.0.standing found.2 in
    let there = filed.futures_there task found.0 found.1 future waits in
    omega (arith, there, past))

-- the sets of a list are those of the tasks that pass
AreSets-has_at : (passes : ℕ → ℕ → Bool) (sets : List (List ℕ)) (key task : ℕ)
    → ((one : ℕ) (tasks : List ℕ) → slice_get sets one ≡ Some tasks → (other : ℕ) → has tasks other ≡ passes one other)
    → (length sets ≤ key → passes key task ≡ false) → has_at sets key task ≡ passes key task
AreSets-has_at passes sets key task each none =
    ⊎_elim
    (λ within. let tasks = slice_get-there sets key within in
    sym (has_at-found sets key task tasks.0 tasks.1) ∙ each key tasks.0 tasks.1 task)
    (λ past. has_at-past sets key task past ∙ sym (none past))
    (cases_lt key (length sets))

-- the set of each cog has the tasks that go in it, and there are no others
pub AreFiled-goers : (posts : List Post) (goers waiters : List (List ℕ)) → AreFiled posts goers waiters
    → (cog task : ℕ) → has_at goers cog task ≡ goes_in posts cog task
AreFiled-goers posts goers waiters filed cog task =
    AreSets-has_at (goes_in posts) goers cog task filed.goers_are (goes_in-past posts goers waiters cog task filed)

-- the set of each future has the tasks that wait for it, and there are no others
pub AreFiled-waiters : (posts : List Post) (goers waiters : List (List ℕ)) → AreFiled posts goers waiters
    → (future task : ℕ) → has_at waiters future task ≡ waits_for posts future task
AreFiled-waiters posts goers waiters filed future task =
    AreSets-has_at (waits_for posts) waiters future task filed.waiters_are
    (λ past. waits_for-past posts goers waiters future task filed
    (subst (λ (count : ℕ). count ≤ future) filed.waiters_for_each past))

-- a test after a change: it is the new one at the place of the change, and the old one elsewhere
chosen : (here was becomes before now : Bool) → (here ≡ true → before ≡ was) → (here ≡ true → now ≡ becomes)
    → (here ≡ false → now ≡ before) → now ≡ ((here && becomes) || (not (here && was) && before))
chosen true true true before now old new rest = new refl
chosen true true false before now old new rest = new refl
chosen true false true before now old new rest = new refl
chosen true false false before now old new rest = new refl ∙ sym (old refl)
chosen false was becomes before now old new rest = rest refl

-- what passes for a task after the post of one was replaced
by-set : (passes : Option Post → Bool) (posts : List Post) (task other : ℕ) (before now : Post)
    → slice_get posts task ≡ Some before
    → passes (slice_get (set posts task now) other)
    ≡ ((nat_eq task other && passes (Some now))
    || (not (nat_eq task other && passes (Some before)) && passes (slice_get posts other)))
by-set passes posts task other before now is =
    chosen (nat_eq task other) (passes (Some before)) (passes (Some now)) (passes (slice_get posts other))
    (passes (slice_get (set posts task now) other))
    (λ same. ap passes (ap (slice_get posts) (sym (eqb-true task other same)) ∙ is))
    (λ same. ap passes
    (ap (slice_get (set posts task now)) (sym (eqb-true task other same))
    ∙ slice_get-set_same posts task now (slice_get_within posts task before is)))
    (λ differs. ap passes
    (slice_get-set_other posts task other now (λ same. eqb-false task other differs (sym same))))

-- nothing is added by a test that is not so
or-none : (one none : Bool) → none ≡ false → one ≡ (one || none)
or-none true none is = refl
or-none false none is = sym is

-- two numbers are the same exactly where their successors are
nat_eq-suc : (one other : ℕ) → nat_eq (suc one) (suc other) ≡ nat_eq one other
nat_eq-suc one other = grind (arith, nat_tests)

-- what passes for a task with one more task
by-push : (passes : Option Post → Bool) (posts : List Post) (other : ℕ) (last : Post) → passes None ≡ false
    → passes (slice_get (posts ++ last ∷ []) other)
    ≡ ((nat_eq (length posts) other && passes (Some last)) || passes (slice_get posts other))
by-push passes [] zero last none = or-none (passes (Some last)) (passes None) none
by-push passes [] (suc other) last none =
    ap (λ (same : Bool). (same && passes (Some last)) || passes None)
    (sym (ne_eqb 0 (suc other) (λ same. omega (arith, same))))
by-push passes (first ∷ posts) zero last none =
    ap (λ (same : Bool). (same && passes (Some last)) || passes (Some first))
    (sym (ne_eqb (suc (length posts)) 0 (λ same. omega (arith, same))))
by-push passes (first ∷ posts) (suc other) last none =
    by-push passes posts other last none
    ∙ ap (λ (same : Bool). (same && passes (Some last)) || passes (slice_get posts other))
    (sym (nat_eq-suc (length posts) other))

-- the sets are those of the posts, if each task is in the set that its post puts it into, and in no other
AreFiled-from : (posts : List Post) (goers waiters : List (List ℕ))
    → ((task : ℕ) (post : Post) → slice_get posts task ≡ Some post → post.cog < length goers)
    → ((task : ℕ) (post : Post) → slice_get posts task ≡ Some post
    → (future : ℕ) → post.standing ≡ Waits future → future < length posts)
    → length waiters ≡ length posts
    → ((cog task : ℕ) → has_at goers cog task ≡ goes_in posts cog task)
    → ((future task : ℕ) → has_at waiters future task ≡ waits_for posts future task)
    → AreFiled posts goers waiters
AreFiled-from posts goers waiters cogs futures lengths go wait = record {
  cogs_there = cogs;
  futures_there = futures;
  waiters_for_each = lengths;
  goers_are = λ cog tasks is task. has_at-found goers cog task tasks is ∙ go cog task;
  waiters_are = λ future tasks is task. has_at-found waiters future task tasks is ∙ wait future task;
}

-- the sets are those of the posts with one more cog, which has no task
pub AreFiled-more : (posts : List Post) (goers waiters : List (List ℕ)) → AreFiled posts goers waiters
    → AreFiled posts (goers ++ [] ∷ []) waiters
AreFiled-more posts goers waiters filed =
    AreFiled-from posts (goers ++ [] ∷ []) waiters
    (λ task post is.
    let within = filed.cogs_there task post is in
    let long = length_push {X = List ℕ} goers [] in
    omega (arith, within, long))
    filed.futures_there filed.waiters_for_each
    (λ cog task. has_at-push goers cog task ∙ AreFiled-goers posts goers waiters filed cog task)
    (AreFiled-waiters posts goers waiters filed)

-- the sets are those of the posts with one more task that goes
pub AreFiled-added : (posts : List Post) (goers waiters more_goers more_waiters : List (List ℕ)) (cog : ℕ)
    → AreFiled posts goers waiters → cog < length goers → length more_goers ≡ length goers
    → length more_waiters ≡ length (waiters ++ [] ∷ [])
    → ((key other : ℕ) → has_at more_goers key other
    ≡ ((nat_eq (length posts) other && goes_by key (Some (record { cog = cog; standing = Goes })))
    || has_at goers key other))
    → ((key other : ℕ) → has_at more_waiters key other
    ≡ ((nat_eq (length posts) other && waits_by key (Some (record { cog = cog; standing = Goes })))
    || has_at (waiters ++ [] ∷ []) key other))
    → AreFiled (posts ++ record { cog = cog; standing = Goes } ∷ []) more_goers more_waiters
AreFiled-added posts goers waiters more_goers more_waiters cog filed there goers_long waiters_long go wait =
    AreFiled-from (posts ++ last ∷ []) more_goers more_waiters cogs futures
    (waiters_long
    ∙ (length_push waiters []
    ∙ (ap (λ (count : ℕ). count + 1) filed.waiters_for_each ∙ sym (length_push posts last))))
    (λ key task. go key task
    ∙ (ap (λ (is : Bool). (nat_eq (length posts) task && goes_by key (Some last)) || is)
    (AreFiled-goers posts goers waiters filed key task)
    ∙ sym (by-push (goes_by key) posts task last refl)))
    (λ key task. wait key task
    ∙ (ap (λ (is : Bool). (nat_eq (length posts) task && waits_by key (Some last)) || is)
    (has_at-push waiters key task ∙ AreFiled-waiters posts goers waiters filed key task)
    ∙ sym (by-push (waits_by key) posts task last refl)))
  where
    last : Post
    last = record { cog = cog; standing = Goes }

    cogs : (task : ℕ) (post : Post) → slice_get (posts ++ last ∷ []) task ≡ Some post → post.cog < length more_goers
    cogs task post is = ⊎_elim
        (λ before. let within = filed.cogs_there task post before in omega (arith, within, goers_long))
        (λ new. let same = ap (λ (one : Post). one.cog) new.1 in omega (arith, same, there, goers_long))
        (slice_get-push posts last task post is)

    futures : (task : ℕ) (post : Post) → slice_get (posts ++ last ∷ []) task ≡ Some post
        → (future : ℕ) → post.standing ≡ Waits future → future < length (posts ++ last ∷ [])
    futures task post is future waits = ⊎_elim
        (λ before. let within = filed.futures_there task post before future waits in
        let long = length_push posts last in omega (arith, within, long))
        (λ new. let goes : Goes ≡ Waits future = ap (λ (one : Post). one.standing) new.1 ∙ waits in absurd cc)
        (slice_get-push posts last task post is)

-- the sets are those of the posts after one task changed its standing
pub AreFiled-changed : (posts : List Post) (goers waiters goers_after waiters_after : List (List ℕ)) (task : ℕ)
    (before now : Post)
    → AreFiled posts goers waiters → slice_get posts task ≡ Some before → now.cog < length goers
    → ((future : ℕ) → now.standing ≡ Waits future → future < length posts)
    → length goers_after ≡ length goers → length waiters_after ≡ length waiters
    → ((key other : ℕ) → has_at goers_after key other
    ≡ ((nat_eq task other && goes_by key (Some now))
    || (not (nat_eq task other && goes_by key (Some before)) && has_at goers key other)))
    → ((key other : ℕ) → has_at waiters_after key other
    ≡ ((nat_eq task other && waits_by key (Some now))
    || (not (nat_eq task other && waits_by key (Some before)) && has_at waiters key other)))
    → AreFiled (set posts task now) goers_after waiters_after
AreFiled-changed posts goers waiters goers_after waiters_after task before now filed is there waits_there goers_long
    waiters_long go wait =
    AreFiled-from (set posts task now) goers_after waiters_after cogs futures
    (waiters_long ∙ (filed.waiters_for_each ∙ sym (length-set posts task now)))
    (λ key other. go key other
    ∙ (ap (λ (one : Bool). (nat_eq task other && goes_by key (Some now))
    || (not (nat_eq task other && goes_by key (Some before)) && one))
    (AreFiled-goers posts goers waiters filed key other)
    ∙ sym (by-set (goes_by key) posts task other before now is)))
    (λ key other. wait key other
    ∙ (ap (λ (one : Bool). (nat_eq task other && waits_by key (Some now))
    || (not (nat_eq task other && waits_by key (Some before)) && one))
    (AreFiled-waiters posts goers waiters filed key other)
    ∙ sym (by-set (waits_by key) posts task other before now is)))
  where
    found : (other : ℕ) (post : Post) → slice_get (set posts task now) other ≡ Some post
        → (now ≡ post) ⊎ (slice_get posts other ≡ Some post)
    found other post at = ⊎_elim
        (λ same. inl (same_Some now post
        (sym (slice_get-set_same posts task now (slice_get_within posts task before is))
        ∙ (ap (slice_get (set posts task now)) (sym same) ∙ at))))
        (λ differs. inr (sym (slice_get-set_other posts task other now differs) ∙ at))
        (cases_eq other task)

    cogs : (other : ℕ) (post : Post) → slice_get (set posts task now) other ≡ Some post → post.cog < length goers_after
    cogs other post at = ⊎_elim
        (λ new. let same = ap (λ (post : Post). post.cog) new in omega (arith, same, there, goers_long))
        (λ old. let within = filed.cogs_there other post old in omega (arith, within, goers_long))
        (found other post at)

    futures : (other : ℕ) (post : Post) → slice_get (set posts task now) other ≡ Some post
        → (future : ℕ) → post.standing ≡ Waits future → future < length (set posts task now)
    futures other post at future waits = ⊎_elim
        (λ new. rw length-set (waits_there future (ap (λ (one : Post). one.standing) new ∙ waits)))
        (λ old. rw length-set (filed.futures_there other post old future waits))
        (found other post at)
