-- Candidates: which stay where what is kept changes, and where their seats are given anew.
--
--   `not_seated-elsewhere`             the candidate of a cog has the seat of no other
--   `AreCandidatesBut-stood`, `AreCandidatesBut-held`, `AreCandidatesBut-pushed`   but for one cog they stay where a task
--                                      changes, where a holder changes, and where a task is added
--   `AreCandidates-cog_added`          they stay where a cog is added that no task is in
--   `GoAtHomeBut-candidates`           candidates go in their cogs
--   `holders_with-few`                 there are few cogs with a new one
--   `AreCandidates-reseated`           but for one cog they had their seats, and now that one's candidate has it too
use Rattle.std.proofs.Common.{◌≡◌, ◌≢◌, ℕ, zero, suc, ◌+◌, ◌<◌, ◌^◌, Bool, true, false, ◌&&◌, nat_eq, List, [], ◌∷◌, ◌++◌, length, set, slice_get, Some, None, IfSome, ⊎_elim, refl, sym, ap, ◌∙◌, subst, arith}
use Rattle.std.specs.Prelude.{Option}
use Rattle.std.proofs.Math.ListN.{length-set}
use Rattle.std.proofs.lemmas.Bool.{and_parts, and_left, ne_eqb}
use Rattle.std.proofs.lemmas.List.{length_push}
use Rattle.std.proofs.lemmas.Option.{same_Some, slice_get_within}
use Rattle.list_facts.proofs.EntryLemmas.{slice_get-push, slice_get-before}
use Rattle.future_cells.proofs.ItemLemmas.{slice_get-set_other, slice_get-set_cases}
use Rattle.future_cells.proofs.PostLemmas.{goes_in-post}
use Rattle.future_cells.specs.Posts.{goes_in, goes_by, is_going}
use Rattle.future_cells.specs.Ready.{IsCandidate, AreCandidates, is_able_in, is_free_for, holders_with, posts_with}
use Rattle.future_cells.specs.Reseats.{GoAtHomeBut, AreCandidatesBut, IsReseated}
use Rattle.future_cells.specs.declared.posts.Post.{Post}
use Rattle.future_cells.specs.declared.posts.Standing.{Standing}
use Rattle.future_cells.specs.declared.posts.Standing.TheVariants.{Goes}

-- a candidate goes in its cog
pub IsCandidate-goes : (posts : List Post) (holders : List (Option ℕ)) (last cog task : ℕ)
    → IsCandidate posts holders last cog (Some task) → goes_in posts cog task ≡ true
IsCandidate-goes posts holders last cog task first =
    (and_parts (goes_in posts cog task) (is_free_for task (slice_get holders cog)) first.is_one).0

-- a task goes in one cog alone
goes_in-one_cog : (posts : List Post) (task one other : ℕ) → goes_in posts one task ≡ true
    → goes_in posts other task ≡ true → one ≡ other
goes_in-one_cog posts task one other in_one in_other =
    let first = goes_in-post posts one task in_one in
    let second = goes_in-post posts other task in_other in
    sym first.2 ∙ ap (λ (post : Post). post.cog) (same_Some first.0 second.0 (sym first.1 ∙ second.1)) ∙ second.2

-- a candidate of one cog has the seat of no other
pub not_seated-elsewhere : (posts : List Post) (holders : List (Option ℕ)) (last cog : ℕ) (seats : List (Option ℕ))
    (seat : Option ℕ) → GoAtHomeBut cog posts seats → IsCandidate posts holders last cog seat → (other : ℕ)
    → other ≢ cog → (given : ℕ) → seat ≡ Some given → slice_get seats other ≢ Some (Some given)
not_seated-elsewhere posts holders last cog seats seat home candidate other elsewhere given is seated =
    let goes = IsCandidate-goes posts holders last cog given (subst (IsCandidate posts holders last cog) is candidate) in
    elsewhere (goes_in-one_cog posts given other cog (home.at_home other given elsewhere seated) goes)

-- an event of a task in a cog depends on whether it goes there, and on the holder
is_able_in-same : (posts after : List Post) (holders held : List (Option ℕ)) (cog : ℕ)
    → ((task : ℕ) → goes_in posts cog task ≡ goes_in after cog task) → slice_get holders cog ≡ slice_get held cog
    → (task : ℕ) → is_able_in posts holders cog task ≡ is_able_in after held cog task
is_able_in-same posts after holders held cog goers holder task =
    ap (λ (goes : Bool). goes && is_free_for task (slice_get holders cog)) (goers task)
    ∙ ap (λ (found : Option (Option ℕ)). goes_in after cog task && is_free_for task found) holder

-- the candidate of a cog stays where the same tasks go in it, and its holder is the same
IsCandidate-same : (posts after : List Post) (holders held : List (Option ℕ)) (last cog : ℕ) (seat : Option ℕ)
    → ((task : ℕ) → goes_in posts cog task ≡ goes_in after cog task) → slice_get holders cog ≡ slice_get held cog
    → IsCandidate posts holders last cog seat → IsCandidate after held last cog seat
IsCandidate-same posts after holders held last cog None goers holder none =
    λ task. sym (is_able_in-same posts after holders held cog goers holder task) ∙ none task
IsCandidate-same posts after holders held last cog (Some found) goers holder first =
    let same = is_able_in-same posts after holders held cog goers holder in record {
      is_one = sym (same found) ∙ first.is_one;
      first = λ task able. first.first task (same task ∙ able);
    }

-- tasks of other cogs go as before where a task changes by itself
goes_in-stood : (posts : List Post) (task cog other : ℕ) (standing was : Standing) (some : ℕ) → other ≢ cog
    → slice_get posts task ≡ Some (record { cog = cog; standing = was })
    → goes_in posts other some ≡ goes_in (set posts task (record { cog = cog; standing = standing })) other some
goes_in-stood [] task cog other standing was some elsewhere there = refl
goes_in-stood (first ∷ posts) zero cog other standing was zero elsewhere there =
    ap (goes_by other) there ∙ and_left (nat_eq cog other) (is_going was) (ne_eqb cog other (λ same. elsewhere (sym same)))
    ∙ sym (and_left (nat_eq cog other) (is_going standing) (ne_eqb cog other (λ same. elsewhere (sym same))))
goes_in-stood (first ∷ posts) zero cog other standing was (suc some) elsewhere there = refl
goes_in-stood (first ∷ posts) (suc task) cog other standing was zero elsewhere there = refl
goes_in-stood (first ∷ posts) (suc task) cog other standing was (suc some) elsewhere there =
    goes_in-stood posts task cog other standing was some elsewhere there

-- tasks of other cogs go as before where a task is added
goes_in-pushed : (posts : List Post) (cog other some : ℕ) → other ≢ cog
    → goes_in posts other some ≡ goes_in (posts ++ record { cog = cog; standing = Goes } ∷ []) other some
goes_in-pushed [] cog other zero elsewhere =
    sym (and_left (nat_eq cog other) true (ne_eqb cog other (λ same. elsewhere (sym same))))
goes_in-pushed [] cog other (suc some) elsewhere = refl
goes_in-pushed (first ∷ posts) cog other zero elsewhere = refl
goes_in-pushed (first ∷ posts) cog other (suc some) elsewhere = goes_in-pushed posts cog other some elsewhere

-- the posts after a task changed by itself
pub stood-is : (posts after : List Post) (task : ℕ) (post : Post) (standing : Standing)
    → slice_get posts task ≡ Some post
    → IfSome (slice_get posts task)
    (λ (was : Post). after ≡ set posts task (record { cog = was.cog; standing = standing }))
    → after ≡ set posts task (record { cog = post.cog; standing = standing })
stood-is posts after task post standing there changed =
    subst
    (λ (found : Option Post).
    IfSome found (λ (was : Post). after ≡ set posts task (record { cog = was.cog; standing = standing })))
    there changed

-- but for one cog, candidates stay where a task of it changes by itself
pub AreCandidatesBut-stood : (posts after : List Post) (holders : List (Option ℕ)) (last : ℕ)
    (seats : List (Option ℕ)) (task : ℕ) (post : Post) (standing : Standing)
    → AreCandidates posts holders last seats → slice_get posts task ≡ Some post
    → IfSome (slice_get posts task)
    (λ (was : Post). after ≡ set posts task (record { cog = was.cog; standing = standing }))
    → AreCandidatesBut post.cog after holders last seats
AreCandidatesBut-stood posts after holders last seats task post standing are there changed =
    let is = stood-is posts after task post standing there changed in record {
      seat_for_each = are.seat_for_each;
      others_are = λ cog seat elsewhere at.
          IsCandidate-same posts after holders holders last cog seat
          (λ some.
          goes_in-stood posts task post.cog cog standing post.standing some elsewhere there
          ∙ ap (λ (all : List Post). goes_in all cog some) (sym is))
          refl (are.candidates_are cog seat at);
    }

-- but for one cog, candidates stay where its holder changes
pub AreCandidatesBut-held : (posts : List Post) (holders : List (Option ℕ)) (last : ℕ) (seats : List (Option ℕ))
    (cog : ℕ) (holder : Option ℕ) → AreCandidates posts holders last seats
    → AreCandidatesBut cog posts (set holders cog holder) last seats
AreCandidatesBut-held posts holders last seats cog holder are = record {
  seat_for_each = are.seat_for_each ∙ sym (length-set holders cog holder);
  others_are = λ other seat elsewhere is.
      IsCandidate-same posts posts holders (set holders cog holder) last other seat (λ some. refl)
      (sym (slice_get-set_other holders cog other holder elsewhere)) (are.candidates_are other seat is);
}

-- but for one cog, candidates stay where a task is added that goes in it
pub AreCandidatesBut-pushed : (posts after : List Post) (holders : List (Option ℕ)) (last : ℕ)
    (seats : List (Option ℕ)) (cog : ℕ) → AreCandidates posts holders last seats
    → after ≡ posts ++ record { cog = cog; standing = Goes } ∷ [] → AreCandidatesBut cog after holders last seats
AreCandidatesBut-pushed posts after holders last seats cog are is = record {
  seat_for_each = are.seat_for_each;
  others_are = λ other seat elsewhere at.
      IsCandidate-same posts after holders holders last other seat
      (λ some.
      goes_in-pushed posts cog other some elsewhere
      ∙ ap (λ (all : List Post). goes_in all other some) (sym is))
      refl (are.candidates_are other seat at);
}

-- candidates go in their cogs
pub GoAtHomeBut-candidates : (posts : List Post) (holders : List (Option ℕ)) (last cog : ℕ) (seats : List (Option ℕ))
    → AreCandidatesBut cog posts holders last seats → GoAtHomeBut cog posts seats
GoAtHomeBut-candidates posts holders last cog seats are = record {
  at_home = λ other task elsewhere is.
      IsCandidate-goes posts holders last other task (are.others_are other (Some task) elsewhere is);
}

-- but for one cog they had their seats, and now that one's candidate, found by these holders, has it too
pub AreCandidates-reseated : (posts : List Post) (holders given : List (Option ℕ)) (last cog : ℕ)
    (seats after : List (Option ℕ)) → AreCandidatesBut cog posts holders last seats → given ≡ holders
    → IsReseated posts given last cog seats after → AreCandidates posts holders last after
AreCandidates-reseated posts holders given last cog seats after are same_holders now = record {
  seat_for_each = ap length now.is_seated ∙ length-set seats cog now.candidate ∙ are.seat_for_each;
  candidates_are = λ other seat is.
      ⊎_elim
      (λ here.
      subst (λ (place : ℕ). IsCandidate posts holders last place seat) (sym here.0)
      (subst (IsCandidate posts holders last cog) (sym here.1)
      (subst (λ (all : List (Option ℕ)). IsCandidate posts all last cog now.candidate) same_holders
      now.is_candidate)))
      (λ elsewhere. are.others_are other seat elsewhere.0 elsewhere.1)
      (slice_get-set_cases seats cog other now.candidate seat
      (ap (λ (all : List (Option ℕ)). slice_get all other) (sym now.is_seated) ∙ is));
}

-- candidates stay where a cog is added that no task is in
AreCandidates-cog : (posts : List Post) (holders : List (Option ℕ)) (last : ℕ) (seats : List (Option ℕ))
    → AreCandidates posts holders last seats → ((task : ℕ) → goes_in posts (length holders) task ≡ false)
    → AreCandidates posts (holders ++ None ∷ []) last (seats ++ None ∷ [])
AreCandidates-cog posts holders last seats are none = record {
  seat_for_each =
      length_push seats None ∙ ap (λ (count : ℕ). count + 1) are.seat_for_each ∙ sym (length_push holders None);
  candidates_are = λ cog seat is.
      ⊎_elim
      (λ before.
      let within = slice_get_within seats cog seat before in
      IsCandidate-same posts posts holders (holders ++ None ∷ []) last cog seat (λ some. refl)
      (sym (slice_get-before holders (None ∷ []) cog (omega (arith, within, are.seat_for_each))))
      (are.candidates_are cog seat before))
      (λ here.
      subst (IsCandidate posts (holders ++ None ∷ []) last cog) here.1
      (λ task. and_left (goes_in posts cog task) (is_free_for task (slice_get (holders ++ None ∷ []) cog))
      (ap (λ (place : ℕ). goes_in posts place task) (sym here.0 ∙ are.seat_for_each) ∙ none task)))
      (slice_get-push seats None cog seat is);
}

-- candidates stay where a cog is added that no task is in
pub AreCandidates-cog_added : (posts after : List Post) (holders held : List (Option ℕ)) (last cogs : ℕ)
    (seats seated : List (Option ℕ)) → AreCandidates posts holders last seats → cogs ≡ length holders → after ≡ posts
    → held ≡ holders ++ None ∷ [] → seated ≡ seats ++ None ∷ [] → ((task : ℕ) → goes_in after cogs task ≡ false)
    → AreCandidates after held last seated
AreCandidates-cog_added posts after holders held last cogs seats seated are count same more_holders more_seats none =
    let no_task : (task : ℕ) → goes_in posts (length holders) task ≡ false = λ task.
    ap (λ (all : List Post). goes_in all (length holders) task) (sym same)
    ∙ ap (λ (place : ℕ). goes_in after place task) (sym count) ∙ none task in
    subst (λ (all : List Post). AreCandidates all held last seated) (sym same)
    (subst (λ (all : List (Option ℕ)). AreCandidates posts all last seated) (sym more_holders)
    (subst (AreCandidates posts (holders ++ None ∷ []) last) (sym more_seats)
    (AreCandidates-cog posts holders last seats are no_task)))

-- the posts with that of a new task, where there is one
pub posts_with-task : (home : Option ℕ) (cog : ℕ) (posts same after : List Post) → home ≡ Some cog → same ≡ posts
    → after ≡ same ++ record { cog = cog; standing = Goes } ∷ [] → posts_with home posts ≡ after
posts_with-task home cog posts same after is unchanged added =
    ap (λ (given : Option ℕ). posts_with given posts) is
    ∙ sym (ap (λ (all : List Post). all ++ record { cog = cog; standing = Goes } ∷ []) unchanged) ∙ sym added

-- there are few cogs with a new one, if there is one more index
pub holders_with-few : (new_cog : Bool) (holders after : List (Option ℕ)) → after ≡ holders_with new_cog holders
    → length holders < 2 ^ 32 → (new_cog ≡ true → length holders + 1 < 2 ^ 32) → length after < 2 ^ 32
holders_with-few false holders after is few one_more = omega (arith, ap length is, few)
holders_with-few true holders after is few one_more =
    omega (arith, ap length is, length_push {X = Option ℕ} holders None, one_more refl)
