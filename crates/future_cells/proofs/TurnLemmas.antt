-- The order after the last task: which candidates stay where the first of them has its turn, and how all are found anew.
--
--   `seated-there`                     a seated candidate is a task
--   `AreCandidatesBut-turned`          the candidates after the last task are those after the first of them, but for its
--                                      own cog
--   `GoAtHome-candidates`              candidates go in their cogs
--   `AreReseatedBelow-more`, `AreReseatedBelow-all`    one more was given its seat, and all were
use Rattle.std.proofs.Common.{◌≡◌, ◌≢◌, ℕ, ◌+◌, ◌<◌, ◌≤◌, true, List, length, slice_get, Some, None, ◌⊎◌, ⊎_elim, refl, sym, ap, ◌∙◌, subst, arith}
use Rattle.std.specs.Prelude.{Option}
use Rattle.std.proofs.Math.ListN.{length-set}
use Rattle.std.proofs.lemmas.Bool.Decides.{nat_tests}
use Rattle.std.proofs.lemmas.Option.{same_Some, slice_get_within}
use Rattle.future_cells.proofs.ItemLemmas.{passes-there, slice_get-set_cases}
use Rattle.future_cells.proofs.ReseatLemmas.{IsCandidate-goes}
use Rattle.future_cells.proofs.PostLemmas.{goes_in-post}
use Rattle.future_cells.proofs.SeatLemmas.{is_seated-at, is_seated-found}
use Rattle.future_cells.specs.Posts.{goes_in, goes_by}
use Rattle.future_cells.specs.Ready.{IsCandidate, AreCandidates}
use Rattle.future_cells.specs.Reseats.{AreCandidatesBut, AreReseatedBelow, GoAtHome, IsReseated}
use Rattle.future_cells.specs.Seats.{is_seated}
use Rattle.future_cells.specs.Turns.{IsFirstOf, no_later}
use Rattle.future_cells.specs.declared.posts.Post.{Post}

-- what comes no later than another, after the last one, comes no later after a third that comes no later than it is
no_later-after : (last task one other : ℕ) → no_later last task one ≡ true → no_later last one other ≡ true
    → one ≢ task → no_later task one other ≡ true
no_later-after last task one other first later elsewhere = grind (arith, nat_tests)

-- a seated candidate is a task
pub seated-there : (posts : List Post) (holders : List (Option ℕ)) (last task : ℕ) (seats : List (Option ℕ))
    → AreCandidates posts holders last seats → is_seated seats task ≡ true → task < length posts
seated-there posts holders last task seats are seated =
    let at = is_seated-found seats task seated in
    passes-there (goes_by at.0) posts task refl
    (IsCandidate-goes posts holders last at.0 task (are.candidates_are at.0 (Some task) at.1))

-- the candidate of a cog after the last task is that after the first candidate, where this is a task of another cog
IsCandidate-turned : (posts : List Post) (holders : List (Option ℕ)) (last task cog : ℕ) (seats : List (Option ℕ))
    (post : Post) (seat : Option ℕ) → slice_get posts task ≡ Some post → cog ≢ post.cog
    → IsFirstOf (is_seated seats) last task → slice_get seats cog ≡ Some seat
    → IsCandidate posts holders last cog seat → IsCandidate posts holders task cog seat
IsCandidate-turned posts holders last task cog seats post None at elsewhere first is none = none
IsCandidate-turned posts holders last task cog seats post (Some one) at elsewhere first is candidate =
    let one_else : one ≢ task = λ same.
    let own = goes_in-post posts cog task
    (subst (λ (it : ℕ). goes_in posts cog it ≡ true) same (IsCandidate-goes posts holders last cog one candidate)) in
    elsewhere (sym own.2 ∙ ap (λ (post : Post). post.cog) (same_Some own.0 post (sym own.1 ∙ at))) in
    record {
      is_one = candidate.is_one;
      first = λ other able.
          no_later-after last task one other (first.first one (is_seated-at seats cog one is))
          (candidate.first other able) one_else;
    }

-- but for its own cog, the candidates after the last task are those after the first of them
pub AreCandidatesBut-turned : (posts : List Post) (holders : List (Option ℕ)) (last task : ℕ)
    (seats : List (Option ℕ)) (post : Post) → slice_get posts task ≡ Some post
    → AreCandidates posts holders last seats → IsFirstOf (is_seated seats) last task
    → AreCandidatesBut post.cog posts holders task seats
AreCandidatesBut-turned posts holders last task seats post at are first = record {
  seat_for_each = are.seat_for_each;
  others_are = λ cog seat elsewhere is.
      IsCandidate-turned posts holders last task cog seats post seat at elsewhere first is
      (are.candidates_are cog seat is);
}

-- candidates go in their cogs
pub GoAtHome-candidates : (posts : List Post) (holders : List (Option ℕ)) (last : ℕ) (seats : List (Option ℕ))
    → AreCandidates posts holders last seats → GoAtHome posts seats
GoAtHome-candidates posts holders last seats are = record {
  at_home = λ cog task is.
      IsCandidate-goes posts holders last cog task (are.candidates_are cog (Some task) is);
}

-- one more candidate was given its seat
pub AreReseatedBelow-more : (index : ℕ) (posts : List Post) (holders : List (Option ℕ)) (last : ℕ)
    (seats after : List (Option ℕ)) → AreReseatedBelow index posts holders last seats
    → IsReseated posts holders last index seats after → AreReseatedBelow (index + 1) posts holders last after
AreReseatedBelow-more index posts holders last seats after so_far now =
    let of : (cog : ℕ) (seat : Option ℕ) → slice_get after cog ≡ Some seat
    → ((cog ≡ index) × (seat ≡ now.candidate)) ⊎ ((cog ≢ index) × (slice_get seats cog ≡ Some seat)) = λ cog seat is.
    slice_get-set_cases seats index cog now.candidate seat
    (ap (λ (all : List (Option ℕ)). slice_get all cog) (sym now.is_seated) ∙ is) in
    let here : (cog : ℕ) (seat : Option ℕ) → cog ≡ index → seat ≡ now.candidate
    → IsCandidate posts holders last cog seat = λ cog seat same given.
    subst (λ (place : ℕ). IsCandidate posts holders last place seat) (sym same)
    (subst (IsCandidate posts holders last index) (sym given) now.is_candidate) in record {
      seat_for_each = ap length now.is_seated ∙ length-set seats index now.candidate ∙ so_far.seat_for_each;
      all_at_home = record {
        at_home = λ cog task is.
            ⊎_elim (λ same. IsCandidate-goes posts holders last cog task (here cog (Some task) same.0 same.1))
            (λ elsewhere. so_far.all_at_home.at_home cog task elsewhere.1)
            (of cog (Some task) is);
      };
      candidates_below = λ cog seat below is.
          ⊎_elim (λ same. here cog seat same.0 same.1)
          (λ elsewhere. so_far.candidates_below cog seat (omega (arith, below, elsewhere.0)) elsewhere.1)
          (of cog seat is);
    }

-- the candidate of each cog was given its seat
pub AreReseatedBelow-all : (index : ℕ) (posts : List Post) (holders : List (Option ℕ)) (last : ℕ)
    (seats : List (Option ℕ)) → AreReseatedBelow index posts holders last seats → length holders ≤ index
    → AreCandidates posts holders last seats
AreReseatedBelow-all index posts holders last seats so_far all = record {
  seat_for_each = so_far.seat_for_each;
  candidates_are = λ cog seat is.
      let within = slice_get_within seats cog seat is in
      so_far.candidates_below cog seat (omega (arith, within, so_far.seat_for_each)) is;
}
