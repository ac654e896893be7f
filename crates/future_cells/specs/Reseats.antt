-- What holds of the seats of the cogs while candidates are found anew.
--
--   `GoAtHomeBut`              each task that has a seat goes in the cog, where this is not a certain one
--   `GoAtHome`                 each task that has a seat goes in the cog
--   `AreCandidatesBut`         each cog has a seat, and its candidate has it, where this is not a certain cog
--   `IsReseated`               the candidate of a cog was given its seat
--   `AreReseatedBelow`         so were those of the cogs with lower indices
use Rattle.std.specs.Prelude.{◌≡◌, ◌≢◌, ◌<◌, ℕ, true, List, length, set, slice_get, Option, Some}
use Rattle.future_cells.specs.Posts.{goes_in}
use Rattle.future_cells.specs.Ready.{IsCandidate}
use Rattle.future_cells.specs.declared.posts.Post.{Post}

-- Each task that has a seat goes in the cog of the seat, but for one cog.
pub record GoAtHomeBut (but : ℕ) (posts : List Post) (seats : List (Option ℕ)) : Type 0 where
  pub at_home : (cog task : ℕ) → cog ≢ but → slice_get seats cog ≡ Some (Some task) → goes_in posts cog task ≡ true

-- Each task that has a seat goes in the cog of the seat.
pub record GoAtHome (posts : List Post) (seats : List (Option ℕ)) : Type 0 where
  pub at_home : (cog task : ℕ) → slice_get seats cog ≡ Some (Some task) → goes_in posts cog task ≡ true

-- Each cog has a seat, and its candidate has it, but for one cog.
pub record AreCandidatesBut (but : ℕ) (posts : List Post) (holders : List (Option ℕ)) (last : ℕ)
    (seats : List (Option ℕ)) : Type 0 where
  pub seat_for_each : length seats ≡ length holders
  pub others_are : (cog : ℕ) (seat : Option ℕ) → cog ≢ but → slice_get seats cog ≡ Some seat
      → IsCandidate posts holders last cog seat

-- The candidate of the cog was given its seat.
pub record IsReseated (posts : List Post) (holders : List (Option ℕ)) (last cog : ℕ) (seats after : List (Option ℕ))
    : Type 0 where
  pub candidate : Option ℕ
  pub is_candidate : IsCandidate posts holders last cog candidate
  pub is_seated : after ≡ set seats cog candidate

-- Each cog has a seat, the candidates of those with lower indices have theirs, and all go in their cogs.
pub record AreReseatedBelow (index : ℕ) (posts : List Post) (holders : List (Option ℕ)) (last : ℕ)
    (seats : List (Option ℕ)) : Type 0 where
  pub seat_for_each : length seats ≡ length holders
  pub all_at_home : GoAtHome posts seats
  pub candidates_below : (cog : ℕ) (seat : Option ℕ) → cog < index → slice_get seats cog ≡ Some seat
      → IsCandidate posts holders last cog seat
