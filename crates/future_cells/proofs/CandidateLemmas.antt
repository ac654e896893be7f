-- The set of the seated tasks and the seats: they go together before and after a seat is given to a task or freed.
--
--   `AreSeated`                they go together
--   `AreSeated-has`, `AreSeated-has_not`       who is in the set
--   `AreSeated-changed`, `AreSeated-push`      after a seat was given, freed or added
use Rattle.std.proofs.Common.{◌≡◌, ◌≢◌, ℕ, ◌<◌, Bool, true, false, not, ◌&&◌, ◌||◌, List, [], ◌∷◌, ◌++◌, length, set, slice_get, Option, Some, None, sym, ap, ◌∙◌}
use Rattle.future_cells.proofs.SeatLemmas.{is_seated-at, is_seated-no_other, is_seated-set, is_seated-without, is_seated-push, HaveOneEach-set, HaveOneEach-push}
use Rattle.future_cells.specs.Seats.{is_in_seat, is_seated, HaveOneEach}
use Rattle.future_cells.specs.TaskSets.{has}

-- The set is that of the tasks that have a seat, and none of them has two.
abbrev pub AreSeated : List ℕ → List (Option ℕ) → Type 0
AreSeated tasks seats = ((task : ℕ) → has tasks task ≡ is_seated seats task) × HaveOneEach seats

-- the task of a seat is in the set
pub AreSeated-has : (tasks : List ℕ) (seats : List (Option ℕ)) (index task : ℕ) → AreSeated tasks seats
    → slice_get seats index ≡ Some (Some task) → has tasks task ≡ true
AreSeated-has tasks seats index task seated is = seated.0 task ∙ is_seated-at seats index task is

-- a task that has no seat is not in the set
pub AreSeated-has_not : (tasks : List ℕ) (seats : List (Option ℕ)) (index task : ℕ) (seat : Option ℕ)
    → AreSeated tasks seats → slice_get seats index ≡ Some seat → seat ≢ Some task
    → ((other : ℕ) → other ≢ index → slice_get seats other ≢ Some (Some task)) → has tasks task ≡ false
AreSeated-has_not tasks seats index task seat seated is differs none =
    seated.0 task ∙ is_seated-no_other seats index task seat is differs none

-- after one seat was given to a task that has no other, or freed
pub AreSeated-changed : (tasks after : List ℕ) (seats : List (Option ℕ)) (index : ℕ) (before now : Option ℕ)
    → AreSeated tasks seats → index < length seats → slice_get seats index ≡ Some before
    → ((other : ℕ) → other ≢ index → (given : ℕ) → now ≡ Some given → slice_get seats other ≢ Some (Some given))
    → ((task : ℕ) → has after task ≡ (is_in_seat task now || (not (is_in_seat task before) && has tasks task)))
    → AreSeated after (set seats index now)
AreSeated-changed tasks after seats index before now seated there is none changed = (
  λ task. changed task
      ∙ (ap (λ (one : Bool). is_in_seat task now || (not (is_in_seat task before) && one)) (seated.0 task)
      ∙ (ap (λ (one : Bool). is_in_seat task now || one) (is_seated-without seats index before task seated.1 there is)
      ∙ sym (is_seated-set seats index now task there))),
  HaveOneEach-set seats index now seated.1 there none,
)

-- with one more seat that is free
pub AreSeated-push : (tasks : List ℕ) (seats : List (Option ℕ)) → AreSeated tasks seats
    → AreSeated tasks (seats ++ None ∷ [])
AreSeated-push tasks seats seated =
    (λ task. seated.0 task ∙ sym (is_seated-push seats task), HaveOneEach-push seats seated.1)
