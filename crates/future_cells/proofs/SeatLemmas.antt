-- Seats: who has one, and that no task has two, before and after a seat is given to a task or freed.
--
--   `is_seated-at`, `is_seated-found`  a task has a seat where it has one at an index
--   `is_seated-no_other`       a task that has neither a seat nor another one has none
--   `or-swap`                  the two first of three tests change places
--   `is_seated-set`, `is_seated-without`, `is_seated-push`     after a seat was given, freed or added
--   `HaveOneEach-set`, `HaveOneEach-push`      no task has two then
use Rattle.std.proofs.Common.{◌≡◌, ◌≢◌, ℕ, zero, suc, ◌<◌, Bool, true, false, not, ◌&&◌, ◌||◌, List, [], ◌∷◌, ◌++◌, length, set, slice_get, Option, Some, None, arith, refl, sym, ap, ◌∙◌, ⊎_elim}
use Rattle.std.proofs.lemmas.Bool.{or_cases, or_left, or_right, eqb-true, eq-eqb, false_from_ne_true, true≢false, cases_eq}
use Rattle.std.proofs.lemmas.Option.{none-some, same_Some}
use Rattle.list_facts.proofs.EntryLemmas.{slice_get-push}
use Rattle.future_cells.proofs.ItemLemmas.{set-found, slice_get-set_other, slice_get-set_same}
use Rattle.future_cells.specs.Seats.{is_in_seat, is_seated, HaveOneEach}

-- a task has a seat if it has the one at an index
pub is_seated-at : (seats : List (Option ℕ)) (index task : ℕ) → slice_get seats index ≡ Some (Some task)
    → is_seated seats task ≡ true
is_seated-at [] index task is = absurd (none-some (Some task) is)
is_seated-at (seat ∷ seats) zero task is =
    or_left (is_in_seat task seat) (is_seated seats task)
    (ap (is_in_seat task) (same_Some seat (Some task) is) ∙ eq-eqb task task refl)
is_seated-at (seat ∷ seats) (suc index) task is =
    or_right (is_in_seat task seat) (is_seated seats task) (is_seated-at seats index task is)

-- a task that is in a seat is the one that has it
is_in_seat-found : (task : ℕ) (seat : Option ℕ) → is_in_seat task seat ≡ true → seat ≡ Some task
is_in_seat-found task None is = absurd (true≢false (sym is))
is_in_seat-found task (Some other) is = ap (λ (one : ℕ). Some one) (eqb-true other task is)

-- a task that has a seat has the one at some index
pub is_seated-found : (seats : List (Option ℕ)) (task : ℕ) → is_seated seats task ≡ true
    → (index : ℕ) × (slice_get seats index ≡ Some (Some task))
is_seated-found [] task is = absurd (true≢false (sym is))
is_seated-found (seat ∷ seats) task is =
    ⊎_elim
    (λ here. (0, ap (λ (one : Option ℕ). Some one) (is_in_seat-found task seat here)))
    (λ there. let found = is_seated-found seats task there in (suc found.0, found.1))
    (or_cases (is_in_seat task seat) (is_seated seats task) is)

-- a task that has no seat at any index has none
is_seated-none : (seats : List (Option ℕ)) (task : ℕ)
    → ((index : ℕ) → slice_get seats index ≢ Some (Some task)) → is_seated seats task ≡ false
is_seated-none seats task none =
    false_from_ne_true (is_seated seats task) (λ is. let found = is_seated-found seats task is in none found.0 found.1)

-- nor has one that has neither this seat nor any other
pub is_seated-no_other : (seats : List (Option ℕ)) (index task : ℕ) (seat : Option ℕ)
    → slice_get seats index ≡ Some seat → seat ≢ Some task
    → ((other : ℕ) → other ≢ index → slice_get seats other ≢ Some (Some task))
    → is_seated seats task ≡ false
is_seated-no_other seats index task seat there differs none =
    is_seated-none seats task
    (λ other is.
    ⊎_elim
    (λ same. differs (same_Some seat (Some task) (sym there ∙ (ap (slice_get seats) (sym same) ∙ is))))
    (λ distinct. none other distinct is)
    (cases_eq other index))

-- the two first of three tests that are joined may change places
pub or-swap : (one other third : Bool) → (one || (other || third)) ≡ (other || (one || third))
or-swap true true third = refl
or-swap true false third = refl
or-swap false true third = refl
or-swap false false third = refl

-- who has a seat after one was given
pub is_seated-set : (seats : List (Option ℕ)) (index : ℕ) (seat : Option ℕ) (task : ℕ) → index < length seats
    → is_seated (set seats index seat) task ≡ (is_in_seat task seat || is_seated (set seats index None) task)
is_seated-set [] index seat task there = absurd (omega (arith, there))
is_seated-set (first ∷ seats) zero seat task there = refl
is_seated-set (first ∷ seats) (suc index) seat task there =
    ap (λ (is : Bool). is_in_seat task first || is) (is_seated-set seats index seat task (omega (arith, there)))
    ∙ or-swap (is_in_seat task first) (is_in_seat task seat) (is_seated (set seats index None) task)

-- a test that is not so if another is: the other one takes nothing from it
and-apart : (one other : Bool) → (one ≡ true → other ≡ false) → (not one && (one || other)) ≡ other
and-apart true other apart = sym (apart refl)
and-apart false other apart = refl

-- no task has two seats after one was given to a task that has no other
pub HaveOneEach-set : (seats : List (Option ℕ)) (index : ℕ) (seat : Option ℕ) → HaveOneEach seats
    → index < length seats
    → ((other : ℕ) → other ≢ index → (given : ℕ) → seat ≡ Some given → slice_get seats other ≢ Some (Some given))
    → HaveOneEach (set seats index seat)
HaveOneEach-set seats index seat each there none one other task first second =
    ⊎_elim
    (λ one_same. ⊎_elim
    (λ other_same. one_same ∙ sym other_same)
    (λ other_differs. absurd
    (none other other_differs task (given one one_same first) (before other other_differs second)))
    (cases_eq other index))
    (λ one_differs. ⊎_elim
    (λ other_same. absurd (none one one_differs task (given other other_same second) (before one one_differs first)))
    (λ other_differs. each one other task (before one one_differs first) (before other other_differs second))
    (cases_eq other index))
    (cases_eq one index)
  where
    given : (at : ℕ) → at ≡ index → slice_get (set seats index seat) at ≡ Some (Some task) → seat ≡ Some task
    given at same is = same_Some seat (Some task)
        (sym (slice_get-set_same seats index seat there) ∙ (ap (slice_get (set seats index seat)) (sym same) ∙ is))

    before : (at : ℕ) → at ≢ index → slice_get (set seats index seat) at ≡ Some (Some task)
        → slice_get seats at ≡ Some (Some task)
    before at differs is = sym (slice_get-set_other seats index at seat differs) ∙ is

-- the task of a seat has none after that was freed
is_seated-freed : (seats : List (Option ℕ)) (index task : ℕ) → HaveOneEach seats → index < length seats
    → slice_get seats index ≡ Some (Some task) → is_seated (set seats index None) task ≡ false
is_seated-freed seats index task each there is =
    is_seated-no_other (set seats index None) index task None (slice_get-set_same seats index None there)
    (none-some task)
    (λ other differs found. differs
    (each other index task (sym (slice_get-set_other seats index other None differs) ∙ found) is))

-- who has a seat after one was freed
pub is_seated-without : (seats : List (Option ℕ)) (index : ℕ) (seat : Option ℕ) (task : ℕ) → HaveOneEach seats
    → index < length seats → slice_get seats index ≡ Some seat
    → (not (is_in_seat task seat) && is_seated seats task) ≡ is_seated (set seats index None) task
is_seated-without seats index seat task each there is =
    ap (λ (has : Bool). not (is_in_seat task seat) && has)
    (ap (λ (list : List (Option ℕ)). is_seated list task) (sym (set-found seats index seat is))
    ∙ is_seated-set seats index seat task there)
    ∙ and-apart (is_in_seat task seat) (is_seated (set seats index None) task)
    (λ has. is_seated-freed seats index task each there
    (is ∙ ap (λ (one : Option ℕ). Some one) (is_in_seat-found task seat has)))

-- who has a seat is the same with one more that is free
pub is_seated-push : (seats : List (Option ℕ)) (task : ℕ) → is_seated (seats ++ None ∷ []) task ≡ is_seated seats task
is_seated-push [] task = refl
is_seated-push (seat ∷ seats) task = ap (λ (is : Bool). is_in_seat task seat || is) (is_seated-push seats task)

-- no task has two seats with one more that is free
pub HaveOneEach-push : (seats : List (Option ℕ)) → HaveOneEach seats → HaveOneEach (seats ++ None ∷ [])
HaveOneEach-push seats each one other task first second =
    each one other task (before one first) (before other second)
  where
    before : (at : ℕ) → slice_get (seats ++ None ∷ []) at ≡ Some (Some task) → slice_get seats at ≡ Some (Some task)
    before at is =
        ⊎_elim (λ there. there) (λ last. absurd (none-some task last.1)) (slice_get-push seats None at (Some task) is)
