-- Lists of sets of tasks: which task is in which set.
--
--   `has_at-there`, `has_at-past`      there is a set where a task is in it
--   `has_at-push`              with one more set, which is empty
--   `has_at-removed`           after a task was taken out of a set
--   `has_at-found`             what is in each set
use Rattle.std.proofs.Common.{◌≡◌, ℕ, zero, suc, ◌<◌, ◌≤◌, true, false, not, ◌&&◌, nat_eq, ⊎_elim, List, [], ◌∷◌, ◌++◌, length, set, slice_get, Option, Some, arith, refl, sym, ap, ◌∙◌}
use Rattle.std.proofs.lemmas.Bool.{cases_eq, eq-eqb, ne_eqb}
use Rattle.std.proofs.lemmas.Option.{slice_get_within}
use Rattle.future_cells.proofs.ItemLemmas.{passes-there, slice_get-set_other, slice_get-set_same}
use Rattle.future_cells.specs.SetLists.{has_by, has_at}
use Rattle.future_cells.specs.TaskSets.{has}

-- there is a set where a task is in it
pub has_at-there : (sets : List (List ℕ)) (index task : ℕ) → has_at sets index task ≡ true → index < length sets
has_at-there sets index task is =
    passes-there (λ (found : Option (List ℕ)). has_by found task) sets index refl is

-- past all sets no task is in one
pub has_at-past : (sets : List (List ℕ)) (index task : ℕ) → length sets ≤ index → has_at sets index task ≡ false
has_at-past [] index task past = refl
has_at-past (first ∷ sets) zero task past = absurd (omega (arith, past))
has_at-past (first ∷ sets) (suc index) task past = has_at-past sets index task (omega (arith, past))

-- an empty set after others has no task
pub has_at-push : (sets : List (List ℕ)) (index task : ℕ) → has_at (sets ++ [] ∷ []) index task ≡ has_at sets index task
has_at-push [] zero task = refl
has_at-push [] (suc index) task = refl
has_at-push (first ∷ sets) zero task = refl
has_at-push (first ∷ sets) (suc index) task = has_at-push sets index task

-- a task is in the other sets where it was, after it was taken out of one
pub has_at-removed : (sets : List (List ℕ)) (index task : ℕ) (before now : List ℕ) → slice_get sets index ≡ Some before
    → ((other : ℕ) → has now other ≡ (not (nat_eq task other) && has before other))
    → (at other : ℕ) → has_at (set sets index now) at other
    ≡ (not (nat_eq index at && nat_eq task other) && has_at sets at other)
has_at-removed sets index task before now is removed at other =
    ⊎_elim
    (λ same.
    let here = eq-eqb index at (sym same) in
    let old = ap (λ (place : ℕ). has_at sets place other) same
    ∙ ap (λ (found : Option (List ℕ)). has_by found other) is in
    let new = ap (λ (place : ℕ). has_at (set sets index now) place other) same
    ∙ ap (λ (found : Option (List ℕ)). has_by found other)
    (slice_get-set_same sets index now (slice_get_within sets index before is)) in
    rw (new, here, old) (removed other))
    (λ differs.
    let elsewhere = ne_eqb index at (λ same. differs (sym same)) in
    let stays = ap (λ (found : Option (List ℕ)). has_by found other) (slice_get-set_other sets index at now differs) in
    rw (stays, elsewhere) refl)
    (cases_eq at index)

-- what is in each set by its index
pub has_at-found : (sets : List (List ℕ)) (index task : ℕ) (tasks : List ℕ) → slice_get sets index ≡ Some tasks
    → has tasks task ≡ has_at sets index task
has_at-found sets index task tasks is = ap (λ (found : Option (List ℕ)). has_by found task) (sym is)
