-- Lists of tasks with one more task.
--
--   `with_task-between`        it is put between those below and those above it
--   `with_task-below`, `with_task-above`       it is put into one part of a fork
--   `with_task-adds`           what the list is then
use Rattle.std.proofs.Common.{◌≡◌, ℕ, ◌<◌, ◌≤◌, suc, true, false, ◌||◌, cond, eqb, ltb, List, [], ◌∷◌, ◌++◌, length, refl, sym, ap, ◌∙◌, subst, inl, inr, arith}
use Rattle.std.proofs.lemmas.Bool.{lt-ltb, le-ltb, eq-eqb, eqb-true, or_cases, or_left, or_right, or_parts, both_ways, ltb-true, ltb-false, eqb-false}
use Rattle.future_cells.specs.TaskSets.{has, Rises}
use Rattle.future_cells.specs.TaskLists.{Each, with_task}
use Rattle.future_cells.proofs.SeatLemmas.{or-swap}
use Rattle.future_cells.proofs.RisingLemmas.{Each-all, All-each, ForksInto, Rises-fork}

-- a task is put after those that are below it
with_task-past : (task : ℕ) (tasks others : List ℕ) → Each (λ other. other < task) tasks
    → with_task task (tasks ++ others) ≡ tasks ++ with_task task others
with_task-past task [] others past = refl
with_task-past task (first ∷ tasks) others past =
    let under : first < task = past first (or_left _ _ (eq-eqb first first refl)) in
    rw (le-ltb task first (omega arith))
    (ap (λ rest. first ∷ rest) (with_task-past task tasks others (λ other is_in. past other (or_right _ _ is_in))))

-- a task is put before those that are above it
with_task-least : (task : ℕ) (tasks : List ℕ) → Each (λ other. task < other) tasks → with_task task tasks ≡ task ∷ tasks
with_task-least task [] over = refl
with_task-least task (first ∷ others) over = rw (lt-ltb task first (over first (or_left _ _ (eq-eqb first first refl))))

-- a task is put between those that are below it and those that are above it
pub with_task-between : {tasks : List ℕ} (task : ℕ) (below above : List ℕ) → tasks ≡ below ++ above
    → Each (λ other. other < task) below → Each (λ other. task < other) above → below ++ task ∷ above ≡ with_task task tasks
with_task-between {tasks} task below above same past over =
    rw (same, with_task-past task below above past, with_task-least task above over)

-- a task is put among those before one that is above it
with_task-before : (task root : ℕ) (below above : List ℕ) → task < root
    → with_task task below ++ root ∷ above ≡ with_task task (below ++ root ∷ above)
with_task-before task root [] above is_below = rw (lt-ltb task root is_below)
with_task-before task root (first ∷ below) above is_below =
    elim (ltb task first) as (λ test. cond test (task ∷ first ∷ below) (first ∷ with_task task below) ++ root ∷ above ≡ cond test (task ∷ first ∷ (below ++ root ∷ above)) (first ∷ with_task task (below ++ root ∷ above))) [
      | true ↦ refl
      | false ↦ ap (λ rest. first ∷ rest) (with_task-before task root below above is_below)
    ]

-- a task below that of a fork is put into the first part
pub with_task-below : {tasks below : List ℕ} {root : ℕ} {above : List ℕ} → ForksInto tasks below root above
    → (task : ℕ) → task < root → with_task task below ++ root ∷ above ≡ with_task task tasks
with_task-below {tasks} {below} {root} {above} forks task is_below = rw forks.is (with_task-before task root below above is_below)

-- a task above that of a fork is put into the last part
pub with_task-above : {tasks below : List ℕ} {root : ℕ} {above : List ℕ} → ForksInto tasks below root above → Rises tasks
    → (task : ℕ) → root < task → below ++ root ∷ with_task task above ≡ with_task task tasks
with_task-above {tasks} {below} {root} {above} forks rises task is_above =
    let fork = Rises-fork below root above (subst Rises forks.is rises) in
    let past = with_task-past task below (root ∷ above) (λ other is_in. let under : other < root = fork.all_below other is_in in omega arith) in
    rw (forks.is, past, le-ltb task root (omega arith))

-- what is in a list with one more task
has-with_task : (task : ℕ) (tasks : List ℕ) (other : ℕ) → has (with_task task tasks) other ≡ (eqb task other || has tasks other)
has-with_task task [] other = refl
has-with_task task (first ∷ others) other =
    elim (ltb task first) as (λ test. has (cond test (task ∷ first ∷ others) (first ∷ with_task task others)) other ≡ (eqb task other || (eqb first other || has others other))) [
      | true ↦ refl
      | false ↦ rw (has-with_task task others other) (or-swap (eqb first other) (eqb task other) (has others other))
    ]

-- a list with one more task is longer by one
length-with_task : (task : ℕ) (tasks : List ℕ) → length (with_task task tasks) ≡ suc (length tasks)
length-with_task task [] = refl
length-with_task task (first ∷ others) =
    elim (ltb task first) as (λ test. length (cond test (task ∷ first ∷ others) (first ∷ with_task task others)) ≡ suc (suc (length others))) [
      | true ↦ refl
      | false ↦ ap suc (length-with_task task others)
    ]

-- a task is below all of a list that rises, if it is below the first of it
over_all : (task first : ℕ) (others : List ℕ) → task < first → Each (λ other. first < other) others
    → Each (λ other. task < other) (first ∷ others)
over_all task first others is_below later other is_in =
    elim (or_cases _ _ is_in) [
      | inl same ↦ subst (λ one. task < one) (eqb-true first other same) is_below
      | inr is_later ↦ let over : first < other = later other is_later in omega arith
    ]

-- the first task of a list that rises is below all later ones, with one more
under_all : (task first : ℕ) (others : List ℕ) → first ≤ task → (first ≡ task → ⊥) → Each (λ other. first < other) others
    → Each (λ other. first < other) (with_task task others)
under_all task first others no_less not_same later other is_in =
    elim (or_cases _ _ (sym (has-with_task task others other) ∙ is_in)) [
      | inl same ↦ let is : task ≡ other = eqb-true task other same in omega arith
      | inr is_later ↦ later other is_later
    ]

-- a list that rises does so with a task that was not in it
Rises-with_task : (task : ℕ) (tasks : List ℕ) → Rises tasks → has tasks task ≡ false → Rises (with_task task tasks)
Rises-with_task task [] rises is_new = (All-each _ [] (λ other is_in. absurd (both_ways false refl is_in)), tt)
Rises-with_task task (first ∷ others) rises is_new =
    let later = Each-all (λ other. first < other) others rises.0 in
    let new = or_parts (eqb first task) (has others task) is_new in
    let rest = Rises-with_task task others rises.1 new.1 in
    elim (ltb task first) as (λ test. ltb task first ≡ test → Rises (cond test (task ∷ first ∷ others) (first ∷ with_task task others))) [
      | true ↦ λ is. (All-each (λ other. task < other) (first ∷ others) (over_all task first others (ltb-true task first is) later), rises)
      | false ↦ λ is. (All-each (λ other. first < other) (with_task task others) (under_all task first others (ltb-false task first is) (eqb-false first task new.0) later), rest)
    ] refl

-- A list of tasks is another with one more task.
pub record Adds (task : ℕ) (old new : List ℕ) : Type 0 where
  pub rises : Rises new
  pub has : (other : ℕ) → has new other ≡ (eqb task other || has old other)
  pub length : length new ≡ suc (length old)

-- a task is added to a list that rises
pub with_task-adds : {old new : List ℕ} (task : ℕ) → new ≡ with_task task old → Rises old → has old task ≡ false → Adds task old new
with_task-adds {old} {new} task same rises is_new = rw same (record {
  rises = Rises-with_task task old rises is_new;
  has = has-with_task task old;
  length = length-with_task task old;
})
