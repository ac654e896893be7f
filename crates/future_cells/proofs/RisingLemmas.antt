-- Lists of tasks that rise, and their parts around a task.
--
--   `Each-all`, `All-each`     what is so of all items is so of each task
--   `has-excluded`             a task that is not among those of which something is so
--   `Rises-fork`               a list that rises is forked at each of its tasks
--   `ForksInto`                a list is one list, a task and another list
--   `shorter`, `narrowed_below`, `narrowed_above`      its parts
--   `has-root`, `above-root`   its task, and one that is above that
--   `first_above-below`, `first_above-above`   the first task above a number, in one of its parts
--   `all_above-fork`, `all_below-fork`         a task that is below or above all of it
use Rattle.std.proofs.Common.{◌≡◌, ℕ, ◌<◌, ◌≤◌, suc, Bool, true, false, ◌||◌, cond, eqb, ltb, Option, Some, List, [], ◌∷◌, ◌++◌, length, refl, ◌∙◌, sym, ap, subst, inl, inr, arith, length-append}
use Rattle.std.specs.Prelude.{All}
use Rattle.std.proofs.lemmas.Bool.{lt-ltb, le-ltb, eq-eqb, eqb-true, ne_eqb, or_cases, or_left, or_right, both_ways, cases_order, false_from_ne_true}
use Rattle.std.proofs.lemmas.List.Elements.{All-nil, All-cons}
use Rattle.future_cells.specs.TaskSets.{has, Rises}
use Rattle.future_cells.specs.TaskLists.{Each, first_above}

-- what is so of all items is so of each task
pub Each-all : (Holds : ℕ → Type 0) (tasks : List ℕ) → All Holds tasks → Each Holds tasks
Each-all Holds [] all task is_in = absurd (both_ways false refl is_in)
Each-all Holds (first ∷ others) all task is_in =
    elim (or_cases _ _ is_in) [
      | inl same ↦ subst Holds (eqb-true first task same) (all 0 0 (omega arith))
      | inr later ↦ Each-all Holds others (λ index none within. all (suc index) none (omega arith)) task later
    ]

-- what is so of each task is so of all items
pub All-each : (Holds : ℕ → Type 0) (tasks : List ℕ) → Each Holds tasks → All Holds tasks
All-each Holds [] each = All-nil Holds
All-each Holds (first ∷ others) each =
    All-cons Holds first others (each first (or_left _ _ (eq-eqb first first refl)))
    (All-each Holds others (λ task is_in. each task (or_right _ _ is_in)))

-- a task is in two lists, one after the other, if it is in one of them
has-append : (tasks others : List ℕ) (task : ℕ) → has (tasks ++ others) task ≡ (has tasks task || has others task)
has-append [] others task = refl
has-append (first ∷ tasks) others task = elim (eqb first task) as (λ same. (same || has (tasks ++ others) task) ≡ ((same || has tasks task) || has others task)) [
  | true ↦ refl
  | false ↦ has-append tasks others task
]

-- a task that is not among those of which something is so is not in the list
pub has-excluded : (Holds : ℕ → Type 0) (tasks : List ℕ) (task : ℕ) → Each Holds tasks → (Holds task → ⊥) → has tasks task ≡ false
has-excluded Holds tasks task each not_so = false_from_ne_true _ (λ is_in. not_so (each task is_in))

-- the parts of a list that rises, around a task
pub record IsFork (below : List ℕ) (task : ℕ) (above : List ℕ) : Type 0 where
  pub below_rises : Rises below
  pub above_rises : Rises above
  pub all_below : Each (λ other. other < task) below
  pub all_above : Each (λ other. task < other) above

-- the task between two lists is in them
has-between : (below : List ℕ) (task : ℕ) (above : List ℕ) → has (below ++ task ∷ above) task ≡ true
has-between below task above = has-append below (task ∷ above) task ∙ or_right _ _ (or_left _ _ (eq-eqb task task refl))

-- a list that rises is forked at each of its tasks
pub Rises-fork : (below : List ℕ) (task : ℕ) (above : List ℕ) → Rises (below ++ task ∷ above) → IsFork below task above
Rises-fork [] task above rises = record {
  below_rises = tt;
  above_rises = rises.1;
  all_below = λ other is_in. absurd (both_ways false refl is_in);
  all_above = Each-all (λ other. task < other) above rises.0;
}
Rises-fork (first ∷ below) task above rises =
    let rest = Rises-fork below task above rises.1 in
    let later = Each-all (λ other. first < other) (below ++ task ∷ above) rises.0 in
    record {
      below_rises = (All-each (λ other. first < other) below (λ other is_in. later other (has-append below (task ∷ above) other ∙ or_left _ _ is_in)), rest.below_rises);
      above_rises = rest.above_rises;
      all_below = λ other is_in. elim (or_cases _ _ is_in) [
        | inl same ↦ subst (λ one. one < task) (eqb-true first other same) (later task (has-between below task above))
        | inr is_later ↦ rest.all_below other is_later
      ];
      all_above = rest.all_above;
    }

-- a test, or nothing
or_nothing : (test : Bool) → (test || false) ≡ test
or_nothing true = refl
or_nothing false = refl

-- a task below that of the fork is in the list if it is in the first part
has-fork_below : {below : List ℕ} {root : ℕ} {above : List ℕ} → IsFork below root above → (task : ℕ) → task < root
    → has (below ++ root ∷ above) task ≡ has below task
has-fork_below {below} {root} {above} fork task is_below =
    let not_root = ne_eqb root task (λ same. omega arith) in
    let not_above = has-excluded _ above task fork.all_above (λ held. omega arith) in
    has-append below (root ∷ above) task ∙ rw (not_root, not_above) (or_nothing (has below task))

-- a task above that of the fork is in the list if it is in the last part
has-fork_above : {below : List ℕ} {root : ℕ} {above : List ℕ} → IsFork below root above → (task : ℕ) → root < task
    → has (below ++ root ∷ above) task ≡ has above task
has-fork_above {below} {root} {above} fork task is_above =
    let not_root = ne_eqb root task (λ same. omega arith) in
    let not_below = has-excluded _ below task fork.all_below (λ held. omega arith) in
    has-append below (root ∷ above) task ∙ rw (not_root, not_below)

-- A list is one list, a task and another list.
pub record ForksInto (tasks below : List ℕ) (root : ℕ) (above : List ℕ) : Type 0 where
  pub is : tasks ≡ below ++ root ∷ above

-- the parts of a fork are shorter than it
pub shorter : {tasks below : List ℕ} {root : ℕ} {above : List ℕ} → ForksInto tasks below root above
    → (length below < length tasks) × (length above < length tasks)
shorter {tasks} {below} {root} {above} forks = rw forks.is (omega (arith, length-append below (root ∷ above)))

-- the first part of a list that rises, for a task below that of the fork
pub narrowed_below : {tasks below : List ℕ} {root : ℕ} {above : List ℕ} → ForksInto tasks below root above → Rises tasks
    → (task : ℕ) → task < root → Rises below × (has below task ≡ has tasks task)
narrowed_below {tasks} {below} {root} {above} forks rises task is_below =
    let fork = Rises-fork below root above (subst Rises forks.is rises) in
    (fork.below_rises, rw forks.is (sym (has-fork_below fork task is_below)))

-- the last part of a list that rises, for a task above that of the fork
pub narrowed_above : {tasks below : List ℕ} {root : ℕ} {above : List ℕ} → ForksInto tasks below root above → Rises tasks
    → (task : ℕ) → root < task → Rises above × (has above task ≡ has tasks task)
narrowed_above {tasks} {below} {root} {above} forks rises task is_above =
    let fork = Rises-fork below root above (subst Rises forks.is rises) in
    (fork.above_rises, rw forks.is (sym (has-fork_above fork task is_above)))

-- a list that is forked at a task has it
pub has-root : {tasks below : List ℕ} {root : ℕ} {above : List ℕ} → ForksInto tasks below root above → has tasks root ≡ true
has-root {tasks} {below} {root} {above} forks = rw forks.is (has-between below root above)

-- the first task above one that is below that of the fork
first_above-append : (from root : ℕ) (found : Option ℕ) (below above : List ℕ) → from < root
    → first_above from (Some root) below ≡ first_above from found (below ++ root ∷ above)
first_above-append from root found [] above is_below = rw (lt-ltb from root is_below)
first_above-append from root found (first ∷ below) above is_below = ap (λ rest. cond (ltb from first) (Some first) rest) (first_above-append from root found below above is_below)

-- none of the tasks of a list is above a number, so the first that is comes after them
first_above-past : (from : ℕ) (found : Option ℕ) (below above : List ℕ) → Each (λ other. other ≤ from) below
    → first_above from found above ≡ first_above from found (below ++ above)
first_above-past from found [] above past = refl
first_above-past from found (first ∷ below) above past =
    rw (le-ltb from first (past first (or_left _ _ (eq-eqb first first refl))))
    (first_above-past from found below above (λ other is_in. past other (or_right _ _ is_in)))

-- the first part of a list that rises, for the first task above one below that of the fork
pub first_above-below : {tasks below : List ℕ} {root : ℕ} {above : List ℕ} → ForksInto tasks below root above → Rises tasks
    → (from : ℕ) (found : Option ℕ) → from < root
    → Rises below × (first_above from (Some root) below ≡ first_above from found tasks)
first_above-below {tasks} {below} {root} {above} forks rises from found is_below =
    let fork = Rises-fork below root above (subst Rises forks.is rises) in
    (fork.below_rises, rw forks.is (first_above-append from root found below above is_below))

-- the last part of a list that rises, for the first task above one that is not below that of the fork
pub first_above-above : {tasks below : List ℕ} {root : ℕ} {above : List ℕ} → ForksInto tasks below root above → Rises tasks
    → (from : ℕ) (found : Option ℕ) → root ≤ from
    → Rises above × (first_above from found above ≡ first_above from found tasks)
first_above-above {tasks} {below} {root} {above} forks rises from found is_past =
    let fork = Rises-fork below root above (subst Rises forks.is rises) in
    let past = first_above-past from found below (root ∷ above) (λ other is_in. let under : other < root = fork.all_below other is_in in omega arith) in
    (fork.above_rises, rw forks.is (rw (le-ltb from root is_past) at past))

-- a task that is not below that of the fork, and is not in the list, is above it
pub above-root : {tasks below : List ℕ} {root : ℕ} {above : List ℕ} → ForksInto tasks below root above
    → (task : ℕ) → has tasks task ≡ false → root ≤ task → root < task
above-root {tasks} {below} {root} {above} forks task is_new is_past =
    elim (cases_order root task) [
      | inl same ↦ absurd (both_ways false refl (sym is_new ∙ ap (has tasks) (sym same) ∙ has-root forks))
      | inr (inl is_above) ↦ is_above
      | inr (inr is_below) ↦ omega arith
    ]

-- what is so of a task and of those of two lists is so of all of them
Each-fork : (Holds : ℕ → Type 0) (below : List ℕ) (root : ℕ) (above : List ℕ) → Each Holds below → Holds root
    → Each Holds above → Each Holds (below ++ root ∷ above)
Each-fork Holds below root above all_below holds all_above task is_in =
    elim (or_cases _ _ (sym (has-append below (root ∷ above) task) ∙ is_in)) [
      | inl is_below ↦ all_below task is_below
      | inr later ↦ elim (or_cases _ _ later) [
        | inl same ↦ subst Holds (eqb-true root task same) holds
        | inr is_above ↦ all_above task is_above
      ]
    ]

-- the tasks of the fork and of its last part are above a task below that of the fork
pub all_above-fork : {tasks below : List ℕ} {root : ℕ} {above : List ℕ} → ForksInto tasks below root above → Rises tasks
    → (task : ℕ) (between : List ℕ) → task < root → Each (λ other. task < other) between
    → Each (λ other. task < other) (between ++ root ∷ above)
all_above-fork {tasks} {below} {root} {above} forks rises task between is_below all =
    let fork = Rises-fork below root above (subst Rises forks.is rises) in
    Each-fork (λ other. task < other) between root above all is_below
    (λ other is_in. let over : root < other = fork.all_above other is_in in omega arith)

-- the tasks of the first part of the fork and of the fork are below a task above that of the fork
pub all_below-fork : {tasks below : List ℕ} {root : ℕ} {above : List ℕ} → ForksInto tasks below root above → Rises tasks
    → (task : ℕ) (between : List ℕ) → root < task → Each (λ other. other < task) between
    → Each (λ other. other < task) (below ++ root ∷ between)
all_below-fork {tasks} {below} {root} {above} forks rises task between is_above all =
    let fork = Rises-fork below root above (subst Rises forks.is rises) in
    Each-fork (λ other. other < task) below root between
    (λ other is_in. let under : other < root = fork.all_below other is_in in omega arith) is_above all
