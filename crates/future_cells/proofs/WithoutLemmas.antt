-- Lists of tasks without one of them.
--
--   `without_task-below`, `without_task-above`         it is taken out of one part of a fork
--   `without_task-root`        it is the task of a fork
--   `without_task-drops`       what the list is then
use Rattle.std.proofs.Common.{◌≡◌, ℕ, ◌<◌, suc, Bool, true, false, not, ◌&&◌, ◌||◌, cond, eqb, List, [], ◌∷◌, ◌++◌, length, refl, sym, ap, ◌∙◌, subst, arith}
use Rattle.std.proofs.lemmas.Bool.{eq-eqb, eqb-true, ne_eqb, and_parts, or_parts, eqb-false, both_ways}
use Rattle.future_cells.specs.TaskSets.{has, Rises}
use Rattle.future_cells.specs.TaskLists.{Each, without_task}
use Rattle.future_cells.proofs.RisingLemmas.{Each-all, All-each, has-excluded, ForksInto, Rises-fork}

-- a task is taken out after those among which it is not
without_task-past : (task : ℕ) (tasks others : List ℕ) → has tasks task ≡ false
    → without_task task (tasks ++ others) ≡ tasks ++ without_task task others
without_task-past task [] others is_new = refl
without_task-past task (first ∷ tasks) others is_new =
    let parts = or_parts (eqb first task) (has tasks task) is_new in
    rw parts.0 (ap (λ rest. first ∷ rest) (without_task-past task tasks others parts.1))

-- a task is taken out of the first list that it is in
without_task-before : (task root : ℕ) (below above : List ℕ) → has below task ≡ true
    → without_task task below ++ root ∷ above ≡ without_task task (below ++ root ∷ above)
without_task-before task root [] above is_in = absurd (both_ways false refl is_in)
without_task-before task root (first ∷ below) above is_in =
    elim (eqb first task) as (λ test. (test || has below task) ≡ true
    → cond test below (first ∷ without_task task below) ++ root ∷ above
    ≡ cond test (below ++ root ∷ above) (first ∷ without_task task (below ++ root ∷ above))) [
      | true ↦ λ held. refl
      | false ↦ λ held. ap (λ rest. first ∷ rest) (without_task-before task root below above held)
    ] is_in

-- a task of the first part of a fork is taken out of that part
pub without_task-below : {tasks below : List ℕ} {root : ℕ} {above : List ℕ} → ForksInto tasks below root above
    → (task : ℕ) → has below task ≡ true → without_task task below ++ root ∷ above ≡ without_task task tasks
without_task-below {tasks} {below} {root} {above} forks task is_in =
    rw forks.is (without_task-before task root below above is_in)

-- a task above that of a fork is taken out of the last part
pub without_task-above : {tasks below : List ℕ} {root : ℕ} {above : List ℕ} → ForksInto tasks below root above → Rises tasks
    → (task : ℕ) → root < task → below ++ root ∷ without_task task above ≡ without_task task tasks
without_task-above {tasks} {below} {root} {above} forks rises task is_above =
    let fork = Rises-fork below root above (subst Rises forks.is rises) in
    let is_new = has-excluded _ below task fork.all_below (λ under. omega arith) in
    rw (forks.is, without_task-past task below (root ∷ above) is_new, ne_eqb root task (λ same. omega arith))

-- without the task of a fork the parts are left
pub without_task-root : {tasks below : List ℕ} {root : ℕ} {above : List ℕ} → ForksInto tasks below root above → Rises tasks
    → (task : ℕ) → task ≡ root → below ++ above ≡ without_task task tasks
without_task-root {tasks} {below} {root} {above} forks rises task same =
    let fork = Rises-fork below root above (subst Rises forks.is rises) in
    let is_new = has-excluded _ below task fork.all_below (λ under. omega arith) in
    rw (forks.is, without_task-past task below (root ∷ above) is_new, eq-eqb root task (sym same))

-- what is in a list that rises without its first task
has-without_first : (task first : ℕ) (others : List ℕ) (other : ℕ) → first ≡ task → Each (λ later. first < later) others
    → has others other ≡ (not (eqb task other) && (eqb first other || has others other))
has-without_first task first others other same later =
    elim (eqb task other) as (λ test. eqb task other ≡ test → has others other ≡ (not test && (eqb first other || has others other))) [
      | true ↦ λ is. let reached : task ≡ other = eqb-true task other is in has-excluded _ others other later (λ over. omega arith)
      | false ↦ λ is. let apart = eqb-false task other is in rw (ne_eqb first other (λ reached. apart (sym same ∙ reached)))
    ] refl

-- what is in a list that rises without a task that is not the first
has-without_later : (task first : ℕ) (held : Bool) (other : ℕ) → (first ≡ task → ⊥)
    → (eqb first other || (not (eqb task other) && held)) ≡ (not (eqb task other) && (eqb first other || held))
has-without_later task first held other apart =
    elim (eqb first other) as (λ test. eqb first other ≡ test → (test || (not (eqb task other) && held)) ≡ (not (eqb task other) && (test || held))) [
      | true ↦ λ is. let reached : first ≡ other = eqb-true first other is in rw (ne_eqb task other (λ same. apart (reached ∙ sym same)))
      | false ↦ λ is. refl
    ] refl

-- what is in a list that rises without a task
has-without_task : (task : ℕ) (tasks : List ℕ) → Rises tasks → (other : ℕ)
    → has (without_task task tasks) other ≡ (not (eqb task other) && has tasks other)
has-without_task task [] rises other = elim (eqb task other) as (λ test. false ≡ (not test && false)) [ true ↦ refl | false ↦ refl ]
has-without_task task (first ∷ others) rises other =
    let rest = has-without_task task others rises.1 other in
    elim (eqb first task) as (λ test. eqb first task ≡ test
    → has (cond test others (first ∷ without_task task others)) other ≡ (not (eqb task other) && (eqb first other || has others other))) [
      | true ↦ λ is. has-without_first task first others other (eqb-true first task is) (Each-all (λ later. first < later) others rises.0)
      | false ↦ λ is. rw rest (has-without_later task first (has others other) other (eqb-false first task is))
    ] refl

-- a list without a task that was in it is shorter by one
length-without_task : (task : ℕ) (tasks : List ℕ) → has tasks task ≡ true
    → length tasks ≡ suc (length (without_task task tasks))
length-without_task task [] is_in = absurd (both_ways false refl is_in)
length-without_task task (first ∷ others) is_in =
    elim (eqb first task) as (λ test. (test || has others task) ≡ true
    → suc (length others) ≡ suc (length (cond test others (first ∷ without_task task others)))) [
      | true ↦ λ held. refl
      | false ↦ λ held. ap suc (length-without_task task others held)
    ] is_in

-- a list that rises does so without a task
Rises-without_task : (task : ℕ) (tasks : List ℕ) → Rises tasks → Rises (without_task task tasks)
Rises-without_task task [] rises = tt
Rises-without_task task (first ∷ others) rises =
    let later = Each-all (λ other. first < other) others rises.0 in
    let rest = Rises-without_task task others rises.1 in
    let held = has-without_task task others rises.1 in
    elim (eqb first task) as (λ test. Rises (cond test others (first ∷ without_task task others))) [
      | true ↦ rises.1
      | false ↦ (All-each (λ other. first < other) (without_task task others) (λ other is_in. later other (and_parts _ _ (sym (held other) ∙ is_in)).1), rest)
    ]

-- A list of tasks is another without one of its tasks.
pub record Drops (task : ℕ) (old new : List ℕ) : Type 0 where
  pub rises : Rises new
  pub has : (other : ℕ) → has new other ≡ (not (eqb task other) && has old other)
  pub length : length old ≡ suc (length new)

-- a task is taken out of a list that rises
pub without_task-drops : {old new : List ℕ} (task : ℕ) → new ≡ without_task task old → Rises old → has old task ≡ true → Drops task old new
without_task-drops {old} {new} task same rises is_in = rw same (record {
  rises = Rises-without_task task old rises;
  has = has-without_task task old rises;
  length = length-without_task task old is_in;
})
