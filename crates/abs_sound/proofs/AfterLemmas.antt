-- The order after an event, by what the event makes.
--
--   `before_transitive`        what comes before something comes before what that comes before
--   `plain_order`              an event without a new task
--   `run_order`                one with a task that nobody called
--   `call_order`               a call
use Rattle.std.proofs.Common.{◌≡◌, ◌⊎◌, ℕ, ◌+◌, ⊎_elim, List, [], ◌∷◌, length, set, slice_get, Option, Some, None, sym, ap, ◌∙◌, subst, arith}
use Rattle.std.proofs.lemmas.List.{length-append, length-set}
use Rattle.std.proofs.lemmas.Option.{none-some, same_Some, slice_get_within}
use Rattle.abs_sound.proofs.OrderLemmas.{before_new, before_stays, new_before, new_is_free, once_after, put_last}
use Rattle.abs_sound.specs.Knowledge.{HasKnowledgeOrder, IsBefore, IsEachOnce, TaskKnows, order_after, order_by_call, put_after}
use Rattle.config_state.specs.Configurations.{TaskState, Configuration}
use Rattle.step_rules.proofs.AfterLemmas.{task-after}
use Rattle.step_rules.specs.Changes.{Change, added, configuration_after}
use Rattle.step_rules.specs.Stays.{TaskAfter, Moved, Old, New}

-- what comes before something comes before what that comes before
pub before_transitive : (order : List ℕ) (count one between other : ℕ) → IsEachOnce order count
    → IsBefore order one between → IsBefore order between other → IsBefore order one other
before_transitive order count one between other once lower upper =
    let same : lower.second ≡ upper.first = once.once lower.second upper.first between lower.other_there upper.one_there in
    record {
      first = lower.first;
      second = upper.second;
      smaller = omega (arith, same, lower.smaller, upper.smaller);
      one_there = lower.one_there;
      other_there = upper.other_there;
    }

-- the order after an event is the one that is named
abbrev pub OrderAfter : (config : Configuration) → HasKnowledgeOrder config → ℕ → Change → Type 0
OrderAfter config known index change = (next : HasKnowledgeOrder (configuration_after config index change))
    × (next.order ≡ order_after known.order index (length config.tasks) change.new)

module _ (config : Configuration) (index : ℕ) (change : Change) (known : HasKnowledgeOrder config)
    (moves : (task : TaskState) × (slice_get config.tasks index ≡ Some task)) where
  -- how many tasks there are
  abbrev count : ℕ
  count = length config.tasks

  -- The order is one of the tasks after the event, if what came before something still does, each task is in it once,
  -- and what the task that moves and the new one know comes after them.
  ordered : (after : List ℕ) → after ≡ order_after known.order index count change.new
      → ((one other : ℕ) → IsBefore known.order one other → IsBefore after one other)
      → IsEachOnce after (length (configuration_after config index change).tasks)
      → ((future : ℕ) → TaskKnows change.task future → IsBefore after index future)
      → ((task : TaskState) → change.new ≡ Some task → (future : ℕ) → TaskKnows task future → IsBefore after count future)
      → OrderAfter config known index change
  ordered after is stays once moved new = (
    record {
      order = after;
      once = once;
      later = λ other future knows.
          by_task other knows.task (task-after config index change other knows.task knows.there) future knows.knows;
    },
    is,
  )
    where
      by_task : (other : ℕ) (task : TaskState) → TaskAfter config index change other task → (future : ℕ)
          → TaskKnows task future → IsBefore after other future
      by_task other task (Moved at is) future knows =
          subst (λ (own : ℕ). IsBefore after own future) (sym at)
          (moved future (subst (λ (one : TaskState). TaskKnows one future) is knows))
      by_task other task (Old differs there) future knows =
          stays other future (known.later other future (record { task = task; there = there; knows = knows }))
      by_task other task (New last is) future knows =
          subst (λ (own : ℕ). IsBefore after own future) (sym last) (new task is future knows)

  -- as many tasks are there as before, or one more
  count_same : change.new ≡ None → length (configuration_after config index change).tasks ≡ count
  unfolding configuration_after
  count_same none =
      ap (λ (new : Option TaskState). length (added new (set config.tasks index change.task))) none
      ∙ length-set config.tasks index change.task

  count_more : (task : TaskState) → change.new ≡ Some task
      → length (configuration_after config index change).tasks ≡ count + 1
  unfolding configuration_after
  count_more task is =
      ap (λ (new : Option TaskState). length (added new (set config.tasks index change.task))) is
      ∙ (length-append (set config.tasks index change.task) (task ∷ [])
      ∙ ap (λ (n : ℕ). n + 1) (length-set config.tasks index change.task))

  -- an event without a new task, where the task that moves knows what it knew, or what comes after it
  pub plain_order : change.new ≡ None
      → ((future : ℕ) → TaskKnows change.task future → IsBefore known.order index future)
      → OrderAfter config known index change
  plain_order none moved = ordered known.order
      (ap (order_after known.order index count) (sym none))
      (λ one other is. is) (subst (IsEachOnce known.order) (sym (count_same none)) known.once) moved
      (λ task is. absurd (none-some task (sym none ∙ is)))

  -- an event with a task that nobody called, which knows nothing
  pub run_order : (task : TaskState) → change.new ≡ Some task → task.call ≡ None
      → ((future : ℕ) → TaskKnows task future → ⊥)
      → ((future : ℕ) → TaskKnows change.task future → IsBefore known.order index future)
      → OrderAfter config known index change
  run_order task is call nothing moved =
      ordered (put_after known.order count count)
      (put_last known.order count count (new_is_free known.order count known.once)
      ∙ (ap (order_by_call known.order index count) (sym call)
      ∙ ap (order_after known.order index count) (sym is)))
      (before_stays known.order count count)
      (subst (IsEachOnce (put_after known.order count count)) (sym (count_more task is))
      (once_after known.order count count known.once))
      (λ future knows. before_stays known.order count count index future (moved future knows))
      (λ new new_is future knows. absurd (nothing future
      (subst (λ (one : TaskState). TaskKnows one future) (same_Some new task (sym new_is ∙ is)) knows)))

  -- a call: what the new task knows comes after its caller, which besides that knows the new future
  pub call_order : (task : TaskState) (place : ℕ) → change.new ≡ Some task → task.call ≡ Some place
      → ((future : ℕ) → TaskKnows task future → IsBefore known.order index future)
      → ((future : ℕ) → TaskKnows change.task future → (future ≡ count) ⊎ IsBefore known.order index future)
      → OrderAfter config known index change
  call_order task place is call given moved =
      ordered (put_after known.order index count)
      (ap (order_by_call known.order index count) (sym call) ∙ ap (order_after known.order index count) (sym is))
      (before_stays known.order index count)
      (subst (IsEachOnce (put_after known.order index count)) (sym (count_more task is))
      (once_after known.order index count known.once))
      (λ future knows. ⊎_elim
      (λ new. subst (IsBefore (put_after known.order index count) index) (sym new)
      (before_new known.order index count
      (known.once.there index (slice_get_within config.tasks index moves.0 moves.1))))
      (λ old. before_stays known.order index count index future old) (moved future knows))
      (λ new new_is future knows. new_before known.order index count future (given future
      (subst (λ (one : TaskState). TaskKnows one future) (same_Some new task (sym new_is ∙ is)) knows)))
