-- Tasks of the code and those of the configuration.
--
--   `done_by`                  whether every task has a result, by a walk over the tasks of the code
use Rattle.std.proofs.Common.{◌≡◌, ℕ, zero, suc, Bool, true, false, ◌&&◌, MatchBool, List, [], ◌∷◌, map, slice_get, Option, Some, None, is_some, refl, sym, ap, ◌∙◌, subst}
use Rattle.std.proofs.lemmas.Option.{same_Some}
use Rattle.std.specs.List.{list_all}
use Rattle.std.specs.Option.{option_map}
use Rattle.abs_values.specs.Results.{result_tree}
use Rattle.abs_tree.specs.Syntax.{Name}
use Rattle.abs_values.specs.declared.evaluated.Evaluated.{Evaluated}
use Rattle.config_state.specs.ConfigViews.{configuration}
use Rattle.config_state.specs.Configurations.{TaskState}
use Rattle.config_state.specs.Views.{task_state}
use Rattle.config_state.specs.declared.config.Config.{Config}
use Rattle.config_state.specs.declared.task.TaskCell.{TaskCell}
use Rattle.step_rules.specs.Runs.{IsDone, IsOpen}
use Rattle.list_facts.proofs.OptionLemmas.{option_map-none}

-- a result that is there is there in the configuration too
there_kept : (outcome : Option Evaluated) → is_some outcome ≡ true → option_map result_tree outcome ≡ None → ⊥
there_kept None is none = absurd cc
there_kept (Some result) is none = absurd cc

-- some task of a list has no result
record HasOpen (tasks : List TaskState) : Type 0 where
  index : ℕ
  task : TaskState
  there : slice_get tasks index ≡ Some task
  open_still : task.outcome ≡ None

-- whether every task of a list has a result, by a walk over the tasks of the code
all_done : (names : List Name) (tasks : List TaskCell) → MatchBool (list_all (λ task. is_some task.outcome) tasks)
    (HasOpen (map (task_state names) tasks) → ⊥) (HasOpen (map (task_state names) tasks))
all_done names [] = λ one_open. let there = one_open.there in absurd cc
all_done names (task ∷ others) = by (is_some task.outcome) refl (list_all (λ one. is_some one.outcome) others)
    (all_done names others)
  where
    later : HasOpen (map (task_state names) others) → HasOpen (map (task_state names) (task ∷ others))
    later one_open = record {
      index = suc one_open.index;
      task = one_open.task;
      there = one_open.there;
      open_still = one_open.open_still;
    }

    none : is_some task.outcome ≡ true → (HasOpen (map (task_state names) others) → ⊥)
        → (index : ℕ) (one : TaskState) → slice_get (map (task_state names) (task ∷ others)) index ≡ Some one
        → one.outcome ≡ None → ⊥
    none is rest zero one there open_still =
        there_kept task.outcome is
        (ap (λ (own : TaskState). own.outcome) (same_Some _ _ there) ∙ open_still)
    none is rest (suc index) one there open_still =
        rest (record { index = index; task = one; there = there; open_still = open_still })

    by : (first : Bool) → is_some task.outcome ≡ first → (rest : Bool)
        → MatchBool rest (HasOpen (map (task_state names) others) → ⊥) (HasOpen (map (task_state names) others))
        → MatchBool (first && rest) (HasOpen (map (task_state names) (task ∷ others)) → ⊥)
        (HasOpen (map (task_state names) (task ∷ others)))
    by false is rest known = record {
      index = 0;
      task = task_state names task;
      there = refl;
      open_still = option_map-none result_tree task.outcome is;
    }
    by true is true known = λ one_open. none is known one_open.index one_open.task one_open.there one_open.open_still
    by true is false known = later known

-- whether every task of a configuration has a result, by a walk over the tasks of the code
pub done_by : (names : List Name) (config : Config) (answer : Bool)
    → answer ≡ list_all (λ task. is_some task.outcome) config.tasks
    → MatchBool answer (IsDone (configuration names config)) (IsOpen (configuration names config))
done_by names config answer is = by answer
    (subst (λ (one : Bool). MatchBool one (HasOpen (map (task_state names) config.tasks) → ⊥)
    (HasOpen (map (task_state names) config.tasks))) (sym is) (all_done names config.tasks))
  where
    by : (one : Bool) → MatchBool one (HasOpen (map (task_state names) config.tasks) → ⊥)
        (HasOpen (map (task_state names) config.tasks))
        → MatchBool one (IsDone (configuration names config)) (IsOpen (configuration names config))
    by true none = λ index one_open. none (record {
      index = index;
      task = one_open.task;
      there = one_open.there;
      open_still = one_open.open_still;
    })
    by false one_open = (
      one_open.index,
      record { task = one_open.task; there = one_open.there; open_still = one_open.open_still },
    )
