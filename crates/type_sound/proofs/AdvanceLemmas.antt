-- A task that goes on after a statement stays well typed, if what goes to the target of the statement has a type that
-- the target takes.
--
--   `up_after`, `all_after`        values after an event have the types that their types fit, and those that they had
--   `plain_types`                  an event that writes and makes nothing
--   `takes_after`                  a target takes a value that has a type which it takes
--   `sees_next`, `ends_next`       what is visible at the statement after, and that the result type is `Unit` at the end
--   `task_goes`                    the task that goes on is well typed
--   `goes_types`                   the rules in which nothing else is made
use Rattle.std.proofs.Common.{◌≡◌, ◌≢◌, ◌⊎◌, inl, inr, ⊎_elim, ℕ, Bool, true, List, [], ◌∷◌, Option, Some, None, sym, ap, ◌∙◌}
use Rattle.std.proofs.lemmas.Option.{none-some}
use Rattle.abs_program.specs.Control.{Point}
use Rattle.abs_program.specs.Instructions.{EffectTree, Returns, effect_of}
use Rattle.abs_tree.specs.Syntax.{VariableTree, ProgramTree}
use Rattle.abs_types.specs.OperatorTypes.{unit_type}
use Rattle.abs_types.specs.PlainTypes.{PlainType}
use Rattle.abs_types.specs.Subtyping.{fits}
use Rattle.abs_values.specs.ValueTrees.{ValueTree}
use Rattle.config_state.specs.Configurations.{Configuration, object_at}
use Rattle.config_state.specs.declared.frame.Target.TheVariants.{Local}
use Rattle.step_rules.specs.Changes.{Change, configuration_after}
use Rattle.step_rules.specs.Lookups.{Runner, successor}
use Rattle.step_rules.specs.ObjectRules.{goes_on}
use Rattle.step_rules.specs.RuleParts.{IsRunningAt}
use Rattle.step_rules.specs.Targets.{slots_after, target_of}
use Rattle.step_rules.specs.declared.kind.Did.{Did}
use Rattle.type_sound.proofs.DeclaredTargetLemmas.{target_in_effect, declares_target}
use Rattle.type_sound.proofs.EndingLemmas.{ends_by_return}
use Rattle.type_sound.proofs.Events.{ValueIn, IsEvent}
use Rattle.type_sound.proofs.FaultLemmas.{event_innermost}
use Rattle.type_sound.proofs.GoingLemmas.{goes_on_typed, goes_on_written}
use Rattle.type_sound.proofs.GrowthLemmas.{value_stays}
use Rattle.type_sound.proofs.InnermostLemmas.{IsInnermost, IsNext, next_is}
use Rattle.type_sound.proofs.KeptLemmas.{Types}
use Rattle.type_sound.proofs.SightLemmas.{next_sees}
use Rattle.type_sound.proofs.ValueLemmas.{value_up}
use Rattle.type_sound.specs.Fitting.{TargetTakes}
use Rattle.type_sound.specs.Values.{AllHave}
use Rattle.type_sound.specs.Visible.{IsVisible}
use Rattle.type_sound.specs.WellTyped.{world_of, target_type_in, IsTaskTyped}

module _ (program : ProgramTree) (config : Configuration) (index : ℕ) (change : Change)
    (event : IsEvent program config index change) where
  -- the configuration after the event
  abbrev after : Configuration
  after = configuration_after config index change

  -- a value has after the event each type that one of its types fits
  pub up_after : (value : ValueTree) (one other : PlainType) → fits program.source.declarations one other ≡ true
      → ValueIn program after value one → ValueIn program after value other
  up_after value one other fit has = value_up program (world_of program after) value one other fit has

  -- values keep their types
  pub all_after : (values : List ValueTree) (types : List PlainType)
      → AllHave program (world_of program config) values types
      → AllHave program (world_of program after) values types
  all_after [] [] have = have
  all_after [] (type ∷ types) have = absurd have
  all_after (value ∷ values) [] have = absurd have
  all_after (value ∷ values) (type ∷ types) have =
      (value_stays program config index change event value type have.0, all_after values types have.1)

  -- a change that writes and makes nothing shows what a rule has to show, if the task is well typed
  pub plain_types : IsTaskTyped program after change.task → change.written ≡ None
      → change.object ≡ None → change.new ≡ None → Types program config index change
  plain_types typed unwritten no_object no_task = record {
    task = typed;
    written = λ written cell is. absurd (none-some written (sym unwritten ∙ is));
    object = λ object is. absurd (none-some object (sym no_object ∙ is));
    new = λ task is. absurd (none-some task (sym no_task ∙ is));
  }

  module _ (at : Runner) (same : at.index ≡ index) (point : Point) (values : List ValueTree)
      (running : IsRunningAt program config at point values) where
    -- what the innermost frame executes
    abbrev own : IsInnermost program config at
    own = event_innermost program config index change event at running.runner

    -- its next statement
    at_point : IsNext program at.frame own.routine point
    at_point = next_is program config at point own running.point_there

    -- a target takes a value that has a type which it takes
    pub takes_after : (target : Option VariableTree) (value : ValueTree) (type : PlainType)
        → TargetTakes program own.routine target type → ValueIn program after value type → (asked : PlainType)
        → target_type_in own.routine (target_of target) ≡ Some asked → ValueIn program after value asked
    takes_after target value type takes has asked is = up_after value type asked (takes asked is) has

    module _ (effect : EffectTree) (effect_is : effect_of point.statement ≡ effect) (answer : Bool) where
      -- a slot that is visible at the statement after was visible, or is the target
      pub sees_next : (one slot : ℕ) → successor point.goes answer ≡ Some one → IsVisible program one slot
          → ((before : ℕ) × (at.frame.next ≡ Some before) × IsVisible program before slot)
          ⊎ (target_in_effect effect ≡ Local slot)
      sees_next one slot goes seen =
          ⊎_elim (λ before. inl (at_point.statement, at_point.next, before))
          (λ declared. inr (sym (ap target_in_effect effect_is) ∙ declares_target point.statement slot declared))
          (next_sees program at_point.statement point answer one slot at_point.there goes seen)

      -- where no statement comes after, the result type is `Unit`
      pub ends_next : effect ≢ Returns → successor point.goes answer ≡ None → own.routine.result ≡ unit_type
      ends_next apart none =
          ends_by_return program event.accepted (object_at config at.frame.object) at.frame.method own.routine
          at_point.statement point answer own.there at_point.of_body at_point.there none
          (λ returns. apart (sym effect_is ∙ returns))

      module _ (apart : effect ≢ Returns) (value : ValueTree)
          (takes : (asked : PlainType) → target_type_in own.routine (target_in_effect effect) ≡ Some asked
          → ValueIn program after value asked) where
        -- the task that goes on is well typed
        pub task_goes : change.task.frames
            ≡ record at.frame {
              slots = slots_after (target_in_effect effect) value at.frame.slots;
              next = successor point.goes answer;
            } ∷ at.others
            → change.task.outcome ≡ None
            → IsTaskTyped program after change.task
        task_goes frames_are outcome_is =
            goes_on_typed program config index change event at same running.runner own.routine own.there
            (target_in_effect effect) value (successor point.goes answer) frames_are outcome_is takes sees_next
            (ends_next apart)

        -- so the rules in which nothing is made show what a rule has to show
        pub goes_types : (lines : List (List ℕ)) (kind : Did)
            → change ≡ goes_on config index at.task (target_in_effect effect) value (successor point.goes answer)
            at.frame at.others lines kind
            → Types program config index change
        goes_types lines kind is = record {
          task = task_goes (ap (λ (one : Change). one.task.frames) is)
              (ap (λ (one : Change). one.task.outcome) is ∙ running.runner.open_still);
          written = goes_on_written program config index change event at running.runner own.routine own.there
              (target_in_effect effect) value (successor point.goes answer) lines kind
              (ap (λ (one : Change). one.written) is) takes;
          object = λ object made. absurd (none-some object (sym (ap (λ (one : Change). one.object) is) ∙ made));
          new = λ task made. absurd (none-some task (sym (ap (λ (one : Change). one.new) is) ∙ made));
        }
