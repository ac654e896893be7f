-- What the code plans for a statement is the change of its rule, whether or not the rule is local. A rule that needs
-- one value is Mistyped with none or with several.
--
--   `whole_is`, `whole_open`           the change of a statement, by what its instruction does
--   `suspended`                        the rule of `suspend`
--   `stored`, `chosen`, `printed`      the rules that need one value
--   `given`, `returned`                the end of a frame
use Rattle.std.proofs.Common.{◌≡◌, ℕ, Bool, true, false, List, [], ◌∷◌, Option, Some, None, if◌then◌else◌, refl, sym, ap, subst, ◌∙◌}
use Rattle.std.proofs.lemmas.Option.{same_Some}
use Rattle.abs_program.specs.Control.{Goes, Point}
use Rattle.abs_program.specs.InstructionViews.{effect_tree}
use Rattle.abs_program.specs.Instructions.{effect_of}
use Rattle.abs_tree.specs.Syntax.{Name, VariableTree}
use Rattle.abs_values.specs.ValueTrees.{ValueTree, IntValue, StringValue, BuiltValue, ObjectValue, FutureValue, NullValue}
use Rattle.abs_program.specs.declared.tables.control.Effect.{Effect}
use Rattle.config_state.specs.Configurations.{FrameState, Configuration, object_at, fields_of}
use Rattle.step_rules.proofs.LocalRuleLemmas.{same_object_is, print_rule_several}
use Rattle.step_rules.proofs.MoverLemmas.{does}
use Rattle.step_rules.specs.Changes.{Change, kept_change}
use Rattle.step_rules.specs.Events.{local_change}
use Rattle.step_rules.specs.LocalRules.{Leaves, store_rule, choose_rule, print_rule, pop_rule, return_rule}
use Rattle.step_rules.specs.Lookups.{Runner, successor, same_object}
use Rattle.step_rules.specs.Moves.{Moves, config_of, names_of, program_of}
use Rattle.step_rules.specs.ObjectRules.{give_rule, return_change}
use Rattle.step_rules.specs.Plans.{IsNoFault, only, store_change, choose_change, print_change, give_change, rule_or, whole_change, plan_of_task, planned}
use Rattle.step_rules.specs.Targets.{put, target_of}
use Rattle.step_rules.specs.WaitRules.{suspend_rule}
use Rattle.step_rules.specs.declared.kind.Did.TheVariants as did
use Rattle.step_rules.specs.declared.mover.Mover.{Mover}
use Rattle.step_rules.specs.declared.plan.Turn.TheVariants as turn

module _ (mover : Mover) (at : Runner) (point : Point) (values : List ValueTree) where
  -- The change of the next statement of the task that moves, by what the instruction does.
  pub whole_is : (effect : Effect) (found : Option Change) → Moves mover at point
      → mover.instruction.now.effect ≡ effect
      → found ≡ whole_change (program_of mover) (config_of mover) at point values (effect_tree (names_of mover) effect)
      → found ≡ whole_change (program_of mover) (config_of mover) at point values (effect_of point.statement)
  whole_is effect found moves is same = same
      ∙ ap (whole_change (program_of mover) (config_of mover) at point values) (does mover at point effect moves is)

  -- It is no fault where that of the rule is none.
  pub whole_open : (effect : Effect) (rule change : Change) → Moves mover at point
      → mover.instruction.now.effect ≡ effect
      → whole_change (program_of mover) (config_of mover) at point values (effect_tree (names_of mover) effect)
      ≡ Some rule → IsNoFault rule
      → whole_change (program_of mover) (config_of mover) at point values (effect_of point.statement) ≡ Some change
      → IsNoFault change
  whole_open effect rule change moves is same open_still found =
      subst IsNoFault (same_Some _ _ (whole_is effect (Some rule) moves is (sym same) ∙ found)) open_still

module _ (config : Configuration) (at : Runner) where
  -- A task that releases its cog goes on later.
  pub suspended : (names : List Name) (next : Option ℕ) → planned names config at (record {
    turn = turn.Yields next;
    cog = None;
    object = None;
    task = None;
    line = None;
    did = did.Released;
  }) ≡ Some (suspend_rule at next)
  unfolding plan_of_task
  suspended names next = refl

  -- A value is stored where there is just one.
  pub stored : (target : Option VariableTree) (next : Option ℕ) (values : List ValueTree)
      → store_change config at (target_of target) next (only values) ≡ local_change at
      (store_rule target next at.frame at.others (fields_of (object_at config at.frame.object)) values)
  stored target next [] = refl
  stored target next (value ∷ []) = refl
  stored target next (value ∷ other ∷ others) = refl

  -- Control goes by the answer where there is just one value.
  pub chosen : (names : List Name) (goes : Goes) (values : List ValueTree)
      → choose_change names config at goes (only values) ≡ local_change at
      (choose_rule names (successor goes) at.frame at.others (fields_of (object_at config at.frame.object)) values)
  chosen names goes [] = refl
  chosen names goes (value ∷ []) = refl
  chosen names goes (value ∷ other ∷ others) = refl

  -- A string is printed where there is just one value.
  pub printed : (next : Option ℕ) (values : List ValueTree) → print_change config at next (only values)
      ≡ local_change at (print_rule next at.frame at.others (fields_of (object_at config at.frame.object)) values)
  printed next [] = refl
  printed next (StringValue string ∷ []) = refl
  printed next (IntValue number ∷ []) = refl
  printed next (BuiltValue constructor parts ∷ []) = refl
  printed next (ObjectValue object ∷ []) = refl
  printed next (FutureValue task ∷ []) = refl
  printed next (NullValue ∷ []) = refl
  printed next (value ∷ other ∷ others) = ap (local_change at) (sym (print_rule_several next at.frame at.others
      (fields_of (object_at config at.frame.object)) value other others))

  -- A frame that ends gives its value to the frame below, whether or not that has the same object.
  pub given : (value : ValueTree) → rule_or at
      (pop_rule at.frame at.others (fields_of (object_at config at.frame.object)) value)
      (Some (give_rule config at.index at.task at.frame at.others value))
      ≡ Some (give_rule config at.index at.task at.frame at.others value)
  given value = to at.others
    where
      by : (below : FrameState) (others : List FrameState) (same : Bool)
          → same_object below.object at.frame.object ≡ same → rule_or at (if same
          then Some (Leaves
          (put at.frame.target value below.next below others (fields_of (object_at config at.frame.object))) []
          did.Went) else None) (Some (give_rule config at.index at.task at.frame (below ∷ others) value))
          ≡ Some (give_rule config at.index at.task at.frame (below ∷ others) value)
      by below others false same = refl
      by below others true same = ap (λ (object : Option ℕ). Some (kept_change at.index at.task object
          (put at.frame.target value below.next below others (fields_of (object_at config object))) [] did.Went))
          (sym (same_object_is below.object at.frame.object same))

      to : (others : List FrameState) → rule_or at
          (pop_rule at.frame others (fields_of (object_at config at.frame.object)) value)
          (Some (give_rule config at.index at.task at.frame others value))
          ≡ Some (give_rule config at.index at.task at.frame others value)
      to [] = refl
      to (below ∷ others) = by below others (same_object below.object at.frame.object) refl

  -- So does a `return` of just one value.
  pub returned : (values : List ValueTree) → Some (give_change config at (only values)) ≡ rule_or at
      (return_rule at.frame at.others (fields_of (object_at config at.frame.object)) values)
      (Some (return_change config at values))
  returned [] = refl
  returned (value ∷ []) = sym (given value)
  returned (value ∷ other ∷ others) = refl
