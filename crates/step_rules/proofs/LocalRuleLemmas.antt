-- Events whose rules are local, and the ends of frames, are rules of the table. The equation by which a change came is
-- taken apart case by case, until one rule is left.
use Rattle.std.proofs.Common.{◌≡◌, ℕ, Bool, true, false, ◌≢◌, List, [], ◌∷◌, length, Option, Some, None, option_and_then, if◌then◌else◌, refl, sym, ap, ◌∙◌}
use Rattle.std.proofs.lemmas.Bool.{eqb-true}
use Rattle.std.proofs.lemmas.Option.{same_Some}
use Rattle.abs_program.specs.Control.{Point}
use Rattle.abs_program.specs.Instructions.{EffectTree, Chooses, Returns, Prints, Stores, CallsOwn, effect_of}
use Rattle.abs_values.specs.Operations.{truth_of}
use Rattle.abs_values.specs.Results.{Fails, Results}
use Rattle.abs_tree.specs.Syntax.{Name, VariableTree, ProgramTree}
use Rattle.abs_values.specs.ValueTrees.{ValueTree, IntValue, StringValue, BuiltValue, ObjectValue, FutureValue, NullValue}
use Rattle.abs_values.specs.declared.evaluated.Fault.{Fault}
use Rattle.abs_values.specs.declared.evaluated.Fault.TheVariants as fault
use Rattle.abs_program.specs.ProgramBodies.{BodyAt}
use Rattle.config_state.specs.Configurations.{ObjectState, FrameState, Configuration, object_at, fields_of}
use Rattle.step_rules.specs.Changes.{Change, kept_change, ended_change}
use Rattle.step_rules.specs.Events.{local_change, with_output, local_or_other}
use Rattle.step_rules.specs.LocalRules.{Local, Leaves, Faults, used_of, store_rule, choose_by, choose_rule, print_rule, push_rule, call_own_rule, pop_rule, return_rule}
use Rattle.step_rules.specs.Lookups.{Runner, successor, callable, class_of, same_object}
use Rattle.step_rules.specs.ObjectRules.{mistyped, give_rule, return_change}
use Rattle.step_rules.specs.Plans.{rule_or}
use Rattle.step_rules.specs.Rules.{Rule, Faulted, Stored, Chosen, Printed, Pushed, Gave, Popped}
use Rattle.step_rules.specs.Targets.{put}
use Rattle.step_rules.specs.RuleParts.{IsRunner, IsRunningAt, IsValueOf, ByReturn}
use Rattle.step_rules.specs.FaultCauses.{WrongSort, IsNotOne, IsNoBool, IsNoString, HasNoOwnMethod, FaultOf, HasWrongSort}
use Rattle.step_rules.specs.declared.kind.Did.TheVariants as did

-- Frames that are found to have the same object name the same one, or none.
pub same_object_is : (one other : Option ℕ) → same_object one other ≡ true → one ≡ other
same_object_is None None h = refl
same_object_is (Some one) (Some other) h = ap Some (eqb-true one other h)
same_object_is None (Some other) h = absurd cc
same_object_is (Some one) None h = absurd cc

-- The change of a task that runs is found so.
pub rule_or_is : (program : ProgramTree) (config : Configuration) (at : Runner) (results : Results)
    (by_rule : Option Local) → local_or_other program config at results by_rule
    ≡ rule_or at by_rule (with_output program config at results)
rule_or_is program config at results None = refl
rule_or_is program config at results (Some local) = refl

-- Several values are not printed.
pub print_rule_several : (next : Option ℕ) (frame : FrameState) (below : List FrameState) (fields : List ValueTree)
    (value more : ValueTree) (others : List ValueTree)
    → print_rule next frame below fields (value ∷ more ∷ others) ≡ Faults fault.Mistyped
print_rule_several next frame below fields (IntValue number) more others = refl
print_rule_several next frame below fields (StringValue string) more others = refl
print_rule_several next frame below fields (BuiltValue constructor parts) more others = refl
print_rule_several next frame below fields (ObjectValue object) more others = refl
print_rule_several next frame below fields (FutureValue task) more others = refl
print_rule_several next frame below fields NullValue more others = refl

module _ (program : ProgramTree) (config : Configuration) (at : Runner) (change : Change)
    (runner : IsRunner config at) where
  -- The task ends with a fault that has a cause.
  pub faulted : (cause : Fault) → FaultOf program config at cause → ended_change at.task (Fails cause) ≡ change
      → Rule program config at.index change
  faulted cause why h = Faulted at cause refl runner why (sym h)

  -- It ends with the fault Mistyped where something is wrong with the values of its statement.
  pub missorted : (point : Point) (values : List ValueTree) (effect : EffectTree) → IsRunningAt program config at point values
      → effect_of point.statement ≡ effect → WrongSort program config at values effect
      → mistyped at.task ≡ change → Rule program config at.index change
  missorted point values effect is does wrong h =
      faulted fault.Mistyped (HasWrongSort point values effect is does wrong refl) h

  -- A frame that ends gives its value to the frame below, or the task ends with it.
  given : (value : ValueTree) → IsValueOf program config at value → (others : List FrameState) → at.others ≡ others
      → give_rule config at.index at.task at.frame others value ≡ change → Rule program config at.index change
  given value ends [] is h = Gave at value refl runner is ends (sym h)
  given value ends (below ∷ rest) is h = Popped at below rest value refl runner is ends (sym h)

  -- The frame below has the same object, and so its own fields are those of the frame that ends.
  popped : (value : ValueTree) → IsValueOf program config at value → (below : FrameState) (rest : List FrameState)
      → at.others ≡ below ∷ rest → below.object ≡ at.frame.object
      → kept_change at.index at.task at.frame.object
      (put at.frame.target value below.next below rest (fields_of (object_at config at.frame.object))) [] did.Went
      ≡ change → Rule program config at.index change
  popped value ends below rest is same h = Popped at below rest value refl runner is ends
      (sym h ∙ ap (λ (object : Option ℕ). kept_change at.index at.task object
      (put at.frame.target value below.next below rest (fields_of (object_at config object))) [] did.Went) (sym same))

  -- The end of an inner frame is local where the frame below has the same object.
  ended_above : (value : ValueTree) → IsValueOf program config at value → (below : FrameState) (rest : List FrameState)
      → at.others ≡ below ∷ rest → (same : Bool) → same_object below.object at.frame.object ≡ same
      → rule_or at (if same
      then Some (Leaves
      (put at.frame.target value below.next below rest (fields_of (object_at config at.frame.object))) [] did.Went)
      else None) (Some (give_rule config at.index at.task at.frame (below ∷ rest) value)) ≡ Some change
      → Rule program config at.index change
  ended_above value ends below rest is true same h =
      popped value ends below rest is (same_object_is below.object at.frame.object same) (same_Some _ _ h)
  ended_above value ends below rest is false same h = given value ends (below ∷ rest) is (same_Some _ _ h)

  -- A frame ends with a value, whether or not its rule is local.
  pub ended : (value : ValueTree) → IsValueOf program config at value → (others : List FrameState) → at.others ≡ others
      → rule_or at (pop_rule at.frame others (fields_of (object_at config at.frame.object)) value)
      (Some (give_rule config at.index at.task at.frame others value)) ≡ Some change → Rule program config at.index change
  ended value ends [] is h = given value ends [] is (same_Some _ _ h)
  ended value ends (below ∷ rest) is h =
      ended_above value ends below rest is (same_object below.object at.frame.object) refl h

  module _ (point : Point) where
    -- A statement whose value goes to a target stores it, or has the wrong sort.
    pub stored : (target : Option VariableTree) → effect_of point.statement ≡ Stores target → (values : List ValueTree)
        → IsRunningAt program config at point values
        → local_change at (store_rule target (successor point.goes true) at.frame at.others
        (fields_of (object_at config at.frame.object)) values) ≡ change → Rule program config at.index change
    stored target does (value ∷ []) is h = Stored at point target value refl is does (sym h)
    stored target does [] is h = missorted point [] (Stores target) is does (IsNotOne _ (λ value same. absurd cc)) h
    stored target does (value ∷ more ∷ others) is h = missorted point (value ∷ more ∷ others) (Stores target) is does
        (IsNotOne _ (λ value same. absurd cc)) h

    -- A condition with an answer chooses, and one without has the wrong sort.
    chosen_by : effect_of point.statement ≡ Chooses → (value : ValueTree) → IsRunningAt program config at point (value ∷ [])
        → (answer : Option Bool) → truth_of program.names value ≡ answer
        → local_change at (choose_by (successor point.goes) at.frame at.others
        (fields_of (object_at config at.frame.object)) answer) ≡ change → Rule program config at.index change
    chosen_by does value is None truth h =
        missorted point (value ∷ []) Chooses is does (IsNoBool value refl refl truth) h
    chosen_by does value is (Some answer) truth h = Chosen at point value answer refl is does truth (sym h)

    -- An `if` or a `while` chooses by its condition, or has the wrong sort.
    pub chosen : effect_of point.statement ≡ Chooses → (values : List ValueTree) → IsRunningAt program config at point values
        → local_change at (choose_rule program.names (successor point.goes) at.frame at.others
        (fields_of (object_at config at.frame.object)) values) ≡ change → Rule program config at.index change
    chosen does (value ∷ []) is h = chosen_by does value is (truth_of program.names value) refl h
    chosen does [] is h = missorted point [] Chooses is does (IsNotOne _ (λ value same. absurd cc)) h
    chosen does (value ∷ more ∷ others) is h =
        missorted point (value ∷ more ∷ others) Chooses is does (IsNotOne _ (λ value same. absurd cc)) h

    -- A value that is no string is not printed.
    unprinted : effect_of point.statement ≡ Prints → (value : ValueTree) → IsRunningAt program config at point (value ∷ [])
        → ((string : List ℕ) → value ≢ StringValue string) → mistyped at.task ≡ change
        → Rule program config at.index change
    unprinted does value is other h =
        missorted point (value ∷ []) Prints is does (IsNoString value refl refl other) h

    -- A `print` prints a string, or has the wrong sort.
    pub printed : effect_of point.statement ≡ Prints → (values : List ValueTree) → IsRunningAt program config at point values
        → local_change at (print_rule (successor point.goes true) at.frame at.others
        (fields_of (object_at config at.frame.object)) values) ≡ change → Rule program config at.index change
    printed does (StringValue string ∷ []) is h = Printed at point string refl is does (sym h)
    printed does [] is h = missorted point [] Prints is does (IsNotOne _ (λ value same. absurd cc)) h
    printed does (value ∷ more ∷ others) is h =
        missorted point (value ∷ more ∷ others) Prints is does (IsNotOne _ (λ value same. absurd cc))
        (ap (local_change at) (sym (print_rule_several (successor point.goes true) at.frame at.others
        (fields_of (object_at config at.frame.object)) value more others)) ∙ h)
    printed does (IntValue number ∷ []) is h = unprinted does (IntValue number) is (λ string same. absurd cc) h
    printed does (BuiltValue constructor parts ∷ []) is h =
        unprinted does (BuiltValue constructor parts) is (λ string same. absurd cc) h
    printed does (ObjectValue object ∷ []) is h = unprinted does (ObjectValue object) is (λ string same. absurd cc) h
    printed does (FutureValue task ∷ []) is h = unprinted does (FutureValue task) is (λ string same. absurd cc) h
    printed does (NullValue ∷ []) is h = unprinted does NullValue is (λ string same. absurd cc) h

    -- An own call pushes a frame where the class has the method, and otherwise has the wrong sort.
    pushed_by : (method : Name) (target : Option VariableTree) → effect_of point.statement ≡ CallsOwn method target
        → (values : List ValueTree) → IsRunningAt program config at point values → (cell : ObjectState)
        → object_at config at.frame.object ≡ Some cell → (body : Option BodyAt)
        → callable program cell.class method (length values) ≡ body
        → local_change at (push_rule method target (successor point.goes true) at.frame at.others
        (fields_of (object_at config at.frame.object)) values body) ≡ change → Rule program config at.index change
    pushed_by method target does values is cell there None found h =
        missorted point values (CallsOwn method target) is does (HasNoOwnMethod method target refl
        (ap (λ (cell : Option ObjectState). option_and_then (λ name. callable program name method (length values))
        (class_of cell)) there ∙ found)) h
    pushed_by method target does values is cell there (Some body) found h =
        Pushed at point cell values method target body refl is does there found (sym h)

    -- It has the wrong sort too where there is no object.
    pub pushed : (method : Name) (target : Option VariableTree) → effect_of point.statement ≡ CallsOwn method target
        → (values : List ValueTree) → IsRunningAt program config at point values → (cell : Option ObjectState)
        → object_at config at.frame.object ≡ cell
        → local_change at (call_own_rule (used_of program (class_of cell)) method target (successor point.goes true) at.frame
        at.others (fields_of (object_at config at.frame.object)) values) ≡ change → Rule program config at.index change
    pushed method target does values is None there h =
        missorted point values (CallsOwn method target) is does (HasNoOwnMethod method target refl
        (ap (λ (cell : Option ObjectState). option_and_then (λ name. callable program name method (length values))
        (class_of cell)) there)) h
    pushed method target does values is (Some cell) there h =
        pushed_by method target does values is cell there (callable program cell.class method (length values)) refl h

    -- A `return` ends its frame, or has the wrong sort.
    pub returned : effect_of point.statement ≡ Returns → (values : List ValueTree) → IsRunningAt program config at point values
        → rule_or at (return_rule at.frame at.others (fields_of (object_at config at.frame.object)) values)
        (Some (return_change config at values)) ≡ Some change → Rule program config at.index change
    returned does (value ∷ []) is h = ended value (ByReturn point is does) at.others refl h
    returned does [] is h =
        missorted point [] Returns is does (IsNotOne _ (λ value same. absurd cc)) (same_Some _ _ h)
    returned does (value ∷ more ∷ others) is h = missorted point (value ∷ more ∷ others) Returns is does
        (IsNotOne _ (λ value same. absurd cc)) (same_Some _ _ h)
