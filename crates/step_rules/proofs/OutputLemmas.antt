-- The objects and futures inside the values of a statement are there, if the configuration and the frame are
-- well-formed.
--
--   `IsScopeThere`             each value that a scope gives is there
--   `results-there`            the values of expressions in such a scope
--   `fields-there`             the fields of an object
--   `outputs-there`            the values of the expressions of a frame
use Rattle.std.proofs.Common.{◌≡◌, ◌<◌, ℕ, List, [], ◌∷◌, ◌++◌, length, slice_get, Option, Some, None, refl, sym, ap, subst}
use Rattle.std.proofs.lemmas.Option.{none-some, same_Some}
use Rattle.std.specs.Option.{option_map}
use Rattle.abs_values.proofs.ListOutcomeLemmas.{AreGiven, outcomes_of-each, results_of-gives}
use Rattle.abs_values.proofs.ReferenceLemmas.{AllComeFrom, own_slot, evaluate-reads}
use Rattle.abs_values.proofs.ResultLemmas.{IfGives, IfAllGive, IfGives-at, IfAllGive-at, IfGives-then, IfAllGive-then, outcomes_after-gives}
use Rattle.abs_values.specs.Evaluation.{Outcomes, evaluate, outcomes_of, initial_outcomes, results_of}
use Rattle.abs_tree.specs.Limits.{level_limit}
use Rattle.abs_values.specs.References.{IsIn}
use Rattle.abs_values.specs.Results.{AllGive}
use Rattle.abs_values.specs.Scopes.{Library, library_of, Scope, own_scope, Location, InSlot, InField, InBound, InThis, value_at}
use Rattle.abs_tree.specs.Syntax.{ExprTree, ExprTrees, NoExpr, NextExpr, ProgramTree}
use Rattle.abs_values.specs.ValueTrees.{ValueTree, ObjectValue}
use Rattle.config_state.proofs.EachLemmas.{Each-none, Each-one, Each-append}
use Rattle.config_state.specs.Configurations.{ObjectState, FrameState, Configuration, object_at, fields_of}
use Rattle.config_state.specs.WellFormed.{IsThere, ValueIsThere, AreThere, IsFrameFormed, IsWellFormed}
use Rattle.step_rules.specs.Inputs.{scope_of}

module _ (config : Configuration) where
  -- each value that the scope gives is there
  abbrev pub IsScopeThere : Scope → Type 0
  IsScopeThere scope =
      (location : Location) (value : ValueTree) → value_at scope location ≡ Some value → ValueIsThere config value

  -- what an expression gives is there
  evaluate-there : (library : Library) (scope : Scope) (expr_tree : ExprTree) (made : ℕ) → IsScopeThere scope
      → IfGives (evaluate library scope level_limit expr_tree made).result (ValueIsThere config)
  evaluate-there library scope expr_tree made there =
      IfGives-then (evaluate library scope level_limit expr_tree made).result (AllComeFrom scope expr_tree)
      (ValueIsThere config) (λ value comes reference inside. let from = comes reference inside in
      there from.location from.value from.there reference from.inside)
      (evaluate-reads library level_limit scope expr_tree made)

  -- what a list of expressions gives is there
  outcomes_of-there : (library : Library) (scope : Scope) (expr_trees : ExprTrees) (made : ℕ) → IsScopeThere scope
      → IfAllGive (outcomes_of (evaluate library scope level_limit) expr_trees made).results (AreThere config)
  outcomes_of-there library scope expr_trees made there =
      let give = evaluate library scope level_limit in
      IfAllGive-then (outcomes_of give expr_trees made).results (AreGiven give expr_trees) (AreThere config)
      (λ values given index value is. let at = given index value is in
      IfGives-at (give at.expr_tree at.applications).result (ValueIsThere config) value at.gives
      (evaluate-there library scope at.expr_tree at.applications there))
      (outcomes_of-each give expr_trees made)

  -- a scope of values that are there
  own_scope-there : (values : List ValueTree) → AreThere config values → IsScopeThere (own_scope values)
  own_scope-there values there location value is =
      let own = own_slot values location value is in there own.0 value own.2

  -- initial values after values that are there are there too
  initial_outcomes-there : (library : Library) (expr_trees : ExprTrees) (values : List ValueTree) (made : ℕ)
      → AreThere config values → IfAllGive (initial_outcomes library expr_trees values made).results (AreThere config)
  unfolding initial_outcomes
  initial_outcomes-there library NoExpr values made there = there
  initial_outcomes-there library (NextExpr first others) values made there =
      outcomes_after-gives (evaluate library (own_scope values) level_limit first made) _ (AreThere config)
      (λ given gives. let found = evaluate library (own_scope values) level_limit first made in
      initial_outcomes-there library others (values ++ given ∷ []) found.applications
      (Each-append (ValueIsThere config) values (given ∷ []) there
      (Each-one _ given (IfGives-at found.result (ValueIsThere config) given gives
      (evaluate-there library (own_scope values) first made (own_scope-there values there))))))

  -- the values of a statement are there, if each value that its scope gives is there
  pub results-there : (library : Library) (scope : Scope) (expr_trees initials : ExprTrees) (values : List ValueTree)
      → IsScopeThere scope → results_of library scope expr_trees initials ≡ AllGive values → AreThere config values
  results-there library scope expr_trees initials values there gives =
      let given = (results_of-gives library scope expr_trees initials values).0 gives in
      let found = outcomes_of (evaluate library scope level_limit) expr_trees 0 in
      IfAllGive-at (initial_outcomes library initials given.own given.made).results (AreThere config) values
      given.all_given
      (initial_outcomes-there library initials given.own given.made
      (IfAllGive-at found.results (AreThere config) given.own (ap (λ (all : Outcomes). all.results) given.own_given)
      (outcomes_of-there library scope expr_trees 0 there)))

  -- the fields of an object are there
  pub fields-there : IsWellFormed config → (object : Option ℕ) → AreThere config (fields_of (object_at config object))
  fields-there formed None = Each-none _
  fields-there formed (Some object) = by_entry (slice_get config.objects object) refl
    where
      by_entry : (found : Option ObjectState) → slice_get config.objects object ≡ found
          → AreThere config (fields_of found)
      by_entry None is = Each-none _
      by_entry (Some entry) is = (formed.objects_formed object entry is).fields_there

  -- the value of an object that is there
  pub object_value-there : (object : ℕ) → object < length config.objects → ValueIsThere config (ObjectValue object)
  unfolding IsIn
  object_value-there object within reference inside = subst (IsThere config) (sym inside) within

  -- the value of `this` is there
  this_value-there : (object : Option ℕ) → ((index : ℕ) → object ≡ Some index → index < length config.objects)
      → (value : ValueTree) → option_map ObjectValue object ≡ Some value → ValueIsThere config value
  this_value-there None there value is = absurd (none-some value is)
  this_value-there (Some object) there value is =
      subst (ValueIsThere config) (same_Some (ObjectValue object) value is)
      (object_value-there object (there object refl))

  -- each value that the scope of a frame gives is there
  pub scope-there : IsWellFormed config → (frame : FrameState) → IsFrameFormed config frame
      → IsScopeThere (scope_of config frame)
  scope-there formed frame frame_formed (InSlot slot) value is = frame_formed.slots_there slot value is
  scope-there formed frame frame_formed (InField field) value is = fields-there formed frame.object field value is
  scope-there formed frame frame_formed (InBound depth) value is = absurd (none-some value is)
  scope-there formed frame frame_formed InThis value is =
      this_value-there frame.object frame_formed.object_there value is

  -- the values of the expressions of a frame are there
  pub outputs-there : IsWellFormed config → (program : ProgramTree) (frame : FrameState) (expr_trees initials : ExprTrees)
      (values : List ValueTree) → IsFrameFormed config frame
      → results_of (library_of program) (scope_of config frame) expr_trees initials ≡ AllGive values
      → AreThere config values
  outputs-there formed program frame expr_trees initials values frame_formed gives =
      results-there (library_of program) (scope_of config frame) expr_trees initials values
      (scope-there formed frame frame_formed) gives
