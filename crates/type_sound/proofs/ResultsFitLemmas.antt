-- The results of a statement fit, by its effect: its values fit, and its fault is not Mistyped.
--
--   `ResultsFit`           the results of a statement fit
--   `AtStatement`          what is known of a frame at a statement
--   `own_fit`              results fit, where no initial values follow and the values fit that have the types
--   `made_fit`             the results of a new object fit
use Rattle.std.proofs.Common.{◌≡◌, ◌≢◌, ℕ, List, [], ◌++◌, Option, Some, None, refl, sym, ◌∙◌, subst}
use Rattle.std.proofs.lemmas.Option.{same_Some}
use Rattle.abs_profile.specs.Accepted.{IsAcceptedProgram}
use Rattle.abs_profile.specs.Profile.{exprs_offences}
use Rattle.abs_program.specs.Bodies.{ClassEntryTree}
use Rattle.abs_program.specs.Instructions.{EffectTree, Makes}
use Rattle.abs_tree.specs.Limits.{level_limit}
use Rattle.abs_tree.specs.Syntax.{Name, VariableTree, ExprTrees, NoExpr, ProgramTree}
use Rattle.abs_tree.specs.declared.syntax.statement.Mode.{Mode}
use Rattle.abs_types.specs.Applications.{AllFit}
use Rattle.abs_types.specs.HasType.{HaveTypes}
use Rattle.abs_types.specs.PlainTypes.{PlainType, PlainClass}
use Rattle.abs_types.specs.SideTypes.{class_takes}
use Rattle.abs_types.specs.Typing.{Frame, known_at}
use Rattle.abs_values.specs.Evaluation.{all_end_with, all_outcomes, evaluate, initial_outcomes, outcomes_of, results_of}
use Rattle.abs_values.specs.Results.{Results, AllGive, OneFails}
use Rattle.abs_values.specs.Scopes.{library_of}
use Rattle.abs_values.specs.ValueTrees.{ValueTree}
use Rattle.abs_values.specs.declared.evaluated.Fault.{Fault}
use Rattle.abs_values.specs.declared.evaluated.Fault.TheVariants as fault
use Rattle.config_state.specs.Bodies.{class_taking}
use Rattle.config_state.specs.Configurations.{FrameState, Configuration}
use Rattle.step_rules.specs.Inputs.{scope_of, initials_of}
use Rattle.type_sound.proofs.ClassLemmas.{class_is_filled, class_is_there}
use Rattle.type_sound.proofs.DestinyLemmas.{all_without_destiny}
use Rattle.type_sound.proofs.EvaluationLemmas.{evaluations_have}
use Rattle.type_sound.proofs.InitialLemmas.{initials_have, all_replaced_by_none}
use Rattle.type_sound.proofs.ValueLemmas.{all_up}
use Rattle.type_sound.specs.Fitting.{TargetTakes, ValuesFit}
use Rattle.type_sound.specs.Routines.{Routine, fields_of_class}
use Rattle.type_sound.specs.Scopes.{ScopeHas}
use Rattle.type_sound.specs.Values.{World, AllHave, ResultsHave}
use Rattle.type_sound.specs.WellTyped.{world_of}

-- the values of a statement fit, or its fault is not Mistyped
abbrev pub ResultsFit : ProgramTree → World → Routine → FrameState → EffectTree → Results → Type 0
ResultsFit program world routine frame effect (AllGive values) = ValuesFit program world routine frame effect values
ResultsFit program world routine frame effect (OneFails cause) = cause ≢ fault.Mistyped

-- What is known at a statement of the frame in which it is typed: its slots have their declared types; it has the
-- fields, `this` and the result type of the routine; and what is visible there has its type.
pub record AtStatement (program : ProgramTree) (config : Configuration) (routine : Routine) (own : FrameState)
    (frame : Frame) : Type 0 where
  pub slots : (slot : ℕ) (type : PlainType) → known_at frame.slots slot ≡ Some type
      → known_at routine.slots slot ≡ Some type
  pub fields : frame.fields ≡ routine.start.fields
  pub this : frame.this ≡ routine.start.this
  pub task : frame.task ≡ Some routine.result
  pub scope_has : ScopeHas program (world_of program config) [] (record frame { task = None }) [] (scope_of config own)

module _ (program : ProgramTree) (config : Configuration) (accepted : IsAcceptedProgram program) (routine : Routine)
    (own : FrameState) (frame : Frame) (known : AtStatement program config routine own frame) where
  -- the results of expressions without `destiny` have their types
  pub expressions_have : (expr_trees : ExprTrees) (given : List PlainType) → exprs_offences expr_trees ≡ []
      → HaveTypes program.source.declarations frame [] expr_trees given
      → ResultsHave program (world_of program config)
      (outcomes_of (evaluate (library_of program) (scope_of config own) level_limit) expr_trees 0).results given
  expressions_have expr_trees given none have =
      let declarations = program.source.declarations in
      let world = world_of program config in
      let give = evaluate (library_of program) (scope_of config own) level_limit in
      let results = (outcomes_of give expr_trees 0).results in
      let without : Frame = record frame { task = None } in
      subst (λ (types : List PlainType). ResultsHave program world results types) (all_replaced_by_none given)
      (evaluations_have program world accepted [] without [] (scope_of config own) level_limit expr_trees 0 given refl
      known.scope_has (all_without_destiny declarations frame [] expr_trees given none have))

  -- what holds of the results of a statement whose expressions have types, if it holds of what follows values of these
  -- types, and of a fault that is not Mistyped
  results_by_types : (expr_trees initials : ExprTrees) (given : List PlainType) (Holds : Results → Type 0)
      → exprs_offences expr_trees ≡ [] → HaveTypes program.source.declarations frame [] expr_trees given
      → ((values : List ValueTree) (made : ℕ) → AllHave program (world_of program config) values given
      → Holds (initial_outcomes (library_of program) initials values made).results)
      → ((cause : Fault) → cause ≢ fault.Mistyped → Holds (OneFails cause))
      → Holds (results_of (library_of program) (scope_of config own) expr_trees initials)
  results_by_types expr_trees initials given Holds none have if_given if_failed =
      let found = outcomes_of (evaluate (library_of program) (scope_of config own) level_limit) expr_trees 0 in
      by_results found.results found.applications refl (expressions_have expr_trees given none have)
    where
      by_results : (results : Results) (made : ℕ)
          → outcomes_of (evaluate (library_of program) (scope_of config own) level_limit) expr_trees 0
          ≡ all_end_with results made
          → ResultsHave program (world_of program config) results given
          → Holds (results_of (library_of program) (scope_of config own) expr_trees initials)
      by_results (AllGive values) made is all_have = rw (results_of, all_outcomes, is) (if_given values made all_have)
      by_results (OneFails cause) made is apart = rw (results_of, all_outcomes, is) (if_failed cause apart)

  -- results fit, where no initial values follow and all values that have the types of the expressions fit
  pub own_fit : (effect : EffectTree) (expr_trees : ExprTrees) (given : List PlainType)
      → exprs_offences expr_trees ≡ [] → HaveTypes program.source.declarations frame [] expr_trees given
      → ((values : List ValueTree) → AllHave program (world_of program config) values given
      → ValuesFit program (world_of program config) routine own effect values)
      → ResultsFit program (world_of program config) routine own effect
      (results_of (library_of program) (scope_of config own) expr_trees NoExpr)
  unfolding initial_outcomes
  own_fit effect expr_trees given none have fit =
      results_by_types expr_trees NoExpr given (ResultsFit program (world_of program config) routine own effect) none
      have (λ values made all_have. fit values all_have) (λ cause apart. apart)

  -- the values of a new object fit: the arguments fit what the class takes, and the initial values follow
  pub made_fit : (mode : Mode) (class : Name) (target : Option VariableTree) (arguments : ExprTrees)
      (given takes : List PlainType) → exprs_offences arguments ≡ []
      → HaveTypes program.source.declarations frame [] arguments given
      → class_takes program.source.declarations class ≡ Some takes
      → AllFit program.source.declarations given takes
      → TargetTakes program routine target (PlainClass class)
      → ResultsFit program (world_of program config) routine own (Makes mode class target)
      (results_of (library_of program) (scope_of config own) arguments (initials_of (class_taking program class)))
  made_fit mode class target arguments given takes none have taken fit target_takes =
      let world = world_of program config in
      let found = class_is_there program class takes taken in
      let entry : ClassEntryTree = found.1 in
      let filled = class_is_filled program accepted class entry found.3 in
      let same : takes ≡ filled.0 = same_Some takes filled.0 (sym taken ∙ filled.2) in
      let Fit : Results → Type 0 = ResultsFit program world routine own (Makes mode class target) in
      subst (λ (one : Option ClassEntryTree). Fit (results_of (library_of program) (scope_of config own) arguments
      (initials_of one))) (sym found.3)
      (results_by_types arguments entry.initials given Fit none have
      (λ values made all_have.
      filled_fit filled.0 filled.1 filled.2 filled.3
      (initial_outcomes (library_of program) entry.initials values made).results
      (initials_have program world accepted filled.0 filled.1 entry.initials values made filled.5
      (subst (λ (types : List PlainType). AllHave program world values types) same
      (all_up program world values given takes fit all_have))))
      (λ cause apart. apart))
    where
      filled_fit : (ones others : List PlainType) → class_takes program.source.declarations class ≡ Some ones
          → fields_of_class program class ≡ ones ++ others → (results : Results)
          → ResultsHave program (world_of program config) results (ones ++ others)
          → ResultsFit program (world_of program config) routine own (Makes mode class target) results
      filled_fit ones others takes_is fields_are (AllGive values) all_have = record {
        taken = ones;
        others = others;
        class_takes_them = takes_is;
        fields_are = fields_are;
        have = all_have;
        takes = target_takes;
      }
      filled_fit ones others takes_is fields_are (OneFails cause) apart = apart
