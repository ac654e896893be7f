-- What a task knows after its event.
--
--   `Knower`                   a task that runs, in an accepted program
--   `values_known`             what is inside a value of its next statement it knows
--   `put_known`                what it knows after a value went to a target, it knew, or it is inside the value
--   `start_known`              what a frame at the start of a body holds is inside an argument
use Rattle.std.proofs.Common.{◌≡◌, ◌⊎◌, ℕ, ◌-◌, zero, suc, inl, inr, ⊎_elim, List, ◌∷◌, slice_get, Option, Some, None, refl, sym, ap, ◌∙◌, subst}
use Rattle.std.proofs.lemmas.Option.{none-some, same_Some}
use Rattle.abs_profile.specs.Accepted.{IsAcceptedProgram}
use Rattle.abs_program.specs.Control.{Point}
use Rattle.abs_program.specs.Instructions.{EffectTree, effect_of, expr_trees_of}
use Rattle.abs_program.specs.declared.tables.control.BodyEntry.{BodyEntry}
use Rattle.abs_sound.specs.Knowledge.{TaskKnows, InSlot, InResult}
use Rattle.abs_tree.specs.Limits.{level_limit}
use Rattle.abs_tree.specs.Syntax.{Name, ExprTree, ExprTrees, NoExpr, ProgramTree}
use Rattle.abs_values.proofs.ListOutcomeLemmas.{AreGiven, outcomes_of-each, results_of-gives}
use Rattle.abs_values.proofs.ReferenceLemmas.{AllComeFrom, evaluate-reads}
use Rattle.abs_values.proofs.ResultLemmas.{IfAllGive-at, IfGives-at}
use Rattle.abs_values.specs.Evaluation.{Outcomes, evaluate, initial_outcomes, outcomes_of, results_of}
use Rattle.abs_values.specs.References.{ToFuture, IsIn}
use Rattle.abs_values.specs.Results.{Gives, AllGive}
use Rattle.abs_values.specs.Scopes.{Library, Scope, library_of, Location, InSlot as AtSlot, InField, InBound, InThis, value_at}
use Rattle.abs_values.specs.ValueTrees.{ValueTree, NullValue, ObjectValue}
use Rattle.config_state.specs.Configurations.{ObjectState, FrameState, TaskState, Configuration, object_at, fields_of}
use Rattle.config_state.specs.First.{frame_for}
use Rattle.config_state.specs.OfProgram.{IsConfigOf}
use Rattle.config_state.specs.declared.frame.Target.{Target}
use Rattle.step_rules.specs.Inputs.{initials_for, scope_of}
use Rattle.step_rules.specs.Lookups.{Runner}
use Rattle.step_rules.specs.RuleParts.{IsRunner, IsRunningAt}
use Rattle.step_rules.specs.Targets.{slots_after}
use Rattle.type_sound.proofs.LawLemmas.{field_has_no_future}
use Rattle.type_sound.proofs.PutLemmas.{entry_after}
use Rattle.type_sound.proofs.StartLemmas.{start_slot}
use Rattle.type_sound.specs.WellTyped.{IsWellTyped}

-- null has nothing inside, an object no future, and neither does `Unit`
pub nothing_in_null : (future : ℕ) → IsIn (ToFuture future) NullValue → ⊥
unfolding IsIn
nothing_in_null future inside = inside

pub no_future_in_object : (future object : ℕ) → IsIn (ToFuture future) (ObjectValue object) → ⊥
unfolding IsIn
no_future_in_object future object inside = absurd cc

-- what a frame at the start of a body holds is inside an argument
pub start_known : (body : BodyEntry) (method : Option Name) (object : Option ℕ) (arguments : List ValueTree)
    (target : Target) (slot : ℕ) (value : ValueTree) (future : ℕ)
    → slice_get (frame_for body method object arguments target).slots slot ≡ Some value
    → IsIn (ToFuture future) value → slice_get arguments slot ≡ Some value
start_known body method object arguments target slot value future there inside = ⊎_elim (λ own. own)
    (λ null. absurd (nothing_in_null future (subst (IsIn (ToFuture future)) null inside)))
    (start_slot arguments (body.slots - body.params) slot value there)

-- what a task knows after a value went to a target of a frame that is above these, it knew, or it is inside the value
pub put_known : (task after : TaskState) (frame : FrameState) (others : List FrameState) (depth : ℕ) (target : Target)
    (value : ValueTree) (next : Option ℕ) (future : ℕ) → slice_get task.frames depth ≡ Some frame
    → ((lower : ℕ) (below : FrameState) → slice_get others lower ≡ Some below
    → (at : ℕ) × (slice_get task.frames at ≡ Some below))
    → after.frames ≡ record frame { slots = slots_after target value frame.slots; next = next } ∷ others
    → after.outcome ≡ None → TaskKnows after future → IsIn (ToFuture future) value ⊎ TaskKnows task future
put_known task after frame others depth target value next future there lower frames none (InResult result is inside) =
    absurd (none-some (Gives result) (sym none ∙ is))
put_known task after frame others depth target value next future there lower frames none
    (InSlot at slot found entry is slot_is inside) =
    by_depth at (ap (λ (all : List FrameState). slice_get all at) (sym frames) ∙ is)
  where
    by_depth : (at : ℕ)
        → slice_get (record frame { slots = slots_after target value frame.slots; next = next } ∷ others) at ≡ Some found
        → IsIn (ToFuture future) value ⊎ TaskKnows task future
    by_depth zero is =
        let own = entry_after target value frame.slots slot entry
        (ap (λ (one : FrameState). slice_get one.slots slot) (same_Some _ found is) ∙ slot_is) in
        ⊎_elim (λ put. inl (subst (IsIn (ToFuture future)) (sym put.1) inside))
        (λ old. inr (InSlot depth slot frame entry there old.1 inside)) own
    by_depth (suc at) is =
        let before = lower at found is in
        inr (InSlot before.0 slot found entry before.1 slot_is inside)

-- lists of values that are the same results are the same
given_are : (own values : List ValueTree) → AllGive own ≡ AllGive values → own ≡ values
given_are own values same = cc

-- where no initial values are asked for, each value comes from what an expression reads
value_reads : (library : Library) (scope : Scope) (expr_trees : ExprTrees) (values : List ValueTree)
    → results_of library scope expr_trees NoExpr ≡ AllGive values → (index : ℕ) (value : ValueTree)
    → slice_get values index ≡ Some value → (expr_tree : ExprTree) × AllComeFrom scope expr_tree value
unfolding initial_outcomes
value_reads library scope expr_trees values gives index value there =
    let give = evaluate library scope level_limit in
    let given = (results_of-gives library scope expr_trees NoExpr values).0 gives in
    let own : given.own ≡ values = given_are given.own values given.all_given in
    let each = IfAllGive-at (outcomes_of give expr_trees 0).results (AreGiven give expr_trees) given.own
    (ap (λ (all : Outcomes). all.results) given.own_given) (outcomes_of-each give expr_trees 0) in
    let found = each index value (ap (λ (all : List ValueTree). slice_get all index) own ∙ there) in (
      found.expr_tree,
      IfGives-at (give found.expr_tree found.applications).result (AllComeFrom scope found.expr_tree) value found.gives
          (evaluate-reads library level_limit scope found.expr_tree found.applications),
    )

module _ (program : ProgramTree) (config : Configuration) (accepted : IsAcceptedProgram program)
    (of_program : IsConfigOf program config) (typed : IsWellTyped program config) (at : Runner)
    (runner : IsRunner config at) where
  -- the innermost frame is there
  innermost : slice_get at.task.frames 0 ≡ Some at.frame
  innermost = ap (λ (all : List FrameState). slice_get all 0) runner.frames_are

  -- the frames below it are
  pub outer : (lower : ℕ) (below : FrameState) → slice_get at.others lower ≡ Some below
      → (depth : ℕ) × (slice_get at.task.frames depth ≡ Some below)
  outer lower below is = (suc lower, ap (λ (all : List FrameState). slice_get all (suc lower)) runner.frames_are ∙ is)

  -- a field of the own object has no future inside
  field_free : (object : Option ℕ) (field future : ℕ) (value : ValueTree)
      → slice_get (fields_of (object_at config object)) field ≡ Some value → IsIn (ToFuture future) value → ⊥
  field_free None field future value there inside = none-some value there
  field_free (Some index) field future value there inside = by_object (slice_get config.objects index) refl there
    where
      by_object : (found : Option ObjectState) → slice_get config.objects index ≡ found
          → slice_get (fields_of found) field ≡ Some value → ⊥
      by_object None is there = none-some value there
      by_object (Some object) is there =
          field_has_no_future program config index field future object value accepted of_program typed is there inside

  -- what a value at a location holds that a statement reads, the task knows
  location_known : (location : Location) (value : ValueTree) (future : ℕ)
      → value_at (scope_of config at.frame) location ≡ Some value → IsIn (ToFuture future) value
      → TaskKnows at.task future
  location_known (AtSlot slot) value future there inside = InSlot 0 slot at.frame value innermost there inside
  location_known (InField field) value future there inside =
      absurd (field_free at.frame.object field future value there inside)
  location_known (InBound depth) value future there inside = absurd (none-some value there)
  location_known InThis value future there inside = by_object at.frame.object there
    where
      by_object : (object : Option ℕ) → value_at (record (scope_of config at.frame) { this = object }) InThis ≡ Some value
          → TaskKnows at.task future
      by_object None there = absurd (none-some value there)
      by_object (Some object) there = absurd (no_future_in_object future object
          (subst (IsIn (ToFuture future)) (sym (same_Some (ObjectValue object) value there)) inside))

  -- what is inside a value of its next statement it knows, where that asks for no initial values
  pub values_known : (point : Point) (values : List ValueTree) (effect : EffectTree)
      → IsRunningAt program config at point values → effect_of point.statement ≡ effect
      → initials_for program effect ≡ NoExpr → (index future : ℕ) (value : ValueTree)
      → slice_get values index ≡ Some value → IsIn (ToFuture future) value → TaskKnows at.task future
  values_known point values effect running is none index future value there inside =
      let own = ap (initials_for program) is ∙ none in
      let gives = subst (λ (initials : ExprTrees). results_of (library_of program) (scope_of config at.frame)
      (expr_trees_of point.statement) initials ≡ AllGive values) own running.gives in
      let read = value_reads (library_of program) (scope_of config at.frame) (expr_trees_of point.statement) values gives
      index value there in
      let from = read.1 (ToFuture future) inside in
      location_known from.location from.value future from.there from.inside
