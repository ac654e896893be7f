-- The values of the next statement of a task fit what the statement does with them, and its expressions do not fail
-- with Mistyped.
--
--   `values_fit`           the values of the next statement fit
--   `evaluates_typed`      its expressions do not fail with Mistyped
use Rattle.std.proofs.Common.{◌≡◌, ◌≢◌, Bool, List, [], ◌∷◌, Some, None, refl, sym, ◌∙◌, subst}
use Rattle.std.specs.Prelude.{slice_get}
use Rattle.std.proofs.lemmas.Option.{same_Some, option_and_then_some}
use Rattle.abs_profile.specs.Accepted.{IsAcceptedProgram}
use Rattle.abs_profile.specs.Profile.{expr_offences, statements_offences, statement_offences}
use Rattle.abs_program.specs.Control.{Point, program_points}
use Rattle.abs_program.specs.Instructions.{EffectTree, Skips, Suspends, Awaits, Chooses, Returns, Prints, Clears, one_expr, waits_of, target_variable, expr_trees_of, effect_of}
use Rattle.abs_program.specs.ProgramBodies.{BodyAt, IsStatementOf}
use Rattle.abs_tree.specs.Syntax.{ExprTree, NoExpr, Statement, ProgramTree}
use Rattle.abs_types.proofs.SubtypingLemmas.{fits_whole}
use Rattle.abs_types.specs.HasType.{HasType}
use Rattle.abs_types.specs.HasType.HaveTypes.{no_expr, next_expr}
use Rattle.abs_types.specs.IsTyped.{IsTyped}
use Rattle.abs_types.specs.IsTyped.IsTyped.{block, skip, suspend, await, return, print, if_else, while, declare, initialize, assign, do_side}
use Rattle.abs_types.specs.OperatorTypes.{bool_type}
use Rattle.abs_types.specs.PlainTypes.{PlainType, PlainString, plain}
use Rattle.abs_types.specs.Subtyping.{Fits}
use Rattle.abs_types.specs.Typing.{Frame}
use Rattle.abs_values.specs.Evaluation.{results_of}
use Rattle.abs_values.specs.Results.{Results, OneFails}
use Rattle.abs_values.specs.Scopes.{library_of}
use Rattle.abs_values.specs.ValueTrees.{ValueTree}
use Rattle.abs_values.specs.declared.evaluated.Fault.TheVariants as fault
use Rattle.config_state.specs.Configurations.{FrameState, Configuration, object_at}
use Rattle.config_state.specs.OfProgram.{IsConfigOf, next_point}
use Rattle.config_state.specs.WellFormed.{IsWellFormed}
use Rattle.list_facts.proofs.AppendLemmas.{both_empty, empty_both}
use Rattle.step_rules.specs.Inputs.{scope_of, initials_for}
use Rattle.step_rules.specs.Lookups.{Runner}
use Rattle.step_rules.specs.RuleParts.{IsRunner, IsRunningAt}
use Rattle.type_sound.proofs.GuardLemmas.{guard_held}
use Rattle.type_sound.proofs.InProfileLemmas.{point_in_profile}
use Rattle.type_sound.proofs.NextScopeLemmas.{innermost, routine_body, scope_at_next}
use Rattle.type_sound.proofs.ResultsFitLemmas.{ResultsFit, AtStatement, own_fit}
use Rattle.type_sound.proofs.SideLemmas.{one_value, side_fits}
use Rattle.type_sound.proofs.TypedPointLemmas.{DeclaresOwn, point_is_typed}
use Rattle.type_sound.proofs.ValueLemmas.{value_up}
use Rattle.type_sound.proofs.TargetLemmas.{nothing_takes, declared_takes, assigned_takes, null_fits_declared}
use Rattle.type_sound.specs.Fitting.{ValuesFit, IsOneValue}
use Rattle.type_sound.specs.Routines.{Routine, routine_of}
use Rattle.type_sound.specs.Values.{World, AllHave}
use Rattle.type_sound.specs.WellTyped.{IsWellTyped, world_of}

-- values that have one type are one value of a type that it fits
value_above : (program : ProgramTree) (world : World) (values : List ValueTree) (type above : PlainType)
    → Fits program.source.declarations type above → AllHave program world values (type ∷ [])
    → IsOneValue program world values above
value_above program world values type above fit have =
    let one = one_value program world values type have in
    record {
      value = one.value;
      values_are = one.values_are;
      has = value_up program world one.value type above (fits_whole fit) one.has;
    }

-- the results of a statement fit
abbrev StatementFits : ProgramTree → Configuration → Routine → FrameState → Statement → Type 0
StatementFits program config routine own statement =
    ResultsFit program (world_of program config) routine own (effect_of statement)
    (results_of (library_of program) (scope_of config own) (expr_trees_of statement)
    (initials_for program (effect_of statement)))

module _ (program : ProgramTree) (config : Configuration) (accepted : IsAcceptedProgram program) (routine : Routine)
    (own : FrameState) where
  -- a statement of one expression
  one_fits : (frame : Frame) → AtStatement program config routine own frame → (effect : EffectTree)
      (expr_tree : ExprTree) (type above : PlainType) → expr_offences expr_tree ≡ []
      → HasType program.source.declarations frame [] expr_tree type → Fits program.source.declarations type above
      → ((values : List ValueTree) → IsOneValue program (world_of program config) values above
      → ValuesFit program (world_of program config) routine own effect values)
      → ResultsFit program (world_of program config) routine own effect
      (results_of (library_of program) (scope_of config own) (one_expr expr_tree) NoExpr)
  one_fits frame known effect expr_tree type above none has fit fits_one =
      own_fit program config accepted routine own frame known effect (one_expr expr_tree) (type ∷ [])
      (empty_both (expr_offences expr_tree) [] none refl)
      (next_expr [] expr_tree NoExpr type [] has (no_expr []))
      (λ values have. fits_one values (value_above program (world_of program config) values type above fit have))

  -- a statement without expressions
  none_fit : (frame : Frame) → AtStatement program config routine own frame → (effect : EffectTree)
      → ((values : List ValueTree) → ValuesFit program (world_of program config) routine own effect values)
      → ResultsFit program (world_of program config) routine own effect
      (results_of (library_of program) (scope_of config own) NoExpr NoExpr)
  none_fit frame known effect fit =
      own_fit program config accepted routine own frame known effect NoExpr [] refl (no_expr [])
      (λ values have. fit values)

  -- a statement that is typed and in the profile has results that fit
  statement_fits : (frame : Frame) (is_last : Bool) (statement : Statement)
      → AtStatement program config routine own frame → statement_offences statement ≡ []
      → DeclaresOwn routine.slots statement → IsTyped program.source.declarations frame is_last statement
      → StatementFits program config routine own statement
  statement_fits frame is_last statement known none own_slot (block around last place statements typed) =
      none_fit frame known Skips (λ values. tt)
  statement_fits frame is_last statement known none own_slot (skip around last index place) =
      none_fit frame known Skips (λ values. tt)
  statement_fits frame is_last statement known none own_slot (suspend around last index place) =
      none_fit frame known Suspends (λ values. tt)
  statement_fits frame is_last statement known none own_slot (await around last index place guard tests) =
      none_fit frame known (Awaits (waits_of guard))
      (λ values. guard_held program config routine own frame known guard tests)
  statement_fits frame is_last statement known none own_slot (return around index place value given result task has
      fit) =
      one_fits frame known Returns value given routine.result none has
      (subst (λ (one : PlainType). Fits program.source.declarations given one)
      (same_Some result routine.result (sym task ∙ known.task)) fit)
      (λ values one. one)
  statement_fits frame is_last statement known none own_slot (print around last index place value given has fit) =
      one_fits frame known Prints value given PlainString none has fit (λ values one. one)
  statement_fits frame is_last statement known none own_slot (if_else around last index place condition first second
      given has fit typed others_typed) =
      one_fits frame known Chooses condition given bool_type
      (both_empty (expr_offences condition) _ none).0 has fit (λ values one. one)
  statement_fits frame is_last statement known none own_slot (while around last index place condition body given has fit
      typed) =
      one_fits frame known Chooses condition given bool_type
      (both_empty (expr_offences condition) (statements_offences body) none).0 has fit (λ values one. one)
  statement_fits frame is_last statement known none own_slot (declare around last index place variable_place type
      variable can) =
      none_fit frame known (Clears variable)
      (λ values. null_fits_declared program (world_of program config) routine variable own_slot.0 (plain type)
      own_slot.1 own_slot.2 can)
  statement_fits frame is_last statement known none own_slot (initialize around last index place variable_place type
      variable side given has fit) =
      side_fits program config accepted routine own frame known (Some variable) side given none has
      (declared_takes program routine variable own_slot.0 given (plain type) own_slot.1 own_slot.2 (fits_whole fit))
  statement_fits frame is_last statement known none own_slot (assign around last index place target side given type
      target_is has fit) =
      side_fits program config accepted routine own frame known (Some (target_variable target)) side given none has
      (assigned_takes program config routine own frame target given type known target_is (fits_whole fit))
  statement_fits frame is_last statement known none own_slot (do_side around last index place side given has) =
      side_fits program config accepted routine own frame known None side given none has
      (nothing_takes program routine given)

-- What is known of the next statement of a frame: the frame in which it is typed, and that it has no offence of the
-- profile.
pub record IsNext (program : ProgramTree) (config : Configuration) (routine : Routine) (own : FrameState)
    (statement : Statement) : Type 0 where
  pub frame : Frame
  pub is_last : Bool
  pub known : AtStatement program config routine own frame
  pub in_profile : statement_offences statement ≡ []
  pub declares_own : DeclaresOwn routine.slots statement
  pub typed : IsTyped program.source.declarations frame is_last statement

pub next_is_known : (program : ProgramTree) (config : Configuration) → IsAcceptedProgram program
    → IsConfigOf program config → IsWellTyped program config → (at : Runner) (routine : Routine) (point : Point)
    → routine_of program config at.frame ≡ Some routine → IsRunner config at
    → next_point program at.frame ≡ Some point → IsNext program config routine at.frame point.statement
next_is_known program config accepted of_program typed at routine point found runner next =
    let frame = at.frame in
    option_and_then_some (slice_get (program_points program.source)) frame.next point next (λ statement next_is there.
    let inner = innermost program config of_program typed at runner in
    let body_is = routine_body program config frame inner.of_program.body routine inner.of_program.body_there found in
    let inside : IsStatementOf routine.body statement =
    subst (λ (body : BodyAt). IsStatementOf body statement) body_is (inner.of_program.next_is statement next_is) in
    let known = point_is_typed program accepted (object_at config frame.object) frame.method routine statement point
    found inside there in
    let next_known : IsNext program config routine frame point.statement = record {
      frame = known.frame;
      is_last = known.is_last;
      known = record {
        slots = λ slot type is. (known.slots slot type is).1;
        fields = known.fields;
        this = known.this;
        task = known.task;
        scope_has = scope_at_next program config accepted of_program typed frame routine statement point inner found
            next_is known;
      };
      in_profile = point_in_profile program accepted statement point there;
      declares_own = known.declares_own;
      typed = known.typed;
    } in
    next_known)

-- the results of the next statement fit
next_fits : (program : ProgramTree) (config : Configuration) → IsAcceptedProgram program → IsConfigOf program config
    → IsWellTyped program config → (at : Runner) (routine : Routine) (point : Point)
    → routine_of program config at.frame ≡ Some routine → IsRunner config at
    → next_point program at.frame ≡ Some point → StatementFits program config routine at.frame point.statement
next_fits program config accepted of_program typed at routine point found runner next =
    let known = next_is_known program config accepted of_program typed at routine point found runner next in
    statement_fits program config accepted routine at.frame known.frame known.is_last point.statement known.known
    known.in_profile known.declares_own known.typed

-- the values of the next statement fit what it does with them
pub values_fit : (program : ProgramTree) (config : Configuration) → IsAcceptedProgram program → IsWellFormed config
    → IsConfigOf program config → IsWellTyped program config → (at : Runner) (routine : Routine) (point : Point)
    (values : List ValueTree) → routine_of program config at.frame ≡ Some routine
    → IsRunningAt program config at point values
    → ValuesFit program (world_of program config) routine at.frame (effect_of point.statement) values
values_fit program config accepted formed of_program typed at routine point values found running =
    subst (λ (results : Results). ResultsFit program (world_of program config) routine at.frame
    (effect_of point.statement) results) running.gives
    (next_fits program config accepted of_program typed at routine point found running.runner running.point_there)

-- the expressions of the next statement do not fail with Mistyped
pub evaluates_typed : (program : ProgramTree) (config : Configuration) → IsAcceptedProgram program
    → IsWellFormed config → IsConfigOf program config → IsWellTyped program config → (at : Runner)
    (routine : Routine) (point : Point) → routine_of program config at.frame ≡ Some routine → IsRunner config at
    → next_point program at.frame ≡ Some point
    → results_of (library_of program) (scope_of config at.frame) (expr_trees_of point.statement)
    (initials_for program (effect_of point.statement)) ≢ OneFails fault.Mistyped
evaluates_typed program config accepted formed of_program typed at routine point found runner next fails =
    subst (λ (results : Results). ResultsFit program (world_of program config) routine at.frame
    (effect_of point.statement) results) fails
    (next_fits program config accepted of_program typed at routine point found runner next) refl
