-- Types are sound: each configuration that a legal history of an accepted program reaches is well typed, and no event,
-- no evaluation and no task of it meets the fault Mistyped.
--
--   `starts`                           the first configuration is well typed
--   `kept`                             an event keeps a configuration well typed
--   `reachable_typed`                  each reachable configuration is well typed
--   `event_has_no_type_fault`          no event ends its task with Mistyped
--   `evaluation_has_no_type_fault`     the expressions of a next statement do not fail with Mistyped
--   `no_task_ended_with_a_type_fault`  no task has ended with it
--   `reachable_fit`                    the values of a next statement fit what it does with them
--   `reachable_static`                 each of its expressions has a static type, and its value has it
--   `field_has_no_future`              no field of an object of a well-typed configuration holds a future
--   `reachable_field_has_no_future`    so it is of a reachable one
use Rattle.std.proofs.Common.{◌≡◌, ◌≢◌, ◌<◌, ℕ, List, Some, refl, sym, ap, subst, arith, length}
use Rattle.std.specs.Prelude.{slice_get}
use Rattle.std.proofs.lemmas.Option.{slice_get_within}
use Rattle.abs_profile.specs.Accepted.{IsAcceptedProgram}
use Rattle.abs_program.specs.Control.{Point}
use Rattle.abs_program.specs.Instructions.{effect_of, expr_trees_of}
use Rattle.abs_program.specs.ProgramBodies.{OfMain}
use Rattle.abs_tree.specs.Syntax.{ExprTree, ProgramTree}
use Rattle.abs_types.specs.PlainTypes.{PlainType}
use Rattle.abs_values.specs.Evaluation.{results_of}
use Rattle.abs_values.specs.References.{IsIn, ToFuture, expr_tree_at}
use Rattle.abs_values.specs.Results.{Fails, OneFails}
use Rattle.abs_values.specs.Scopes.{library_of}
use Rattle.abs_values.specs.ValueTrees.{ValueTree}
use Rattle.abs_values.specs.declared.evaluated.Fault.TheVariants as fault
use Rattle.config_state.specs.Bodies.{main_at}
use Rattle.config_state.specs.Configurations.{ObjectState, TaskState, Configuration}
use Rattle.config_state.specs.First.{first}
use Rattle.config_state.specs.OfProgram.{IsConfigOf, next_point}
use Rattle.config_state.specs.WellFormed.{IsWellFormed}
use Rattle.list_facts.proofs.EntryLemmas.{slice_get-there}
use Rattle.step_rules.proofs.InductionLemmas.{reachable_has}
use Rattle.step_rules.proofs.ReachLemmas.{reachable_keeps}
use Rattle.step_rules.proofs.RuleLemmas.{rule_of}
use Rattle.step_rules.proofs.StayLemmas.{event_change}
use Rattle.step_rules.specs.Changes.{Change, configuration_after}
use Rattle.step_rules.specs.Events.{Step, change_of, event_of}
use Rattle.step_rules.specs.Homes.{IsHoused}
use Rattle.step_rules.specs.Inputs.{scope_of, initials_for}
use Rattle.step_rules.specs.Lookups.{Runner}
use Rattle.step_rules.specs.RuleParts.{IsRunner, IsRunningAt}
use Rattle.step_rules.specs.Runs.{IsReachable}
use Rattle.type_sound.proofs.InnermostLemmas.{innermost_is}
use Rattle.type_sound.proofs.RuleLemmas.{rule_types}
use Rattle.type_sound.proofs.Events.{IsEvent}
use Rattle.type_sound.proofs.FutureLemmas.{field_holds_no_future}
use Rattle.type_sound.proofs.KeptLemmas.{Types, kept_typed}
use Rattle.type_sound.proofs.NextLemmas.{evaluates_typed, values_fit}
use Rattle.type_sound.proofs.NextScopeLemmas.{fields_counted}
use Rattle.type_sound.proofs.SightLemmas.{entry_sees}
use Rattle.type_sound.proofs.StartLemmas.{first_typed}
use Rattle.type_sound.proofs.StaticLemmas.{values_have_static_types}
use Rattle.type_sound.specs.Fitting.{HasStaticType, ValuesFit}
use Rattle.type_sound.specs.Routines.{Routine, fields_of_class, routine_of}
use Rattle.type_sound.specs.Values.{ValueHas}
use Rattle.type_sound.specs.WellTyped.{IsWellTyped, world_of}

-- an event shows what its rule shows
change_types : (program : ProgramTree) (config : Configuration) (index : ℕ) (change : Change)
    → IsEvent program config index change → Types program config index change
change_types program config index change event =
    rule_types program config index change event (rule_of program config index change event.is_change)

-- An event keeps a configuration well typed.
pub kept : (program : ProgramTree) (config : Configuration) (index : ℕ) (change : Change) → IsAcceptedProgram program
    → IsWellFormed config → IsConfigOf program config → IsHoused program config → IsWellTyped program config
    → change_of program config index ≡ Some change → IsWellTyped program (configuration_after config index change)
kept program config index change accepted formed of_program housed typed is =
    let event : IsEvent program config index change = record {
      accepted = accepted;
      formed = formed;
      of_program = of_program;
      housed = housed;
      typed = typed;
      is_change = is;
    } in
    kept_typed program config index change event (change_types program config index change event)

-- the first configuration is well typed
pub starts : (program : ProgramTree) → IsWellTyped program (first program)
starts program =
    first_typed program
    (λ statement slot begins seen. entry_sees program (main_at program) statement slot (OfMain refl) begins seen)

-- each event of a reachable configuration keeps it well typed
step_keeps : (program : ProgramTree) → IsAcceptedProgram program → (config : Configuration) (index : ℕ) (step : Step)
    → IsReachable program config → IsWellTyped program config → event_of program config index ≡ Some step
    → IsWellTyped program step.config
step_keeps program accepted config index step reached typed is =
    let found = event_change program config index step is in
    let known = reachable_keeps program config accepted.whole reached in
    subst (IsWellTyped program) (sym (ap (λ (one : Step). one.config) found.2))
    (kept program config index found.0 accepted known.0 known.1 known.2 typed found.1)

-- Each configuration that a legal history of an accepted program reaches is well typed.
pub reachable_typed : (program : ProgramTree) (config : Configuration) → IsAcceptedProgram program
    → IsReachable program config → IsWellTyped program config
reachable_typed program config accepted reached =
    reachable_has program (IsWellTyped program) (step_keeps program accepted) (starts program) config reached

-- No event of it ends its task with the fault Mistyped.
pub event_has_no_type_fault : (program : ProgramTree) (config : Configuration) (index : ℕ) (change : Change)
    → IsAcceptedProgram program → IsReachable program config → change_of program config index ≡ Some change
    → change.task.outcome ≢ Some (Fails fault.Mistyped)
event_has_no_type_fault program config index change accepted reached is =
    let known = reachable_keeps program config accepted.whole reached in
    let event : IsEvent program config index change = record {
      accepted = accepted;
      formed = known.0;
      of_program = known.1;
      housed = known.2;
      typed = reachable_typed program config accepted reached;
      is_change = is;
    } in
    (change_types program config index change event).task.no_type_fault

-- The expressions of the next statement of a task that runs do not fail with Mistyped.
pub evaluation_has_no_type_fault : (program : ProgramTree) (config : Configuration) (at : Runner) (point : Point)
    → IsAcceptedProgram program → IsReachable program config → IsRunner config at
    → next_point program at.frame ≡ Some point
    → results_of (library_of program) (scope_of config at.frame) (expr_trees_of point.statement)
    (initials_for program (effect_of point.statement)) ≢ OneFails fault.Mistyped
evaluation_has_no_type_fault program config at point accepted reached runner there =
    let known = reachable_keeps program config accepted.whole reached in
    let typed = reachable_typed program config accepted reached in
    let own = innermost_is program config at known.1 typed runner in
    evaluates_typed program config accepted known.0 known.1 typed at own.routine point own.there runner there

-- No task of it has ended with Mistyped.
pub no_task_ended_with_a_type_fault : (program : ProgramTree) (config : Configuration) (index : ℕ) (task : TaskState)
    → IsAcceptedProgram program → IsReachable program config → slice_get config.tasks index ≡ Some task
    → task.outcome ≢ Some (Fails fault.Mistyped)
no_task_ended_with_a_type_fault program config index task accepted reached there =
    ((reachable_typed program config accepted reached).tasks index task there).no_type_fault

-- The values of the next statement of a task that runs fit what it does with them.
pub reachable_fit : (program : ProgramTree) (config : Configuration) (at : Runner) (routine : Routine) (point : Point)
    (values : List ValueTree) → IsAcceptedProgram program → IsReachable program config
    → routine_of program config at.frame ≡ Some routine → IsRunningAt program config at point values
    → ValuesFit program (world_of program config) routine at.frame (effect_of point.statement) values
reachable_fit program config at routine point values accepted reached found running =
    let known = reachable_keeps program config accepted.whole reached in
    values_fit program config accepted known.0 known.1 (reachable_typed program config accepted reached) at routine point
    values found running

-- Each of its expressions has a static type, and its value has it.
pub reachable_static : (program : ProgramTree) (config : Configuration) (at : Runner) (routine : Routine) (point : Point)
    (values : List ValueTree) (index : ℕ) (expr_tree : ExprTree) (value : ValueTree) → IsAcceptedProgram program
    → IsReachable program config → routine_of program config at.frame ≡ Some routine
    → IsRunningAt program config at point values
    → expr_tree_at (expr_trees_of point.statement) index ≡ Some expr_tree → slice_get values index ≡ Some value
    → (type : PlainType) × HasStaticType program routine expr_tree type
    × ValueHas program (world_of program config) value type
reachable_static program config at routine point values index expr_tree value accepted reached found running there
    value_there =
    let known = reachable_keeps program config accepted.whole reached in
    values_have_static_types program config accepted known.1 (reachable_typed program config accepted reached) at routine
    point values index expr_tree value found running there value_there

-- No field of an object of a well-typed configuration holds a future.
pub field_has_no_future : (program : ProgramTree) (config : Configuration) (index field task : ℕ)
    (object : ObjectState) (value : ValueTree) → IsAcceptedProgram program → IsConfigOf program config
    → IsWellTyped program config → slice_get config.objects index ≡ Some object
    → slice_get object.fields field ≡ Some value → IsIn (ToFuture task) value → ⊥
field_has_no_future program config index field task object value accepted of_program typed there is inside =
    let within : field < length (fields_of_class program object.class) =
    omega (
      arith,
      slice_get_within object.fields field value is,
      fields_counted program config accepted of_program typed index object there,
    ) in
    let type = slice_get-there (fields_of_class program object.class) field within in
    field_holds_no_future program accepted (world_of program config) object.class field value type.0 task type.1
    ((typed.objects index object there).fields field value type.0 is type.1) inside

-- So it is of a reachable one.
pub reachable_field_has_no_future : (program : ProgramTree) (config : Configuration) (index field task : ℕ)
    (object : ObjectState) (value : ValueTree) → IsAcceptedProgram program → IsReachable program config
    → slice_get config.objects index ≡ Some object → slice_get object.fields field ≡ Some value
    → IsIn (ToFuture task) value → ⊥
reachable_field_has_no_future program config index field task object value accepted reached =
    field_has_no_future program config index field task object value accepted
    (reachable_keeps program config accepted.whole reached).1 (reachable_typed program config accepted reached)
