-- The values of a statement that fit it are of the right sort: there are as many as it needs, and what they refer to is
-- there.
--
--   `sent_object`, `sent_call`     a receiver is there, and its class has the method of the call
--   `own_call`                     the class of the own object has the method of a call on `this`
--   `got_task`                     a future that is got has a task
--   `no_wrong_sort`                values that fit are of the right sort
use Rattle.std.proofs.Common.{◌≡◌, ◌≢◌, ◌⊎◌, ⊎_elim, ℕ, true, List, [], ◌∷◌, Option, Some, None, length, sym, ap, ◌∙◌, subst}
use Rattle.std.specs.Prelude.{slice_get, option_and_then}
use Rattle.std.proofs.lemmas.Option.{none-some, same_Some}
use Rattle.abs_profile.specs.Accepted.{IsAcceptedProgram}
use Rattle.abs_program.specs.Instructions.{EffectTree, Chooses, Returns, Prints, Stores, Makes, Sends, CallsOwn, Gets}
use Rattle.abs_tree.specs.Syntax.{Name, VariableTree, ProgramTree}
use Rattle.abs_tree.specs.declared.syntax.statement.Mode.{Mode}
use Rattle.abs_types.proofs.SubtypingLemmas.{fits_reflexive}
use Rattle.abs_types.specs.PlainTypes.{PlainClass}
use Rattle.abs_types.specs.Subtyping.{fits}
use Rattle.abs_values.specs.Operations.{truth_of}
use Rattle.abs_values.specs.ValueTrees.{ValueTree, StringValue, ObjectValue, FutureValue, NullValue}
use Rattle.config_state.specs.Bodies.{class_taking}
use Rattle.config_state.specs.Configurations.{ObjectState, TaskState, Configuration, object_at}
use Rattle.config_state.specs.OfProgram.{IsConfigOf}
use Rattle.step_rules.specs.FaultCauses.{TakesOne, WrongSort, IsNotOne, IsNoBool, IsNoString, HasNoClass, HasNoReceiver, IsNoObject, HasNoEntry, HasNoMethod, HasNoOwnMethod, IsFarCall, IsNoFuture, HasNoTask}
use Rattle.step_rules.specs.Lookups.{Runner, callable, class_of, named_value}
use Rattle.type_sound.proofs.CallFoundLemmas.{IsCalledRoutine, object_of, call_found}
use Rattle.type_sound.proofs.ClassLemmas.{class_is_there}
use Rattle.type_sound.proofs.FoundValueLemmas.{IsFoundFuture, IsFoundObject, call_has_receiver, future_found, object_found, class_in_world, result_in_world}
use Rattle.type_sound.proofs.GuardFaultLemmas.{future_named}
use Rattle.type_sound.proofs.InnermostLemmas.{class_of_frame}
use Rattle.type_sound.proofs.PreludeLemmas.{truth_found}
use Rattle.type_sound.proofs.ValueLemmas.{string_found}
use Rattle.type_sound.specs.Fitting.{ValuesFit, IsCall}
use Rattle.type_sound.specs.Routines.{Routine, routine_of, result_of_task}
use Rattle.type_sound.specs.WellTyped.{world_of}

module _ (program : ProgramTree) (config : Configuration) (accepted : IsAcceptedProgram program)
    (of_program : IsConfigOf program config) (at : Runner) (routine : Routine)
    (there : routine_of program config at.frame ≡ Some routine) (values : List ValueTree) where
  -- The values fit an effect.
  abbrev Fit : EffectTree → Type 0
  Fit effect = ValuesFit program (world_of program config) routine at.frame effect values

  -- a statement that needs one value has one
  one_fits : (effect : EffectTree) → TakesOne effect → Fit effect → (value : ValueTree) × (values ≡ value ∷ [])
  one_fits (Stores target) takes fit = (fit.one.value, fit.one.values_are)
  one_fits Chooses takes fit = (fit.value, fit.values_are)
  one_fits Returns takes fit = (fit.value, fit.values_are)
  one_fits Prints takes fit = (fit.value, fit.values_are)
  one_fits effect takes fit = absurd takes

  -- the value of a condition is a Bool
  truth_fits : (value : ValueTree) → values ≡ value ∷ [] → Fit Chooses → truth_of program.names value ≢ None
  truth_fits value is fit none =
      let found = truth_found program (world_of program config) accepted fit.value fit.has in
      let answer = found.1 in let are = fit.values_are in
      let same : value ≡ fit.value = cc in
      absurd (cc (ap (truth_of program.names) same, answer, none))

  -- a printed value is a string
  string_fits : (value : ValueTree) → values ≡ value ∷ []
      → ((string : List ℕ) → value ≢ StringValue string) → Fit Prints → ⊥
  string_fits value is none fit =
      let found = string_found program (world_of program config) fit.value fit.has in
      let are = fit.values_are in
      let same : value ≡ fit.value = cc in none found.0 (same ∙ found.1)

  -- the class of a new object is there
  class_fits : (mode : Mode) (class : Name) (target : Option VariableTree) → Fit (Makes mode class target)
      → class_taking program class ≢ None
  class_fits mode class target fit none =
      let own = class_is_there program class fit.taken fit.class_takes_them in
      absurd (none-some own.1 (sym none ∙ own.3))

  -- a receiver is an object, or null
  receiver_fits : (method : Name) (target : Option VariableTree) (fit : Fit (Sends method target))
      → (fit.object ≡ NullValue) ⊎ IsFoundObject program (world_of program config) fit.object fit.receiver
  receiver_fits method target fit =
      object_found program (world_of program config) fit.object fit.receiver
      (call_has_receiver program.source.declarations fit.receiver method fit.call.given fit.type fit.call.gives) fit.has

  -- there is a receiver, which is an object or null
  object_fits : (method : Name) (target : Option VariableTree) (receiver : ValueTree) (arguments : List ValueTree)
      → values ≡ receiver ∷ arguments → ((object : ℕ) → receiver ≢ ObjectValue object) → receiver ≢ NullValue
      → Fit (Sends method target) → ⊥
  object_fits method target receiver arguments is no_object no_null fit =
      let are = fit.values_are in
      let same : receiver ≡ fit.object = cc in
      ⊎_elim (λ null. no_null (same ∙ null))
      (λ (found : IsFoundObject program (world_of program config) fit.object fit.receiver).
      no_object found.object (same ∙ found.value_is))
      (receiver_fits method target fit)

  -- an object that is a receiver is there
  pub sent_object : (method : Name) (target : Option VariableTree) (object : ℕ) (arguments : List ValueTree)
      → values ≡ ObjectValue object ∷ arguments → (fit : Fit (Sends method target))
      → (cell : ObjectState) × (slice_get config.objects object ≡ Some cell)
      × (fits program.source.declarations (PlainClass cell.class) fit.receiver ≡ true)
  sent_object method target object arguments is fit =
      let are = fit.values_are in
      let same : ObjectValue object ≡ fit.object = cc in
      ⊎_elim (λ (null : fit.object ≡ NullValue). absurd (cc (same, null)))
      (λ (found : IsFoundObject program (world_of program config) fit.object fit.receiver).
      let value_is = found.value_is in
      let index : found.object ≡ object = cc in
      let own = class_in_world program config found.object found.class found.there in (
        own.0,
        ap (slice_get config.objects) (sym index) ∙ own.1,
        ap (λ (class : Name). fits program.source.declarations (PlainClass class) fit.receiver) own.2 ∙ found.fit,
      ))
      (receiver_fits method target fit)

  -- its class has the method
  pub sent_call : (method : Name) (target : Option VariableTree) (object : ℕ) (arguments : List ValueTree)
      (cell : ObjectState) → values ≡ ObjectValue object ∷ arguments → slice_get config.objects object ≡ Some cell
      → (fit : Fit (Sends method target))
      → IsCalledRoutine program (world_of program config) cell.class method arguments fit.type
  sent_call method target object arguments cell is cell_there fit =
      let own = sent_object method target object arguments is fit in
      let are = fit.values_are in
      let same_cell : own.0 ≡ cell = same_Some own.0 cell (sym own.1 ∙ cell_there) in
      let same : fit.arguments ≡ arguments = cc in
      call_found program (world_of program config) accepted cell arguments fit.receiver method fit.type
      (of_program.objects_are object cell cell_there)
      (ap (λ (one : ObjectState). fits program.source.declarations (PlainClass one.class) fit.receiver) (sym same_cell)
      ∙ own.2)
      (subst (λ given. IsCall program (world_of program config) given fit.receiver method fit.type) same fit.call)

  -- so has the class of the own object
  pub own_call : (method : Name) (target : Option VariableTree) (fit : Fit (CallsOwn method target))
      → (cell : ObjectState) × (object_at config at.frame.object ≡ Some cell)
      × IsCalledRoutine program (world_of program config) cell.class method values fit.type
  own_call method target fit =
      let own = class_of_frame program config at.frame routine fit.class there fit.this_is in (
        own.object,
        own.object_is,
        call_found program (world_of program config) accepted own.object values (PlainClass fit.class) method fit.type
            (object_of program config of_program at.frame.object own.object own.object_is)
            (ap (λ class. fits program.source.declarations (PlainClass class) (PlainClass fit.class)) own.class_is
            ∙ fits_reflexive program.source.declarations (PlainClass fit.class))
            fit.call,
      )

  -- what is got is null, or a future
  got_future : (slot : Option ℕ) (target : Option VariableTree) (fit : Fit (Gets slot target))
      → (fit.future.value ≡ NullValue)
      ⊎ IsFoundFuture program (world_of program config) fit.future.value fit.type
  got_future slot target fit =
      future_found program (world_of program config) fit.future.value fit.type fit.future.has

  -- it is this value
  got_value : (slot : Option ℕ) (target : Option VariableTree) (fit : Fit (Gets slot target))
      → named_value at.frame.slots slot ≡ Some fit.future.value
  got_value slot target fit =
      future_named at.frame.slots slot fit.future.slot fit.future.value fit.future.name_is fit.future.there

  -- the value in the slot of a `get` is null or a future
  future_fits : (slot : Option ℕ) (target : Option VariableTree)
      → ((future : ℕ) → named_value at.frame.slots slot ≢ Some (FutureValue future))
      → named_value at.frame.slots slot ≢ Some NullValue → Fit (Gets slot target) → ⊥
  future_fits slot target no_future no_null fit =
      ⊎_elim (λ (null : fit.future.value ≡ NullValue). no_null (got_value slot target fit ∙ ap Some null))
      (λ (found : IsFoundFuture program (world_of program config) fit.future.value fit.type).
      no_future found.task (got_value slot target fit ∙ ap Some found.value_is))
      (got_future slot target fit)

  -- a future that is got has a task, whose result type fits
  pub got_task : (slot : Option ℕ) (target : Option VariableTree) (future : ℕ)
      → named_value at.frame.slots slot ≡ Some (FutureValue future) → (fit : Fit (Gets slot target))
      → (task : TaskState) × (slice_get config.tasks future ≡ Some task)
      × (fits program.source.declarations (result_of_task program config task) fit.type ≡ true)
  got_task slot target future holds fit =
      let same : FutureValue future ≡ fit.future.value = same_Some _ _ (sym holds ∙ got_value slot target fit) in
      ⊎_elim (λ (null : fit.future.value ≡ NullValue). absurd (cc (same, null)))
      (λ (found : IsFoundFuture program (world_of program config) fit.future.value fit.type).
      let value_is = found.value_is in
      let index : found.task ≡ future = cc in
      let own = result_in_world program config found.task found.result found.there in (
        own.0,
        ap (slice_get config.tasks) (sym index) ∙ own.1,
        ap (λ type. fits program.source.declarations type fit.type) own.2 ∙ found.fit,
      ))
      (got_future slot target fit)

  -- values that fit are of the right sort
  pub no_wrong_sort : (effect : EffectTree) → Fit effect → WrongSort program config at values effect → ⊥
  no_wrong_sort effect fit (IsNotOne takes none) = let own = one_fits effect takes fit in none own.0 own.1
  no_wrong_sort effect fit (IsNoBool value is are none) = truth_fits value are (subst Fit is fit) none
  no_wrong_sort effect fit (IsNoString value is are none) = string_fits value are none (subst Fit is fit)
  no_wrong_sort effect fit (HasNoClass mode class target is none) = class_fits mode class target (subst Fit is fit) none
  no_wrong_sort effect fit (HasNoReceiver method target is are) =
      let own = (subst Fit is fit).values_are in absurd (cc (own, are))
  no_wrong_sort effect fit (IsNoObject method target receiver arguments is are no_object no_null) =
      object_fits method target receiver arguments are no_object no_null (subst Fit is fit)
  no_wrong_sort effect fit (HasNoEntry method target object arguments is are none) =
      let own = sent_object method target object arguments are (subst Fit is fit) in
      absurd (none-some own.0 (sym none ∙ own.1))
  no_wrong_sort effect fit (HasNoMethod method target object arguments cell is are cell_there none) =
      let own = sent_call method target object arguments cell are cell_there (subst Fit is fit) in
      absurd (none-some own.routine.body (sym none ∙ own.found))
  no_wrong_sort effect fit (HasNoOwnMethod method target is none) =
      let own = own_call method target (subst Fit is fit) in
      let found : option_and_then (λ (name : Name). callable program name method (length values))
      (class_of (object_at config at.frame.object)) ≡ Some own.2.routine.body =
      ap (λ object. option_and_then (λ (name : Name). callable program name method (length values)) (class_of object))
      own.1 ∙ own.2.found in
      absurd (none-some own.2.routine.body (sym none ∙ found))
  no_wrong_sort effect fit (IsFarCall method slot target is) = subst Fit is fit
  no_wrong_sort effect fit (IsNoFuture slot target is no_future no_null) =
      future_fits slot target no_future no_null (subst Fit is fit)
  no_wrong_sort effect fit (HasNoTask slot target future is holds none) =
      let own = got_task slot target future holds (subst Fit is fit) in
      absurd (none-some own.0 (sym none ∙ own.1))
