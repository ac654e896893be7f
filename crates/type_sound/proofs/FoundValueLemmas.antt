-- Of which form a receiver and a future are, and what they refer to in a configuration.
--
--   `IsReceiver`, `call_has_receiver`  the type of the receiver of a call is an interface or a class
--   `IsFoundFuture`, `future_found`    a value of a type of futures is null, or a future whose task gives such a value
--   `IsFoundObject`, `object_found`    a receiver is null, or an object whose class fits its type
--   `class_in_world`, `result_in_world`        the object and the task that a world speaks of
--   `object_has_class`, `future_has_result`    the types of an object and of a future
use Rattle.std.proofs.Common.{◌≡◌, ◌⊎◌, inl, inr, ⊎_elim, ℕ, true, List, Some, refl, sym, ap, ◌∙◌, subst, true≢false}
use Rattle.std.specs.Prelude.{option_map, slice_get}
use Rattle.std.proofs.lemmas.Option.{none-some, slice_get-map}
use Rattle.abs_tree.specs.Syntax.{Name, DeclTree, ProgramTree}
use Rattle.abs_types.proofs.SubtypingLemmas.{fits_reflexive}
use Rattle.abs_types.specs.Methods.{signatures_of_type, call_type}
use Rattle.abs_types.specs.PlainTypes.{PlainType, PlainFut, PlainInterface, PlainClass}
use Rattle.abs_types.specs.Subtyping.{fits}
use Rattle.abs_values.specs.ValueTrees.{ValueTree, IntValue, StringValue, BuiltValue, ObjectValue, FutureValue, NullValue}
use Rattle.config_state.specs.Configurations.{ObjectState, TaskState, Configuration}
use Rattle.list_facts.proofs.EntryLemmas.{slice_get-mapped}
use Rattle.type_sound.proofs.ValueLemmas.{built_apart}
use Rattle.type_sound.specs.Routines.{result_of_task}
use Rattle.type_sound.specs.Values.{World, ValueHas}
use Rattle.type_sound.specs.WellTyped.{world_of}

-- A future of a task whose result type fits this type.
pub record IsFoundFuture (program : ProgramTree) (world : World) (value : ValueTree) (type : PlainType) : Type 0 where
  pub task : ℕ
  pub value_is : value ≡ FutureValue task
  pub result : PlainType
  pub there : slice_get world.results task ≡ Some result
  pub fit : fits program.source.declarations result type ≡ true

-- a value of a type of futures is null, or a future of a task
pub future_found : (program : ProgramTree) (world : World) (value : ValueTree) (type : PlainType)
    → ValueHas program world value (PlainFut type)
    → (value ≡ NullValue) ⊎ IsFoundFuture program world value type
unfolding ValueHas fits
future_found program world (IntValue number) type has = absurd (true≢false (sym has))
future_found program world (StringValue string) type has = absurd (true≢false (sym has))
future_found program world NullValue type has = inl refl
future_found program world (ObjectValue object) type has = absurd (true≢false (sym has.2))
future_found program world (FutureValue task) type has =
    inr (record { task = task; value_is = refl; result = has.0; there = has.1; fit = has.2 })
future_found program world (BuiltValue constructor parts) type has =
    absurd (built_apart program world constructor parts (PlainFut type) refl has)

-- The type is an interface or a class.
pub data IsReceiver (type : PlainType) : Type 0 where
  IsInterface : (name : Name) → type ≡ PlainInterface name → IsReceiver type
  IsClass : (name : Name) → type ≡ PlainClass name → IsReceiver type

-- so is that of the receiver of a call that gives something
pub call_has_receiver : (declarations : List DeclTree) (receiver : PlainType) (method : Name) (given : List PlainType)
    (type : PlainType) → call_type declarations receiver method given ≡ Some type → IsReceiver receiver
unfolding call_type signatures_of_type
call_has_receiver declarations (PlainInterface name) method given type gives = IsInterface name refl
call_has_receiver declarations (PlainClass name) method given type gives = IsClass name refl
call_has_receiver declarations receiver method given type gives = absurd (none-some type gives)

-- An object whose class fits this type.
pub record IsFoundObject (program : ProgramTree) (world : World) (value : ValueTree) (type : PlainType) : Type 0 where
  pub object : ℕ
  pub value_is : value ≡ ObjectValue object
  pub class : Name
  pub there : slice_get world.classes object ≡ Some class
  pub fit : fits program.source.declarations (PlainClass class) type ≡ true

-- a value of an interface is null or an object
interface_found : (program : ProgramTree) (world : World) (value : ValueTree) (name : Name)
    → ValueHas program world value (PlainInterface name)
    → (value ≡ NullValue) ⊎ IsFoundObject program world value (PlainInterface name)
unfolding ValueHas fits
interface_found program world (IntValue number) name has = absurd (true≢false (sym has))
interface_found program world (StringValue string) name has = absurd (true≢false (sym has))
interface_found program world NullValue name has = inl refl
interface_found program world (ObjectValue object) name has =
    inr (record { object = object; value_is = refl; class = has.0; there = has.1; fit = has.2 })
interface_found program world (FutureValue task) name has = absurd (true≢false (sym has.2))
interface_found program world (BuiltValue constructor parts) name has =
    absurd (built_apart program world constructor parts (PlainInterface name) refl has)

-- a value of a class is an object
class_found : (program : ProgramTree) (world : World) (value : ValueTree) (name : Name)
    → ValueHas program world value (PlainClass name) → IsFoundObject program world value (PlainClass name)
unfolding ValueHas fits
class_found program world (IntValue number) name has = absurd (true≢false (sym has))
class_found program world (StringValue string) name has = absurd (true≢false (sym has))
class_found program world NullValue name has = absurd (true≢false (sym has))
class_found program world (ObjectValue object) name has =
    record { object = object; value_is = refl; class = has.0; there = has.1; fit = has.2 }
class_found program world (FutureValue task) name has = absurd (true≢false (sym has.2))
class_found program world (BuiltValue constructor parts) name has =
    absurd (built_apart program world constructor parts (PlainClass name) refl has)

-- a receiver is null or an object
pub object_found : (program : ProgramTree) (world : World) (value : ValueTree) (type : PlainType) → IsReceiver type
    → ValueHas program world value type → (value ≡ NullValue) ⊎ IsFoundObject program world value type
object_found program world value type (IsInterface name is) has =
    ⊎_elim inl (λ (found : IsFoundObject program world value (PlainInterface name)).
    inr (subst (IsFoundObject program world value) (sym is) found))
    (interface_found program world value name (subst (ValueHas program world value) is has))
object_found program world value type (IsClass name is) has = inr (subst (IsFoundObject program world value) (sym is)
    (class_found program world value name (subst (ValueHas program world value) is has)))

-- the object of which a world gives the class
pub class_in_world : (program : ProgramTree) (config : Configuration) (object : ℕ) (class : Name)
    → slice_get (world_of program config).classes object ≡ Some class
    → (cell : ObjectState) × (slice_get config.objects object ≡ Some cell) × (cell.class ≡ class)
unfolding world_of
class_in_world program config object class is =
    slice_get-mapped (λ (cell : ObjectState). cell.class) config.objects object class is

-- the task of which it gives the result type
pub result_in_world : (program : ProgramTree) (config : Configuration) (task : ℕ) (result : PlainType)
    → slice_get (world_of program config).results task ≡ Some result
    → (state : TaskState) × (slice_get config.tasks task ≡ Some state)
    × (result_of_task program config state ≡ result)
unfolding world_of
result_in_world program config task result is =
    slice_get-mapped (λ (state : TaskState). result_of_task program config state) config.tasks task result is

-- an object has the type of its class
pub object_has_class : (program : ProgramTree) (config : Configuration) (object : ℕ) (cell : ObjectState)
    → slice_get config.objects object ≡ Some cell
    → ValueHas program (world_of program config) (ObjectValue object) (PlainClass cell.class)
unfolding world_of ValueHas
object_has_class program config object cell is = (
  cell.class,
  slice_get-map (λ (cell : ObjectState). cell.class) config.objects object
      ∙ ap (option_map (λ (cell : ObjectState). cell.class)) is,
  fits_reflexive program.source.declarations (PlainClass cell.class),
)

-- a future has the type of the result of its task
pub future_has_result : (program : ProgramTree) (config : Configuration) (task : ℕ) (state : TaskState)
    → slice_get config.tasks task ≡ Some state
    → ValueHas program (world_of program config) (FutureValue task) (PlainFut (result_of_task program config state))
unfolding world_of ValueHas
future_has_result program config task state is = (
  result_of_task program config state,
  slice_get-map (λ (one : TaskState). result_of_task program config one) config.tasks task
      ∙ ap (option_map (λ (one : TaskState). result_of_task program config one)) is,
  fits_reflexive program.source.declarations (PlainFut (result_of_task program config state)),
)
