-- Why the event of a task is a fault.
--
--   `TakesOne`                 a statement needs one value
--   `WrongSort`                what is wrong with the values of a statement
--   `FaultOf`                  the cause of a fault
use Rattle.std.specs.Prelude.{◌≡◌, ◌≢◌, ⊤, ℕ, List, [], ◌∷◌, length, slice_get, Option, Some, None, option_and_then}
use Rattle.abs_program.specs.Control.{Point}
use Rattle.abs_values.specs.Evaluation.{results_of}
use Rattle.abs_program.specs.Instructions.{EffectTree, Awaits, Chooses, Returns, Prints, Stores, Makes, Sends, CallsOwn, CallsOther, Gets, expr_trees_of, effect_of}
use Rattle.abs_values.specs.Operations.{truth_of}
use Rattle.abs_values.specs.Results.{Fails, OneFails}
use Rattle.abs_values.specs.Scopes.{library_of}
use Rattle.abs_tree.specs.Syntax.{Name, VariableTree, ProgramTree}
use Rattle.abs_values.specs.ValueTrees.{ValueTree, StringValue, ObjectValue, FutureValue, NullValue}
use Rattle.abs_values.specs.declared.evaluated.Fault.{Fault}
use Rattle.abs_values.specs.declared.evaluated.Fault.TheVariants as fault
use Rattle.abs_tree.specs.declared.syntax.statement.Mode.{Mode}
use Rattle.config_state.specs.Bodies.{class_taking}
use Rattle.config_state.specs.Configurations.{ObjectState, TaskState, Configuration, object_at}
use Rattle.config_state.specs.OfProgram.{next_point}
use Rattle.step_rules.specs.Inputs.{scope_of, initials_for}
use Rattle.step_rules.specs.Lookups.{Runner, callable, class_of, named_value}
use Rattle.step_rules.specs.RuleParts.{IsRunningAt}
use Rattle.step_rules.specs.WaitRules.{Faulty, guard_of}

-- The statement needs one value.
abbrev pub TakesOne : EffectTree → Type 0
TakesOne (Stores target) = ⊤
TakesOne Chooses = ⊤
TakesOne Prints = ⊤
TakesOne Returns = ⊤
TakesOne _ = ⊥

-- What is wrong with the values of a statement. There is another number of them than one, or no receiver. A condition
-- is no Bool, or a printed value no string. A receiver is no object, an object is not there, or its class has no such
-- method. A future that is got is none, or has no task. A class is not there. A call by `.` on another receiver than
-- `this` is always wrong.
pub data WrongSort (program : ProgramTree) (config : Configuration) (at : Runner) (values : List ValueTree)
    (effect : EffectTree) : Type 0 where
  IsNotOne : TakesOne effect → ((value : ValueTree) → values ≢ value ∷ []) → WrongSort program config at values effect
  IsNoBool : (value : ValueTree) → effect ≡ Chooses → values ≡ value ∷ [] → truth_of program.names value ≡ None
      → WrongSort program config at values effect
  IsNoString : (value : ValueTree) → effect ≡ Prints → values ≡ value ∷ []
      → ((string : List ℕ) → value ≢ StringValue string) → WrongSort program config at values effect
  HasNoClass : (mode : Mode) (class : Name) (target : Option VariableTree) → effect ≡ Makes mode class target
      → class_taking program class ≡ None → WrongSort program config at values effect
  HasNoReceiver : (method : Name) (target : Option VariableTree) → effect ≡ Sends method target → values ≡ []
      → WrongSort program config at values effect
  IsNoObject : (method : Name) (target : Option VariableTree) (receiver : ValueTree) (arguments : List ValueTree)
      → effect ≡ Sends method target → values ≡ receiver ∷ arguments
      → ((object : ℕ) → receiver ≢ ObjectValue object) → receiver ≢ NullValue
      → WrongSort program config at values effect
  HasNoEntry : (method : Name) (target : Option VariableTree) (object : ℕ) (arguments : List ValueTree)
      → effect ≡ Sends method target → values ≡ ObjectValue object ∷ arguments
      → slice_get config.objects object ≡ None → WrongSort program config at values effect
  HasNoMethod : (method : Name) (target : Option VariableTree) (object : ℕ) (arguments : List ValueTree)
      (cell : ObjectState) → effect ≡ Sends method target → values ≡ ObjectValue object ∷ arguments
      → slice_get config.objects object ≡ Some cell → callable program cell.class method (length arguments) ≡ None
      → WrongSort program config at values effect
  HasNoOwnMethod : (method : Name) (target : Option VariableTree) → effect ≡ CallsOwn method target
      → option_and_then (λ name. callable program name method (length values))
      (class_of (object_at config at.frame.object)) ≡ None → WrongSort program config at values effect
  IsFarCall : (method : Name) (slot : Option ℕ) (target : Option VariableTree) → effect ≡ CallsOther method slot target
      → WrongSort program config at values effect
  IsNoFuture : (slot : Option ℕ) (target : Option VariableTree) → effect ≡ Gets slot target
      → ((future : ℕ) → named_value at.frame.slots slot ≢ Some (FutureValue future))
      → named_value at.frame.slots slot ≢ Some NullValue → WrongSort program config at values effect
  HasNoTask : (slot : Option ℕ) (target : Option VariableTree) (future : ℕ) → effect ≡ Gets slot target
      → named_value at.frame.slots slot ≡ Some (FutureValue future) → slice_get config.tasks future ≡ None
      → WrongSort program config at values effect

-- Why a task that runs has this fault: the evaluation of its statement; the fault of the task whose future it gets; the
-- first part of its guard that is no future; a null receiver, or a null future that it gets; or what is wrong with the
-- values of the statement.
pub data FaultOf (program : ProgramTree) (config : Configuration) (at : Runner) (cause : Fault) : Type 0 where
  Evaluates : (point : Point) → next_point program at.frame ≡ Some point
      → results_of (library_of program) (scope_of config at.frame) (expr_trees_of point.statement)
      (initials_for program (effect_of point.statement)) ≡ OneFails cause → FaultOf program config at cause
  GetsFault : (point : Point) (values : List ValueTree) (slot : Option ℕ) (target : Option VariableTree) (future : ℕ)
      (task : TaskState) → IsRunningAt program config at point values → effect_of point.statement ≡ Gets slot target
      → named_value at.frame.slots slot ≡ Some (FutureValue future) → slice_get config.tasks future ≡ Some task
      → task.outcome ≡ Some (Fails cause) → FaultOf program config at cause
  AwaitsFault : (point : Point) (values : List ValueTree) (names : List (Option ℕ))
      → IsRunningAt program config at point values → effect_of point.statement ≡ Awaits names
      → guard_of config at.frame.slots names ≡ Faulty cause → FaultOf program config at cause
  CallsNull : (point : Point) (arguments : List ValueTree) (method : Name) (target : Option VariableTree)
      → IsRunningAt program config at point (NullValue ∷ arguments) → effect_of point.statement ≡ Sends method target
      → cause ≡ fault.Null → FaultOf program config at cause
  GetsNull : (point : Point) (values : List ValueTree) (slot : Option ℕ) (target : Option VariableTree)
      → IsRunningAt program config at point values → effect_of point.statement ≡ Gets slot target
      → named_value at.frame.slots slot ≡ Some NullValue → cause ≡ fault.Null → FaultOf program config at cause
  HasWrongSort : (point : Point) (values : List ValueTree) (effect : EffectTree)
      → IsRunningAt program config at point values → effect_of point.statement ≡ effect
      → WrongSort program config at values effect → cause ≡ fault.Mistyped → FaultOf program config at cause
