-- A call on an object finds a method of its class, which takes the arguments and gives what the call gives.
--
--   `object_of`                    an object is of the program
--   `have_count`                   there are as many values as types
--   `CanEnter`, `can_enter`        what is known where a frame of a method starts
--   `IsCalledRoutine`, `call_found`    the method that a call finds
use Rattle.std.proofs.Common.{◌≡◌, ◌<◌, ℕ, suc, true, List, [], ◌∷◌, Option, Some, None, length, refl, sym, ap, ◌∙◌}
use Rattle.std.specs.Prelude.{nat_eq}
use Rattle.std.proofs.lemmas.Option.{none-some, option_and_then_some, cond_some}
use Rattle.abs_profile.specs.Accepted.{IsAcceptedProgram}
use Rattle.abs_program.specs.Bodies.{class_entry}
use Rattle.abs_program.specs.ProgramBodies.{BodyAt, entry_of_body}
use Rattle.abs_tree.specs.Syntax.{Name, ProgramTree}
use Rattle.abs_types.specs.OperatorTypes.{unit_type}
use Rattle.abs_types.specs.PlainTypes.{PlainType, PlainClass}
use Rattle.abs_types.specs.Subtyping.{fits}
use Rattle.abs_values.specs.ValueTrees.{ValueTree}
use Rattle.config_state.proofs.BodyLemmas.{method_is_body}
use Rattle.config_state.specs.Bodies.{class_index, method_at}
use Rattle.config_state.specs.Configurations.{ObjectState, Configuration, object_at}
use Rattle.config_state.specs.OfProgram.{IsObjectOf, IsConfigOf}
use Rattle.step_rules.specs.Lookups.{callable, taking}
use Rattle.type_sound.proofs.CallLemmas.{TakesTypes, call_is_found}
use Rattle.type_sound.proofs.EndingLemmas.{begins_or_unit}
use Rattle.type_sound.proofs.SightLemmas.{entry_sees}
use Rattle.type_sound.specs.Fitting.{IsCall}
use Rattle.type_sound.specs.Routines.{Routine, method_routine}
use Rattle.type_sound.specs.Values.{World, AllHave}
use Rattle.type_sound.specs.Visible.{IsVisible}

-- an object of a configuration of the program is of it
pub object_of : (program : ProgramTree) (config : Configuration) → IsConfigOf program config → (object : Option ℕ)
    (cell : ObjectState) → object_at config object ≡ Some cell → IsObjectOf program cell
object_of program config of_program None cell is = absurd (none-some cell is)
object_of program config of_program (Some object) cell is = of_program.objects_are object cell is

-- there are as many values as types
pub have_count : (program : ProgramTree) (world : World) (values : List ValueTree) (types : List PlainType)
    → AllHave program world values types → length types ≡ length values
have_count program world [] [] have = refl
have_count program world [] (type ∷ types) have = absurd have
have_count program world (value ∷ values) [] have = absurd have
have_count program world (value ∷ values) (type ∷ types) have =
    ap suc (have_count program world values types have.1)

-- Where a frame of the routine starts, no slots are visible but those of the parameters, and there is a statement or
-- the result type is `Unit`.
pub record CanEnter (program : ProgramTree) (routine : Routine) : Type 0 where
  pub sees : (first slot : ℕ) → (entry_of_body routine.body).first ≡ Some first → IsVisible program first slot
      → slot < routine.body.params
  pub begins : (entry_of_body routine.body).first ≡ None → routine.result ≡ unit_type

-- so it is with each method
pub can_enter : (program : ProgramTree) → IsAcceptedProgram program → (cell : ObjectState) (method : Name)
    (routine : Routine) → method_routine program cell.class method ≡ Some routine
    → method_at program cell.class method ≡ Some routine.body → CanEnter program routine
can_enter program accepted cell method routine is found = record {
  sees = λ first slot begins seen.
      entry_sees program routine.body first slot (method_is_body program cell.class method routine.body found) begins
      seen;
  begins = begins_or_unit program accepted (Some cell) (Some method) routine is;
}

-- a method that can be called is found
callable_found : (program : ProgramTree) (class method : Name) (count : ℕ) (body : BodyAt)
    → callable program class method count ≡ Some body → method_at program class method ≡ Some body
callable_found program class method count body is =
    option_and_then_some (taking count) (method_at program class method) body is
    (λ found found_is takes. found_is ∙ ap Some (cond_some (nat_eq found.params count) found body takes).1)

-- A call of a method of this class with these arguments finds the method, which takes them and gives this type.
pub record IsCalledRoutine (program : ProgramTree) (world : World) (class method : Name) (arguments : List ValueTree)
    (type : PlainType) : Type 0 where
  pub routine : Routine
  pub is : method_routine program class method ≡ Some routine
  pub found : callable program class method (length arguments) ≡ Some routine.body
  pub enters : CanEnter program routine
  pub given : List PlainType
  pub takes : TakesTypes program routine given
  pub have : AllHave program world arguments given
  pub count : length arguments ≡ routine.body.params
  pub result_is : routine.result ≡ type

-- a call on an object of the program finds its method
pub call_found : (program : ProgramTree) (world : World) → IsAcceptedProgram program → (cell : ObjectState)
    (arguments : List ValueTree) (receiver : PlainType) (method : Name) (type : PlainType) → IsObjectOf program cell
    → fits program.source.declarations (PlainClass cell.class) receiver ≡ true
    → IsCall program world arguments receiver method type
    → IsCalledRoutine program world cell.class method arguments type
call_found program world accepted cell arguments receiver method type of fit call =
    let counted = have_count program world arguments call.given call.have in
    option_and_then_some (class_entry program.source.declarations) (class_index program cell.class) of.class
    of.class_there
    (λ index index_is entry.
    let own = call_is_found program accepted cell.class index receiver method call.given type index_is fit call.gives in
    record {
      routine = own.0;
      is = own.1;
      found = ap (callable program cell.class method) (sym counted) ∙ own.2;
      given = call.given;
      takes = own.3;
      have = call.have;
      enters = can_enter program accepted cell method own.0 own.1
          (callable_found program cell.class method (length call.given) own.0.body own.2);
      count = sym counted ∙ own.3.count;
      result_is = own.4;
    })
