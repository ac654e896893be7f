-- The results of right sides fit.
--
--   `one_value`                values that have one type are one value of it
--   `SideFits`, `side_fits`    a right side that is typed and in the profile has results that fit
use Rattle.std.proofs.Common.{◌≡◌, ℕ, List, [], ◌∷◌, Option, Some, refl, sym, ◌∙◌, subst}
use Rattle.abs_profile.specs.Accepted.{IsAcceptedProgram}
use Rattle.abs_profile.specs.Profile.{expr_offences, exprs_offences, mode_offences, receiver_offences, side_offences}
use Rattle.abs_program.specs.Instructions.{Stores, Sends, CallsOwn, Gets, one_expr, side_effect, side_expr_trees}
use Rattle.abs_tree.specs.Syntax.{Name, VariableTree, DeclTree, ExprTree, ThisOf, OwnCallOf, ExprTrees, NoExpr, NextExpr, SideTree, ValueOf, CallOf, ProgramTree}
use Rattle.abs_tree.specs.declared.place.Place.{Place}
use Rattle.abs_types.specs.HasType.{HasType, HaveTypes}
use Rattle.abs_types.specs.HasType.HasType.{this as has_this}
use Rattle.abs_types.specs.HasType.HaveTypes.{no_expr, next_expr}
use Rattle.abs_types.specs.IsTyped.{SideHasType}
use Rattle.abs_types.specs.IsTyped.SideHasType.{new_object, value as whole_value, own_call, sent, called, got}
use Rattle.abs_types.specs.Methods.{call_type}
use Rattle.abs_types.specs.PlainTypes.{PlainType, PlainFut, PlainClass}
use Rattle.abs_types.specs.Typing.{Frame}
use Rattle.abs_values.specs.Evaluation.{results_of}
use Rattle.abs_values.specs.Scopes.{library_of}
use Rattle.abs_values.specs.ValueTrees.{ValueTree}
use Rattle.config_state.specs.Configurations.{FrameState, Configuration}
use Rattle.list_facts.proofs.AppendLemmas.{both_empty, empty_both}
use Rattle.step_rules.specs.Inputs.{scope_of, initials_for}
use Rattle.type_sound.proofs.GuardLemmas.{future_held}
use Rattle.type_sound.proofs.ResultsFitLemmas.{ResultsFit, AtStatement, own_fit, made_fit}
use Rattle.type_sound.specs.Fitting.{TargetTakes, IsOneValue, IsSent}
use Rattle.type_sound.specs.Routines.{Routine}
use Rattle.type_sound.specs.Values.{World, AllHave}
use Rattle.type_sound.specs.WellTyped.{world_of}

-- values that have one type are one value of it
pub one_value : (program : ProgramTree) (world : World) (values : List ValueTree) (type : PlainType)
    → AllHave program world values (type ∷ []) → IsOneValue program world values type
one_value program world [] type have = absurd have
one_value program world (first ∷ []) type have = record { value = first; values_are = refl; has = have.0 }
one_value program world (first ∷ second ∷ others) type have = absurd have.1

-- the values of a call by "!" are its receiver and its arguments
sent_fits : (program : ProgramTree) (world : World) (routine : Routine) (values : List ValueTree) (method : Name)
    (target : Option VariableTree) (receiver : PlainType) (given : List PlainType) (type : PlainType)
    → call_type program.source.declarations receiver method given ≡ Some type
    → TargetTakes program routine target (PlainFut type) → AllHave program world values (receiver ∷ given)
    → IsSent program world routine values method target
sent_fits program world routine [] method target receiver given type gives takes have = absurd have
sent_fits program world routine (object ∷ arguments) method target receiver given type gives takes have = record {
  receiver = receiver;
  object = object;
  arguments = arguments;
  values_are = refl;
  has = have.0;
  type = type;
  call = record { given = given; have = have.1; gives = gives };
  takes = takes;
}

-- an expression that has a type is no call on `this`: its value is stored
pub stores_value : (declarations : List DeclTree) (frame : Frame) (place : Place) (expr_tree : ExprTree) (type : PlainType)
    (target : Option VariableTree) → HasType declarations frame [] expr_tree type
    → (side_expr_trees (ValueOf place expr_tree) ≡ one_expr expr_tree)
    × (side_effect (ValueOf place expr_tree) target ≡ Stores target)
stores_value declarations frame place (OwnCallOf at method arguments) type target has = elim has [ ]
stores_value declarations frame place expr_tree type target has = (refl, refl)

-- the receiver of a call by "." that is in the profile is `this`
pub receiver_is_this : (place : Place) (receiver : ExprTree) (arguments : ExprTrees)
    → receiver_offences place (NextExpr receiver arguments) ≡ [] → (at : Place) × (receiver ≡ ThisOf at)
receiver_is_this place (ThisOf at) arguments none = (at, refl)
receiver_is_this place receiver arguments none = absurd cc

-- what is known of `this` by its type
this_found : (declarations : List DeclTree) (frame : Frame) (bound : List PlainType) (at : Place) (type : PlainType)
    → HasType declarations frame bound (ThisOf at) type
    → (class : Name) × (type ≡ PlainClass class) × (frame.this ≡ Some class)
this_found declarations frame bound at type (has_this around place class is) = (class, refl, is)

-- the results of a right side whose value goes to a target fit
abbrev pub SideFits : ProgramTree → Configuration → Routine → FrameState → Option VariableTree → SideTree → Type 0
SideFits program config routine own target side =
    ResultsFit program (world_of program config) routine own (side_effect side target)
    (results_of (library_of program) (scope_of config own) (side_expr_trees side)
    (initials_for program (side_effect side target)))

module _ (program : ProgramTree) (config : Configuration) (accepted : IsAcceptedProgram program) (routine : Routine)
    (own : FrameState) (frame : Frame) (known : AtStatement program config routine own frame)
    (target : Option VariableTree) where
  -- a call on `this`
  own_call_fits : (class : Name) (method : Name) (arguments : ExprTrees) (given : List PlainType) (type : PlainType)
      → exprs_offences arguments ≡ [] → frame.this ≡ Some class
      → HaveTypes program.source.declarations frame [] arguments given
      → call_type program.source.declarations (PlainClass class) method given ≡ Some type
      → TargetTakes program routine target type
      → ResultsFit program (world_of program config) routine own (CallsOwn method target)
      (results_of (library_of program) (scope_of config own) arguments NoExpr)
  own_call_fits class method arguments given type none this_is have gives takes =
      own_fit program config accepted routine own frame known (CallsOwn method target) arguments given none have
      (λ values have_all. record {
        class = class;
        this_is = sym known.this ∙ this_is;
        type = type;
        call = record { given = given; have = have_all; gives = gives };
        takes = takes;
      })

  -- a call by "." is one on `this`
  called_fits : (place : Place) (method : Name) (receiver : ExprTree) (arguments : ExprTrees) (hidden : Option ℕ)
      (object : PlainType) (given : List PlainType) (type : PlainType)
      → side_offences (CallOf place method (NextExpr receiver arguments) hidden) ≡ []
      → HasType program.source.declarations frame [] receiver object
      → HaveTypes program.source.declarations frame [] arguments given
      → call_type program.source.declarations object method given ≡ Some type
      → TargetTakes program routine target type
      → SideFits program config routine own target (CallOf place method (NextExpr receiver arguments) hidden)
  called_fits place method receiver arguments hidden object given type none has have gives takes =
      let declarations = program.source.declarations in
      let parts = both_empty (receiver_offences place (NextExpr receiver arguments))
      (exprs_offences (NextExpr receiver arguments)) none in
      let others = both_empty (expr_offences receiver) (exprs_offences arguments) parts.1 in
      let is = receiver_is_this place receiver arguments parts.0 in
      let this_is = this_found declarations frame [] is.0 object
      (subst (λ (one : ExprTree). HasType declarations frame [] one object) is.1 has) in
      subst (λ (one : ExprTree).
      SideFits program config routine own target (CallOf place method (NextExpr one arguments) hidden)) (sym is.1)
      (own_call_fits this_is.0 method arguments given type others.1 this_is.2 have
      (subst (λ (one : PlainType). call_type declarations one method given ≡ Some type) this_is.1 gives) takes)

  -- an expression
  value_fits : (place : Place) (expr_tree : ExprTree) (type : PlainType) → expr_offences expr_tree ≡ []
      → HasType program.source.declarations frame [] expr_tree type → TargetTakes program routine target type
      → SideFits program config routine own target (ValueOf place expr_tree)
  value_fits place expr_tree type none has takes =
      let world = world_of program config in
      let forms = stores_value program.source.declarations frame place expr_tree type target has in
      let fit : ResultsFit program world routine own (Stores target)
      (results_of (library_of program) (scope_of config own) (one_expr expr_tree) NoExpr) =
      own_fit program config accepted routine own frame known (Stores target) (one_expr expr_tree) (type ∷ [])
      (empty_both (expr_offences expr_tree) [] none refl)
      (next_expr [] expr_tree NoExpr type [] has (no_expr []))
      (λ values have. record { type = type; one = one_value program world values type have; takes = takes }) in
      rw (forms.0, forms.1) fit

  -- a right side that is typed and in the profile has results that fit
  pub side_fits : (side : SideTree) (given : PlainType) → side_offences side ≡ []
      → SideHasType program.source.declarations frame side given → TargetTakes program routine target given
      → SideFits program config routine own target side
  side_fits side type none (new_object place class_place mode class arguments given taken have taken_are fit) takes =
      made_fit program config accepted routine own frame known mode class target arguments given taken
      (both_empty (mode_offences mode) (exprs_offences arguments) none).1 have taken_are fit takes
  side_fits side type none (whole_value place expr_tree given has) takes =
      value_fits place expr_tree given none has takes
  side_fits side type none (own_call place call_place method class arguments given result this_is have gives) takes =
      own_call_fits class method arguments given result none this_is have gives takes
  side_fits side type none (sent place method receiver arguments object given result has have gives) takes =
      own_fit program config accepted routine own frame known (Sends method target) (NextExpr receiver arguments)
      (object ∷ given) none (next_expr [] receiver arguments object given has have)
      (λ values. sent_fits program (world_of program config) routine values method target object given result gives
      takes)
  side_fits side type none (called place method receiver arguments hidden object given result has have gives) takes =
      called_fits place method receiver arguments hidden object given result none has have gives takes
  side_fits side type none (got place get_place variable_place slot value_type is_future) takes =
      own_fit program config accepted routine own frame known (Gets (Some slot) target) NoExpr [] refl (no_expr [])
      (λ values have. record {
        type = value_type;
        future = future_held program config routine own frame known slot value_type is_future;
        takes = takes;
      })
