-- Right sides: without an offence they have a type, by the relation and by the function.
--
--   `TypedSide`, `typed_side`          a right side without an offence has a type
--   `side_whole`                       the function gives the type of the relation
--   `unoffending_side`                 a right side that has a type has no offence
--   `future_found`, `unoffending_future`  the same of what is to have the type of a future
--   `by_future`                        it is a parameter or a local
--   `FitsSide`, `side_fits`            a right side whose type does not offend fits what is asked for
--   `unoffending_fitting`              a type that fits does not offend
use Rattle.std.proofs.Common.{◌≡◌, ℕ, true, List, [], ◌++◌, Option, Some, None, option_map, refl, sym, ap, ◌∙◌, subst}
use Rattle.std.specs.Prelude.{slice_get, is_some, is_none, option_and_then, if◌then◌else◌}
use Rattle.std.proofs.lemmas.Option.{none-some, same_Some, option_and_then_some, cond_some}
use Rattle.abs_tree.specs.Syntax.{Name, AtSlot, DeclTree, ExprTree, OwnCallOf, VariableOf, ExprTrees, NoExpr, NextExpr, SideTree, NewOf, ValueOf, SendOf, GetOf, CallOf}
use Rattle.abs_tree.specs.SyntaxCounts.{count_exprs}
use Rattle.abs_tree.specs.declared.place.Place.{Place}
use Rattle.abs_tree.specs.declared.refusal.Code.TheVariants.{T1, T2}
use Rattle.abs_tree.specs.declared.syntax.statement.Mode.{Mode}
use Rattle.abs_types.proofs.AgreementLemmas.{typed_whole, all_typed_whole}
use Rattle.abs_types.proofs.AskedLemmas.{typed_expr, unoffending_expr, typed_exprs, unoffending_exprs}
use Rattle.abs_types.proofs.CallLemmas.{types_counted, typed_call, call_reported, unoffending_call, own_found, called_reported, own_there}
use Rattle.abs_types.proofs.OffenceLemmas.{offence_if_unoffending, unoffending_offence_if, untyped_unoffending, unoffending_if_typed, unfit_unoffending, unoffending_if_fit}
use Rattle.abs_types.proofs.SpineLemmas.{all_fit_found, all_fit_whole}
use Rattle.abs_types.proofs.SubtypingLemmas.{fits_found, fits_whole}
use Rattle.abs_types.specs.Applications.{AllFit}
use Rattle.abs_types.specs.Arguments.{all_fit}
use Rattle.abs_types.specs.ExpressionOffences.{this_lacks_method, expr_offences, exprs_offences}
use Rattle.abs_types.specs.HasType.{HasType}
use Rattle.abs_types.specs.HasType.HasType.{slot as has_slot}
use Rattle.abs_types.specs.IsTyped.{SideHasType}
use Rattle.abs_types.specs.IsTyped.SideHasType.{new_object, value, own_call, sent, called, got}
use Rattle.abs_tree.specs.Offences.{offence_if}
use Rattle.abs_types.specs.Mistyped.{mistyped_if, unfit}
use Rattle.abs_types.specs.PlainTypes.{PlainType, PlainFut, PlainClass}
use Rattle.abs_types.specs.SideTypes.{class_takes, new_type, value_type, future_type, whole_type, side_type, can_be_called, whole_offences, side_offences}
use Rattle.abs_types.specs.StatementOffences.{unfit_place, unfit_side}
use Rattle.abs_types.specs.Subtyping.{Fits}
use Rattle.abs_types.specs.Typing.{Frame, type_in, types_in}
use Rattle.list_facts.proofs.AppendLemmas.{both_empty, empty_both}
use Rattle.list_facts.proofs.OptionLemmas.{is_none-found, is_none-reported}

-- A new object has a type: the arguments fit what the class takes.
record TypedObject (declarations : List DeclTree) (class : Name) (given : List PlainType) (type : PlainType) : Type 0
  where
    takes : List PlainType
    known : class_takes declarations class ≡ Some takes
    fit : AllFit declarations given takes
    class_is : PlainClass class ≡ type

-- so it is, where the function gives the type
new_found : (declarations : List DeclTree) (class : Name) (given : List PlainType) (type : PlainType)
    → new_type declarations class given ≡ Some type → TypedObject declarations class given type
new_found declarations class given type is =
    option_and_then_some
    (λ (takes : List PlainType). if all_fit declarations given takes then Some (PlainClass class) else None)
    (class_takes declarations class) type is
    (λ takes known reported.
    let both = cond_some (all_fit declarations given takes) (PlainClass class) type reported in
    record { takes = takes; known = known; fit = all_fit_found declarations given takes both.0; class_is = both.1 })

-- the function gives it, where the arguments fit
new_whole : (declarations : List DeclTree) (class : Name) (given takes : List PlainType)
    → class_takes declarations class ≡ Some takes → AllFit declarations given takes
    → new_type declarations class given ≡ Some (PlainClass class)
new_whole declarations class given takes known fit =
    rw (known, all_fit_whole declarations given takes fit) refl

-- the type of the value of a future, from its slot
slot_found : (known : Option (Option PlainType)) (type : PlainType)
    → value_type (option_and_then (λ found. found) known) ≡ Some type → known ≡ Some (Some (PlainFut type))
slot_found (Some (Some (PlainFut result))) type is =
    ap (λ (found : PlainType). Some (Some (PlainFut found))) (same_Some result type is)
slot_found (Some (Some other)) type is = absurd (none-some type is)
slot_found (Some None) type is = absurd (none-some type is)
slot_found None type is = absurd (none-some type is)

-- what is true of a parameter and a local of the type of a future is true of each expression of such a type
pub by_future : (goal : ExprTree → Type 0) (frame : Frame) (future : ExprTree) (type : PlainType)
    → future_type frame future ≡ Some type
    → ((place : Place) (slot : ℕ) → slice_get frame.slots slot ≡ Some (Some (PlainFut type))
    → goal (VariableOf place (AtSlot slot)))
    → goal future
by_future goal frame (VariableOf place (AtSlot slot)) type is of_slot =
    of_slot place slot (slot_found (slice_get frame.slots slot) type is)
by_future goal frame (VariableOf place other) type is of_slot = absurd (none-some type is)
by_future goal frame other type is of_slot = absurd (none-some type is)

-- a parameter or a local of the type of a future has that type
future_whole : (frame : Frame) (place : Place) (slot : ℕ) (type : PlainType)
    → slice_get frame.slots slot ≡ Some (Some (PlainFut type))
    → future_type frame (VariableOf place (AtSlot slot)) ≡ Some type
future_whole frame place slot type is =
    ap (λ (known : Option (Option PlainType)). value_type (option_and_then (λ found. found) known)) is

-- an expression that is to have the type of a future has it, if it does not offend
pub future_found : (declarations : List DeclTree) (frame : Frame) (future : ExprTree) (place : Place)
    → expr_offences declarations frame [] future ++ mistyped_if (is_none (future_type frame future)) place ≡ []
    → (type : PlainType) × (future_type frame future ≡ Some type)
future_found declarations frame future place none =
    let parts = both_empty (expr_offences declarations frame [] future) _ none in
    is_none-found (future_type frame future)
    (offence_if_unoffending (is_none (future_type frame future)) T1 place parts.1)

-- a parameter or a local that has it does not offend
pub unoffending_future : (declarations : List DeclTree) (frame : Frame) (variable_place : Place) (slot : ℕ)
    (type : PlainType) (place : Place) → slice_get frame.slots slot ≡ Some (Some (PlainFut type))
    → expr_offences declarations frame [] (VariableOf variable_place (AtSlot slot))
    ++ mistyped_if (is_none (future_type frame (VariableOf variable_place (AtSlot slot)))) place ≡ []
unoffending_future declarations frame variable_place slot type place is =
    let future = VariableOf variable_place (AtSlot slot) in
    empty_both (expr_offences declarations frame [] future) _
    (unoffending_expr {declarations = declarations} {frame = frame}
    (has_slot [] variable_place slot (PlainFut type) is))
    (unoffending_offence_if (is_none (future_type frame future)) T1 place
    (is_none-reported (future_type frame future) type (future_whole frame variable_place slot type is)))

-- A right side has a type, by the relation and by the function.
pub record TypedSide (declarations : List DeclTree) (frame : Frame) (side : SideTree) : Type 0 where
  pub type : PlainType
  pub has_type : SideHasType declarations frame side type
  pub found : side_type declarations frame side ≡ Some type

-- a new object has a type, if it does not offend
typed_object : (declarations : List DeclTree) (frame : Frame) (place : Place) (mode : Mode) (class_place : Place)
    (class : Name) (arguments : ExprTrees)
    → side_offences declarations frame (NewOf place mode class_place class arguments) ≡ []
    → TypedSide declarations frame (NewOf place mode class_place class arguments)
typed_object declarations frame place mode class_place class arguments none =
    let parts = both_empty (exprs_offences declarations frame [] arguments) _ none in
    let given = typed_exprs declarations frame arguments parts.0 in
    let reported = untyped_unoffending true (new_type declarations class given.types) place refl
    (rw given.found at parts.1) in
    let new = new_found declarations class given.types reported.0 reported.1 in
    record {
      type = PlainClass class;
      has_type = new_object place class_place mode class arguments given.types new.takes given.have_types
          new.known new.fit;
      found = rw given.found (reported.1 ∙ ap Some (sym new.class_is));
    }

-- a call on `this` has a type, if it does not offend
typed_own_call : (declarations : List DeclTree) (frame : Frame) (place call_place : Place) (method : Name)
    (arguments : ExprTrees)
    → side_offences declarations frame (ValueOf place (OwnCallOf call_place method arguments)) ≡ []
    → TypedSide declarations frame (ValueOf place (OwnCallOf call_place method arguments))
typed_own_call declarations frame place call_place method arguments none =
    let count = count_exprs arguments in
    let all = both_empty (exprs_offences declarations frame [] arguments
    ++ offence_if (this_lacks_method declarations frame method count) T2 call_place) _ none in
    let parts = both_empty (exprs_offences declarations frame [] arguments) _ all.0 in
    let given = typed_exprs declarations frame arguments parts.0 in
    let reported = own_found declarations frame.this method count given.types call_place given.found parts.1 all.1 in
    record {
      type = reported.type;
      has_type = own_call place call_place method reported.class arguments given.types reported.type reported.this_is
          given.have_types reported.call_is;
      found = called_reported declarations (PlainClass reported.class) method given.types reported.type
          (ap (option_map PlainClass) reported.this_is) given.found reported.call_is;
    }

-- a right side without an offence has a type
pub typed_side : (declarations : List DeclTree) (frame : Frame) (side : SideTree)
    → side_offences declarations frame side ≡ [] → TypedSide declarations frame side
typed_side declarations frame (NewOf place mode class_place class arguments) none =
    typed_object declarations frame place mode class_place class arguments none
typed_side declarations frame (ValueOf place (OwnCallOf call_place method arguments)) none =
    typed_own_call declarations frame place call_place method arguments none
typed_side declarations frame (ValueOf place expr_tree) none =
    let typed = typed_expr declarations frame expr_tree none in
    record { type = typed.type; has_type = value place expr_tree typed.type typed.has_type; found = typed.found }
typed_side declarations frame (SendOf place method NoExpr) none = cc
typed_side declarations frame (SendOf place method (NextExpr receiver arguments)) none =
    let call = typed_call declarations frame place method receiver arguments none in
    record {
      type = PlainFut call.type;
      has_type = sent place method receiver arguments call.object call.given call.type call.has_type call.have_types
          call.call_is;
      found = ap (option_map PlainFut) call.found;
    }
typed_side declarations frame (CallOf place method NoExpr hidden) none = cc
typed_side declarations frame (CallOf place method (NextExpr receiver arguments) hidden) none =
    let call = typed_call declarations frame place method receiver arguments none in
    record {
      type = call.type;
      has_type = called place method receiver arguments hidden call.object call.given call.type call.has_type
          call.have_types call.call_is;
      found = call.found;
    }
typed_side declarations frame (GetOf place get_place future) none =
    let reported = future_found declarations frame future place none in
    record {
      type = reported.0;
      has_type = by_future (λ (held : ExprTree). SideHasType declarations frame (GetOf place get_place held) reported.0)
          frame future reported.0 reported.1 (λ variable_place slot is. got place get_place variable_place slot reported.0 is);
      found = reported.1;
    }

-- an expression that has a type is no call on `this`, so as a whole right side it has the same type and offences
same_whole : {declarations : List DeclTree} {frame : Frame} {bound : List PlainType} {expr_tree : ExprTree}
    {type : PlainType} → HasType declarations frame bound expr_tree type
    → (whole_type declarations frame expr_tree ≡ type_in declarations frame [] expr_tree)
    × (whole_offences declarations frame expr_tree ≡ expr_offences declarations frame [] expr_tree)
same_whole {expr_tree = OwnCallOf place method arguments} has_type = elim has_type [ ]
same_whole {expr_tree = expr_tree} has_type = (refl, refl)

-- the function gives the type of the relation
pub side_whole : {declarations : List DeclTree} {frame : Frame} {side : SideTree} {type : PlainType}
    → SideHasType declarations frame side type → side_type declarations frame side ≡ Some type
side_whole {declarations} (new_object place class_place mode class arguments given takes have_types known fit) =
    rw (all_typed_whole have_types) (new_whole declarations class given takes known fit)
side_whole (value place expr_tree type has_type) = (same_whole has_type).0 ∙ typed_whole has_type
side_whole {declarations} (own_call place call_place method class arguments given type this_is have_types is) =
    called_reported declarations (PlainClass class) method given type (ap (option_map PlainClass) this_is)
    (all_typed_whole have_types) is
side_whole (sent place method receiver arguments object given type has_type have_types is) =
    ap (option_map PlainFut) (call_reported method has_type have_types is)
side_whole (called place method receiver arguments hidden object given type has_type have_types is) =
    call_reported method has_type have_types is
side_whole {frame = frame} (got place get_place variable_place slot type is) =
    future_whole frame variable_place slot type is

-- a right side that has a type has no offence
pub unoffending_side : {declarations : List DeclTree} {frame : Frame} {side : SideTree} {type : PlainType}
    → SideHasType declarations frame side type → side_offences declarations frame side ≡ []
unoffending_side {declarations} {frame}
    (new_object place class_place mode class arguments given takes have_types known fit) =
    empty_both (exprs_offences declarations frame [] arguments) _ (unoffending_exprs have_types)
    (unoffending_if_typed (is_some (types_in declarations frame [] arguments)) _ place (PlainClass class)
    (side_whole (new_object place class_place mode class arguments given takes have_types known fit)))
unoffending_side (value place expr_tree type has_type) = (same_whole has_type).1 ∙ unoffending_expr has_type
unoffending_side {declarations} {frame} (own_call place call_place method class arguments given type this_is have_types is) =
    empty_both (exprs_offences declarations frame [] arguments
    ++ offence_if (this_lacks_method declarations frame method (count_exprs arguments)) T2 call_place) _
    (empty_both (exprs_offences declarations frame [] arguments) _ (unoffending_exprs have_types)
    (own_there declarations class method (count_exprs arguments) given type call_place this_is
    (types_counted have_types) is))
    (unoffending_if_typed (can_be_called declarations (option_map PlainClass frame.this) method (count_exprs arguments)
    (types_in declarations frame [] arguments)) _ call_place type
    (side_whole (own_call place call_place method class arguments given type this_is have_types is)))
unoffending_side (sent place method receiver arguments object given type has_type have_types is) =
    unoffending_call place method has_type have_types is
unoffending_side (called place method receiver arguments hidden object given type has_type have_types is) =
    unoffending_call place method has_type have_types is
unoffending_side {declarations} {frame} (got place get_place variable_place slot type is) =
    unoffending_future declarations frame variable_place slot type place is

-- A right side has a type that fits the type that is asked for.
pub record FitsSide (declarations : List DeclTree) (frame : Frame) (side : SideTree) (asked : PlainType) : Type 0 where
  pub given : PlainType
  pub has_type : SideHasType declarations frame side given
  pub fits_it : Fits declarations given asked

-- it has one, if neither the right side nor its type offends
pub side_fits : (declarations : List DeclTree) (frame : Frame) (side : SideTree) {asked : Option PlainType}
    (type : PlainType) → asked ≡ Some type → side_offences declarations frame side ≡ []
    → unfit_side declarations frame side asked ≡ [] → FitsSide declarations frame side type
side_fits declarations frame side type asked_is none unfit_none =
    let typed = typed_side declarations frame side none in
    let reported : unfit_side declarations frame side (Some type) ≡ [] = rw asked_is at unfit_none in
    let unoffending = subst (λ (given : Option PlainType). unfit declarations given type (unfit_place side) ≡ []) typed.found
    reported in
    record {
      given = typed.type;
      has_type = typed.has_type;
      fits_it = fits_found declarations typed.type type
          (unfit_unoffending declarations typed.type type (unfit_place side) unoffending);
    }

-- a type that fits does not offend
pub unoffending_fitting : {declarations : List DeclTree} {frame : Frame} {side : SideTree} {asked : Option PlainType}
    {given : PlainType} (type : PlainType) → asked ≡ Some type → SideHasType declarations frame side given
    → Fits declarations given type → unfit_side declarations frame side asked ≡ []
unoffending_fitting {declarations} {frame} {side} {given = given} type asked_is has_type fit =
    rw (asked_is, side_whole has_type) (unoffending_if_fit declarations given type (unfit_place side) (fits_whole fit))
