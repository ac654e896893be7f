-- Calls that are whole right sides: without an offence they have a type, by the relations and by the function.
--
--   `types_counted`                there are as many types as expressions
--   `TypedCall`, `typed_call`      a call by its receiver and its arguments has a type, if it does not offend
--   `called_reported`, `call_reported`  the function gives it
--   `unoffending_call`             a call that has a type does not offend
--   `OwnCall`, `own_found`         a call on `this` has a class and a type, if it does not offend
--   `own_there`                    one that has them does not lack its method
use Rattle.std.proofs.Common.{◌≡◌, ℕ, List, [], ◌∷◌, ◌++◌, length, Option, Some, None, option_map, refl, ap, subst, nat_eq, arith}
use Rattle.std.specs.Prelude.{true, not, ◌||◌, is_some}
use Rattle.std.proofs.Math.Dec.{eqb-suc-zero}
use Rattle.std.proofs.lemmas.Bool.{not-false, not_from_true}
use Rattle.std.proofs.lemmas.Option.{none-some}
use Rattle.abs_tree.specs.Syntax.{Name, DeclTree, ExprTree, ExprTrees, NextExpr}
use Rattle.abs_tree.specs.SyntaxCounts.{count_exprs}
use Rattle.abs_tree.specs.declared.place.Place.{Place}
use Rattle.abs_tree.specs.declared.refusal.Code.TheVariants.{T2}
use Rattle.abs_types.proofs.AgreementLemmas.{typed_whole, all_typed_whole}
use Rattle.abs_types.proofs.AskedLemmas.{typed_expr, unoffending_expr, typed_exprs, unoffending_exprs}
use Rattle.abs_types.proofs.OffenceLemmas.{offence_if_unoffending, unoffending_offence_if, untyped_unoffending, unoffending_if_typed}
use Rattle.abs_types.specs.ExpressionOffences.{lacks_method, expr_offences, exprs_offences}
use Rattle.abs_types.specs.HasType.{HasType, HaveTypes}
use Rattle.abs_types.specs.HasType.HaveTypes.{no_expr, next_expr}
use Rattle.abs_types.specs.Methods.{MethodType, methods_named, has_method, first_taking, call_type}
use Rattle.abs_tree.specs.Offences.{offence_if}
use Rattle.abs_types.specs.Mistyped.{untyped}
use Rattle.abs_types.specs.PlainTypes.{PlainType, PlainClass}
use Rattle.abs_types.specs.SideTypes.{called_type, type_by_operands, can_be_called, offences_by_operands}
use Rattle.abs_types.specs.Typing.{Frame, type_in, types_in}
use Rattle.list_facts.proofs.AppendLemmas.{both_empty, empty_both}

-- there are as many types as expressions
pub types_counted : {declarations : List DeclTree} {frame : Frame} {bound : List PlainType} {expr_trees : ExprTrees}
    {types : List PlainType} → HaveTypes declarations frame bound expr_trees types → length types ≡ count_exprs expr_trees
types_counted (no_expr bound) = refl
types_counted (next_expr bound first others type types has_type have_types) =
    let counted = types_counted have_types in omega (arith, counted)

-- one of several methods took the arguments, so there is one
first_there : (declarations : List DeclTree) (given : List PlainType) (methods : List MethodType) (type : PlainType)
    → first_taking declarations given methods ≡ Some type → not (nat_eq (length methods) 0) ≡ true
first_there declarations given [] type is = absurd (none-some type is)
first_there declarations given (first ∷ others) type is = ap not (eqb-suc-zero (length others))

-- so a call that has a type has a method
method_there : (declarations : List DeclTree) (object : PlainType) (method : Name) (given : List PlainType)
    (type : PlainType) → call_type declarations object method given ≡ Some type
    → has_method declarations object method (length given) ≡ true
unfolding has_method call_type
method_there declarations object method given type =
    first_there declarations given (methods_named declarations object method (length given)) type

-- a call whose receiver and arguments have types has the type of the method
pub called_reported : (declarations : List DeclTree) {receiver : Option PlainType} {arguments : Option (List PlainType)}
    (object : PlainType) (method : Name) (given : List PlainType) (type : PlainType)
    → receiver ≡ Some object → arguments ≡ Some given → call_type declarations object method given ≡ Some type
    → called_type declarations receiver method arguments ≡ Some type
called_reported declarations object method given type receiver_is arguments_are is = rw (receiver_is, arguments_are) is

-- there is a method, if a call does not offend by lacking it, and then the call has a type, if it does not offend
call_found : (declarations : List DeclTree) {receiver : Option PlainType} {arguments : Option (List PlainType)}
    (object : PlainType) (method : Name) (count : ℕ) (given : List PlainType) (place : Place)
    → receiver ≡ Some object → arguments ≡ Some given
    → offence_if (lacks_method declarations receiver method count) T2 place ≡ []
    → untyped (can_be_called declarations receiver method count arguments)
    (called_type declarations receiver method arguments) place ≡ []
    → (type : PlainType) × (call_type declarations object method given ≡ Some type)
call_found declarations object method count given place receiver_is arguments_are there unoffending =
    let has = has_method declarations object method count in
    let reported = not-false has (offence_if_unoffending (not has) T2 place (rw receiver_is at there)) in
    untyped_unoffending has (call_type declarations object method given) place reported
    (rw (receiver_is, arguments_are) at unoffending)

-- a call that has a type does not lack its method
call_there : (declarations : List DeclTree) {receiver : Option PlainType} (object : PlainType) (method : Name)
    (count : ℕ) (given : List PlainType) (type : PlainType) (place : Place) → receiver ≡ Some object
    → length given ≡ count → call_type declarations object method given ≡ Some type
    → offence_if (lacks_method declarations receiver method count) T2 place ≡ []
call_there declarations object method count given type place receiver_is counted is =
    let has = has_method declarations object method count in
    let there : has ≡ true = subst (λ (n : ℕ). has_method declarations object method n ≡ true) counted
    (method_there declarations object method given type is) in
    rw receiver_is (unoffending_offence_if (not has) T2 place (not_from_true has there))

-- A call by its receiver and its arguments has a type, by the relations and by the function.
pub record TypedCall (declarations : List DeclTree) (frame : Frame) (method : Name) (receiver : ExprTree)
    (arguments : ExprTrees) : Type 0 where
  pub object : PlainType
  pub given : List PlainType
  pub type : PlainType
  pub has_type : HasType declarations frame [] receiver object
  pub have_types : HaveTypes declarations frame [] arguments given
  pub call_is : call_type declarations object method given ≡ Some type
  pub found : type_by_operands declarations frame method (NextExpr receiver arguments) ≡ Some type

-- it has one, if it does not offend
pub typed_call : (declarations : List DeclTree) (frame : Frame) (place : Place) (method : Name) (receiver : ExprTree)
    (arguments : ExprTrees) → offences_by_operands declarations frame place method (NextExpr receiver arguments) ≡ []
    → TypedCall declarations frame method receiver arguments
typed_call declarations frame place method receiver arguments none =
    let count = count_exprs arguments in
    let all = both_empty (expr_offences declarations frame [] receiver
    ++ exprs_offences declarations frame [] arguments) _ none in
    let parts = both_empty (expr_offences declarations frame [] receiver) _ all.0 in
    let object = typed_expr declarations frame receiver parts.0 in
    let given = typed_exprs declarations frame arguments parts.1 in
    let own = both_empty (offence_if (lacks_method declarations (type_in declarations frame [] receiver) method count)
    T2 place) _ all.1 in
    let reported = call_found declarations object.type method count given.types place object.found given.found own.0
    own.1 in
    record {
      object = object.type;
      given = given.types;
      type = reported.0;
      has_type = object.has_type;
      have_types = given.have_types;
      call_is = reported.1;
      found = called_reported declarations object.type method given.types reported.0 object.found given.found reported.1;
    }

-- the function gives it
pub call_reported : {declarations : List DeclTree} {frame : Frame} {receiver : ExprTree} {arguments : ExprTrees}
    {object : PlainType} {given : List PlainType} {type : PlainType} (method : Name)
    → HasType declarations frame [] receiver object → HaveTypes declarations frame [] arguments given
    → call_type declarations object method given ≡ Some type
    → type_by_operands declarations frame method (NextExpr receiver arguments) ≡ Some type
call_reported {declarations} {object = object} {given} {type} method has_type have_types is =
    called_reported declarations object method given type (typed_whole has_type) (all_typed_whole have_types) is

-- a call that has a type does not offend
pub unoffending_call : {declarations : List DeclTree} {frame : Frame} {receiver : ExprTree} {arguments : ExprTrees}
    {object : PlainType} {given : List PlainType} {type : PlainType} (place : Place) (method : Name)
    → HasType declarations frame [] receiver object → HaveTypes declarations frame [] arguments given
    → call_type declarations object method given ≡ Some type
    → offences_by_operands declarations frame place method (NextExpr receiver arguments) ≡ []
unoffending_call {declarations} {frame} {receiver} {arguments} {object} {given} {type} place method has_type have_types is =
    let count = count_exprs arguments in
    let receiver_type = type_in declarations frame [] receiver in
    empty_both (expr_offences declarations frame [] receiver ++ exprs_offences declarations frame [] arguments) _
    (empty_both (expr_offences declarations frame [] receiver) _ (unoffending_expr has_type)
    (unoffending_exprs have_types))
    (empty_both (offence_if (lacks_method declarations receiver_type method count) T2 place) _
    (call_there declarations object method count given type place (typed_whole has_type) (types_counted have_types) is)
    (unoffending_if_typed (can_be_called declarations receiver_type method count (types_in declarations frame [] arguments))
    (type_by_operands declarations frame method (NextExpr receiver arguments)) place type
    (call_reported method has_type have_types is)))

-- A call on `this` has a class and a type.
pub record OwnCall (declarations : List DeclTree) (this : Option Name) (method : Name) (given : List PlainType) : Type 0
  where
    pub class : Name
    pub type : PlainType
    pub this_is : this ≡ Some class
    pub call_is : call_type declarations (PlainClass class) method given ≡ Some type

-- it has them, if it does not offend
pub own_found : (declarations : List DeclTree) (this : Option Name) (method : Name) (count : ℕ)
    {arguments : Option (List PlainType)} (given : List PlainType) (place : Place) → arguments ≡ Some given
    → offence_if (not (is_some this) || lacks_method declarations (option_map PlainClass this) method count) T2 place
    ≡ []
    → untyped (can_be_called declarations (option_map PlainClass this) method count arguments)
    (called_type declarations (option_map PlainClass this) method arguments) place ≡ []
    → OwnCall declarations this method given
own_found declarations None method count given place arguments_are there unoffending = cc
own_found declarations (Some class) method count given place arguments_are there unoffending =
    let reported = call_found declarations (PlainClass class) method count given place refl arguments_are there unoffending in
    record { class = class; type = reported.0; this_is = refl; call_is = reported.1 }

-- it does not lack its method, if it has them
pub own_there : (declarations : List DeclTree) {this : Option Name} (class method : Name) (count : ℕ)
    (given : List PlainType) (type : PlainType) (place : Place) → this ≡ Some class → length given ≡ count
    → call_type declarations (PlainClass class) method given ≡ Some type
    → offence_if (not (is_some this) || lacks_method declarations (option_map PlainClass this) method count) T2 place
    ≡ []
own_there declarations class method count given type place this_is counted is =
    rw this_is (call_there declarations (PlainClass class) method count given type place refl counted is)
