-- Expressions of statements, where no variables of patterns and of `let` are visible: without an offence they have
-- types, by the relation and by the function.
--
--   `TypedExpr`, `typed_expr`, `unoffending_expr`          an expression
--   `TypedExprs`, `typed_exprs`, `unoffending_exprs`       several
--   `asked_found`, `asked_whole`                           an expression whose type is to fit
use Rattle.std.proofs.Common.{◌≡◌, List, [], Option, Some, ap, ◌∙◌, subst}
use Rattle.abs_tree.specs.Syntax.{DeclTree, ExprTree, ExprTrees}
use Rattle.abs_tree.specs.declared.place.Place.{Place}
use Rattle.abs_types.proofs.AgreementLemmas.{typed_found, typed_whole, all_typed_found, all_typed_whole}
use Rattle.abs_types.proofs.OffenceLemmas.{unfit_unoffending, unoffending_if_fit}
use Rattle.abs_types.proofs.NoOffenceLemmas.{unoffending_typed, typed_unoffending, all_unoffending_typed, all_typed_unoffending}
use Rattle.abs_types.proofs.SubtypingLemmas.{fits_found, fits_whole}
use Rattle.abs_types.specs.ExpressionOffences.{expr_offences, exprs_offences}
use Rattle.abs_types.specs.HasType.{HasType, HaveTypes}
use Rattle.abs_types.specs.Mistyped.{unfit}
use Rattle.abs_types.specs.PlainTypes.{PlainType}
use Rattle.abs_types.specs.StatementOffences.{asked_offences}
use Rattle.abs_types.specs.Subtyping.{Fits}
use Rattle.abs_types.specs.TypedProgram.{FitsType}
use Rattle.abs_types.specs.Typing.{Frame, type_in, types_in}
use Rattle.list_facts.proofs.AppendLemmas.{both_empty, empty_both}

-- An expression has a type, by the relation and by the function.
pub record TypedExpr (declarations : List DeclTree) (frame : Frame) (expr_tree : ExprTree) : Type 0 where
  pub type : PlainType
  pub has_type : HasType declarations frame [] expr_tree type
  pub found : type_in declarations frame [] expr_tree ≡ Some type

-- Expressions have types in their order.
pub record TypedExprs (declarations : List DeclTree) (frame : Frame) (expr_trees : ExprTrees) : Type 0 where
  pub types : List PlainType
  pub have_types : HaveTypes declarations frame [] expr_trees types
  pub found : types_in declarations frame [] expr_trees ≡ Some types

-- an expression without an offence has a type
pub typed_expr : (declarations : List DeclTree) (frame : Frame) (expr_tree : ExprTree)
    → expr_offences declarations frame [] expr_tree ≡ [] → TypedExpr declarations frame expr_tree
typed_expr declarations frame expr_tree none =
    let reported = unoffending_typed declarations frame [] expr_tree none in
    record { type = reported.0; has_type = typed_found declarations frame [] expr_tree reported.0 reported.1; found = reported.1 }

-- an expression that has a type has no offence
pub unoffending_expr : {declarations : List DeclTree} {frame : Frame} {expr_tree : ExprTree} {type : PlainType}
    → HasType declarations frame [] expr_tree type → expr_offences declarations frame [] expr_tree ≡ []
unoffending_expr {declarations} {frame} {expr_tree} {type} has_type =
    typed_unoffending declarations frame [] expr_tree type (typed_whole has_type)

-- expressions without an offence have types
pub typed_exprs : (declarations : List DeclTree) (frame : Frame) (expr_trees : ExprTrees)
    → exprs_offences declarations frame [] expr_trees ≡ [] → TypedExprs declarations frame expr_trees
typed_exprs declarations frame expr_trees none =
    let reported = all_unoffending_typed declarations frame [] expr_trees none in
    record { types = reported.0; have_types = all_typed_found declarations frame [] expr_trees reported.0 reported.1; found = reported.1 }

-- expressions that have types have no offence
pub unoffending_exprs : {declarations : List DeclTree} {frame : Frame} {expr_trees : ExprTrees} {types : List PlainType}
    → HaveTypes declarations frame [] expr_trees types → exprs_offences declarations frame [] expr_trees ≡ []
unoffending_exprs {declarations} {frame} {expr_trees} {types} have_types =
    all_typed_unoffending declarations frame [] expr_trees types (all_typed_whole have_types)

-- an expression without an offence has a type that fits what is asked for
pub asked_found : (declarations : List DeclTree) (frame : Frame) (value : ExprTree) (asked : PlainType) (place : Place)
    → asked_offences declarations frame value asked place ≡ [] → FitsType declarations frame value asked
asked_found declarations frame value asked place none =
    let parts = both_empty (expr_offences declarations frame [] value)
    (unfit declarations (type_in declarations frame [] value) asked place) none in
    let typed = typed_expr declarations frame value parts.0 in
    let unoffending = subst (λ (type : Option PlainType). unfit declarations type asked place ≡ []) typed.found parts.1 in
    record {
      given = typed.type;
      has_type = typed.has_type;
      fits_it = fits_found declarations typed.type asked (unfit_unoffending declarations typed.type asked place unoffending);
    }

-- an expression whose type fits has no offence
pub asked_whole : {declarations : List DeclTree} {frame : Frame} {value : ExprTree} {given asked : PlainType}
    (place : Place) → HasType declarations frame [] value given → Fits declarations given asked
    → asked_offences declarations frame value asked place ≡ []
asked_whole {declarations} {frame} {value} {given} {asked} place has_type fit =
    empty_both (expr_offences declarations frame [] value) _ (unoffending_expr has_type)
    (ap (λ (type : Option PlainType). unfit declarations type asked place) (typed_whole has_type)
    ∙ unoffending_if_fit declarations given asked place (fits_whole fit))
