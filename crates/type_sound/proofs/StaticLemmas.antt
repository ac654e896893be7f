-- Each expression of the next statement of a task has a type, and its value has it.
--
--   `values_have_static_types`         the law
use Rattle.std.proofs.Common.{◌≡◌, ℕ, zero, suc, List, [], ◌∷◌, Some, None, refl, sym, ap, ◌∙◌, subst, map}
use Rattle.std.specs.Prelude.{Bool, slice_get}
use Rattle.std.proofs.lemmas.Option.{none-some, same_Some}
use Rattle.abs_profile.specs.Accepted.{IsAcceptedProgram}
use Rattle.abs_profile.specs.Profile.{expr_offences, exprs_offences, mode_offences, receiver_offences, side_offences, statement_offences, statements_offences}
use Rattle.abs_program.specs.Control.{Point}
use Rattle.abs_program.specs.Instructions.{effect_of, expr_trees_of, one_expr, side_expr_trees}
use Rattle.abs_tree.specs.Syntax.{DeclTree, ExprTree, ExprTrees, NoExpr, NextExpr, SideTree, CallOf, Statement, ProgramTree}
use Rattle.abs_types.specs.HasType.{HasType, HaveTypes, no_expr, next_expr}
use Rattle.abs_types.specs.IsTyped.{IsTyped, SideHasType, new_object, own_call, sent, called, got, block, skip, suspend, await, return, print, if_else, while, declare, initialize, assign, do_side}
use Rattle.abs_types.specs.IsTyped.{value as whole_value}
use Rattle.abs_types.specs.PlainTypes.{PlainType}
use Rattle.abs_types.specs.Typing.{Frame}
use Rattle.abs_values.proofs.ListOutcomeLemmas.{Keeps, initial_outcomes-keep, results_of-gives}
use Rattle.abs_values.proofs.ResultLemmas.{IfAllGive-at}
use Rattle.abs_values.specs.Evaluation.{Outcomes, initial_outcomes}
use Rattle.abs_values.specs.References.{expr_tree_at}
use Rattle.abs_values.specs.Results.{Results}
use Rattle.abs_values.specs.Scopes.{library_of}
use Rattle.abs_values.specs.ValueTrees.{ValueTree}
use Rattle.config_state.specs.Configurations.{Configuration, object_at}
use Rattle.config_state.specs.OfProgram.{IsConfigOf}
use Rattle.list_facts.proofs.AppendLemmas.{both_empty, empty_both}
use Rattle.step_rules.specs.Inputs.{initials_for, scope_of}
use Rattle.step_rules.specs.Lookups.{Runner}
use Rattle.step_rules.specs.RuleParts.{IsRunningAt}
use Rattle.type_sound.proofs.BoundLemmas.{all_at}
use Rattle.type_sound.proofs.NextLemmas.{next_is_known}
use Rattle.type_sound.proofs.ResultsFitLemmas.{expressions_have}
use Rattle.type_sound.proofs.RoutineLemmas.{routine_is}
use Rattle.type_sound.proofs.SideLemmas.{receiver_is_this, stores_value}
use Rattle.type_sound.specs.Fitting.{HasStaticType}
use Rattle.type_sound.specs.Routines.{Routine, routine_of}
use Rattle.type_sound.specs.Values.{ValueHas, AllHave, ResultsHave}
use Rattle.type_sound.specs.WellTyped.{IsWellTyped, world_of}

-- a list is that of its items
map_same : (types : List PlainType) → map (λ (type : PlainType). type) types ≡ types
map_same [] = refl
map_same (type ∷ types) = ap (λ (others : List PlainType). type ∷ others) (map_same types)

-- the expression at an index has the type at it
type_at : (declarations : List DeclTree) (frame : Frame) (expr_trees : ExprTrees) (given : List PlainType) (index : ℕ)
    (expr_tree : ExprTree) → HaveTypes declarations frame [] expr_trees given
    → expr_tree_at expr_trees index ≡ Some expr_tree
    → (type : PlainType) × (slice_get given index ≡ Some type) × HasType declarations frame [] expr_tree type
type_at declarations frame _ _ index expr_tree (no_expr b) there = absurd (none-some expr_tree there)
type_at declarations frame _ _ zero expr_tree (next_expr b first others type types has have) there =
    (type, refl, subst (λ (one : ExprTree). HasType declarations frame [] one type) (same_Some first expr_tree there) has)
type_at declarations frame _ _ (suc index) expr_tree (next_expr b first others type types has have) there =
    type_at declarations frame others types index expr_tree have there

-- Expressions have types, and none of them has an offence of the profile.
record AreTypedExprs (declarations : List DeclTree) (frame : Frame) (expr_trees : ExprTrees) : Type 0 where
  given : List PlainType
  have : HaveTypes declarations frame [] expr_trees given
  in_profile : exprs_offences expr_trees ≡ []

module _ (declarations : List DeclTree) (frame : Frame) where
  -- none
  none_typed : AreTypedExprs declarations frame NoExpr
  none_typed = record { given = []; have = no_expr []; in_profile = refl }

  -- one
  one_typed : (expr_tree : ExprTree) (type : PlainType) → HasType declarations frame [] expr_tree type
      → expr_offences expr_tree ≡ [] → AreTypedExprs declarations frame (one_expr expr_tree)
  one_typed expr_tree type has none = record {
    given = type ∷ [];
    have = next_expr [] expr_tree NoExpr type [] has (no_expr []);
    in_profile = empty_both (expr_offences expr_tree) [] none refl;
  }

  -- those of a right side
  side_typed : (side : SideTree) (type : PlainType) → side_offences side ≡ [] → SideHasType declarations frame side type
      → AreTypedExprs declarations frame (side_expr_trees side)
  side_typed side type none (new_object place class_place mode class arguments given taken have taken_are fit) =
      record { given = given; have = have; in_profile = (both_empty (mode_offences mode) _ none).1 }
  side_typed side type none (whole_value place expr_tree given has) =
      subst (AreTypedExprs declarations frame) (sym (stores_value declarations frame place expr_tree given None has).0)
      (one_typed expr_tree given has none)
  side_typed side type none (own_call place call_place method class arguments given result this_is have gives) =
      record { given = given; have = have; in_profile = none }
  side_typed side type none (sent place method receiver arguments object given result has have gives) =
      record { given = object ∷ given; have = next_expr [] receiver arguments object given has have; in_profile = none }
  side_typed side type none (called place method receiver arguments hidden object given result has have gives) =
      let parts = both_empty (receiver_offences place (NextExpr receiver arguments))
      (exprs_offences (NextExpr receiver arguments)) none in
      let is = receiver_is_this place receiver arguments parts.0 in
      let own : AreTypedExprs declarations frame arguments = record {
        given = given;
        have = have;
        in_profile = (both_empty (expr_offences receiver) (exprs_offences arguments) parts.1).1;
      } in
      subst (λ (one : ExprTree). AreTypedExprs declarations frame
      (side_expr_trees (CallOf place method (NextExpr one arguments) hidden))) (sym is.1) own
  side_typed side type none (got place get_place variable_place slot value_type is_future) = none_typed

  -- those of a statement
  statement_typed : (is_last : Bool) (statement : Statement) → statement_offences statement ≡ []
      → IsTyped declarations frame is_last statement → AreTypedExprs declarations frame (expr_trees_of statement)
  statement_typed is_last statement none (block f last place statements typed) = none_typed
  statement_typed is_last statement none (skip f last index place) = none_typed
  statement_typed is_last statement none (suspend f last index place) = none_typed
  statement_typed is_last statement none (await f last index place guard tests) = none_typed
  statement_typed is_last statement none (return f index place value given result task has fit) =
      one_typed value given has none
  statement_typed is_last statement none (print f last index place value given has fit) = one_typed value given has none
  statement_typed is_last statement none (if_else f last index place condition first second given has fit one other) =
      one_typed condition given has (both_empty (expr_offences condition) _ none).0
  statement_typed is_last statement none (while f last index place condition body given has fit typed) =
      one_typed condition given has (both_empty (expr_offences condition) (statements_offences body) none).0
  statement_typed is_last statement none (declare f last index place variable_place type variable can) = none_typed
  statement_typed is_last statement none (initialize f last index place variable_place type variable side given has fit) =
      side_typed side given none has
  statement_typed is_last statement none (assign f last index place target side given type target_is has fit) =
      side_typed side given none has
  statement_typed is_last statement none (do_side f last index place side given has) = side_typed side given none has

-- each expression of the next statement has a type, and its value has it
pub values_have_static_types : (program : ProgramTree) (config : Configuration) → IsAcceptedProgram program
    → IsConfigOf program config → IsWellTyped program config → (at : Runner) (routine : Routine) (point : Point)
    (values : List ValueTree) (index : ℕ) (expr_tree : ExprTree) (value : ValueTree)
    → routine_of program config at.frame ≡ Some routine → IsRunningAt program config at point values
    → expr_tree_at (expr_trees_of point.statement) index ≡ Some expr_tree → slice_get values index ≡ Some value
    → (type : PlainType) × HasStaticType program routine expr_tree type
    × ValueHas program (world_of program config) value type
values_have_static_types program config accepted of_program typed at routine point values index expr_tree value found
    running there value_there =
    let next = next_is_known program config accepted of_program typed at routine point found running.runner
    running.point_there in
    let exprs = statement_typed program.source.declarations next.frame next.is_last point.statement next.in_profile
    next.typed in
    let own_type = type_at program.source.declarations next.frame (expr_trees_of point.statement) exprs.given index
    expr_tree exprs.have there in
    let all = (results_of-gives (library_of program) (scope_of config at.frame) (expr_trees_of point.statement)
    (initials_for program (effect_of point.statement)) values).0 running.gives in
    let gives = ap (λ (outcomes : Outcomes). outcomes.results) all.own_given in
    let have = subst (λ (results : Results). ResultsHave program (world_of program config) results exprs.given) gives
    (expressions_have program config accepted routine at.frame next.frame next.known (expr_trees_of point.statement)
    exprs.given exprs.in_profile exprs.have) in
    let held = all_at program (world_of program config) all.own (λ (type : PlainType). type) exprs.given index own_type.0
    (subst (AllHave program (world_of program config) all.own) (sym (map_same exprs.given)) have) own_type.1 in
    let kept = IfAllGive-at (initial_outcomes (library_of program) (initials_for program (effect_of point.statement))
    all.own all.made).results (Keeps all.own) values all.all_given
    (initial_outcomes-keep (library_of program) (initials_for program (effect_of point.statement)) all.own all.made) in
    let same : held.value ≡ value = same_Some held.value value (sym (kept index held.value held.there) ∙ value_there) in (
      own_type.0,
      record {
        frame = next.frame;
        narrower = record {
          slots = next.known.slots;
          fields = sym next.known.fields;
          this = sym next.known.this;
          task = (routine_is program accepted (object_at config at.frame.object) at.frame.method routine found).task
              ∙ sym next.known.task;
        };
        has_type = own_type.2;
      },
      subst (λ (one : ValueTree). ValueHas program (world_of program config) one own_type.0) same held.has,
    )
