-- Statements are well typed exactly where they have no offence.
--
--   `statements_found`         statements without an offence are well typed
--   `statements_whole`         well-typed statements have no offence
use Rattle.std.proofs.Common.{◌≡◌, ℕ, Bool, true, false, List, [], ◌++◌, Option, Some, None, refl, ap, ◌∙◌}
use Rattle.std.specs.Prelude.{not, ◌&&◌, is_none}
use Rattle.std.proofs.lemmas.Bool.{not-false, not_from_true}
use Rattle.abs_tree.specs.Syntax.{TypeTree, VariableTree, DeclTree, ExprTree, SideTree, Tests, NoTest, NextTest, TargetTree, MaybeSide, NoSide, SomeSide, Statement, BlockOf, SkipOf, SuspendOf, AwaitOf, ReturnOf, PrintOf, IfOf, WhileOf, DeclareOf, AssignOf, DoOf, MaybeStatements, NoElse, Else, Statements, NoStatement, NextStatement}
use Rattle.abs_tree.specs.SyntaxPlaces.{expr_place}
use Rattle.abs_tree.specs.declared.place.Place.{Place}
use Rattle.abs_tree.specs.declared.refusal.Code.TheVariants.{T1, T3}
use Rattle.abs_types.proofs.AskedLemmas.{asked_found, asked_whole}
use Rattle.abs_types.proofs.OffenceLemmas.{offence_if_unoffending, unoffending_offence_if}
use Rattle.abs_types.proofs.SideLemmas.{by_future, future_found, unoffending_future, typed_side, unoffending_side, side_fits, unoffending_fitting}
use Rattle.abs_types.specs.Endings.{are_empty}
use Rattle.abs_types.specs.IsTyped.{AreTests, IsTyped, IsElseTyped, AreTyped}
use Rattle.abs_types.specs.IsTyped.AreTests.{no_test, asked, held}
use Rattle.abs_types.specs.IsTyped.AreTyped.{no_statement, next_statement}
use Rattle.abs_types.specs.IsTyped.IsElseTyped.{no_else, else_branch}
use Rattle.abs_types.specs.IsTyped.IsTyped.{block, skip, suspend, await, return, print, if_else, while, declare, initialize, assign, do_side}
use Rattle.abs_types.specs.Mistyped.{mistyped_if}
use Rattle.abs_types.specs.OperatorTypes.{bool_type}
use Rattle.abs_types.specs.PlainTypes.{PlainType, PlainString, plain}
use Rattle.abs_types.specs.SideTypes.{side_offences}
use Rattle.abs_types.specs.StatementOffences.{can_be_null, frame_after, target_type, target_place, asked_offences, part_offences, test_offences, initial_offences, result_offences, statement_offences, else_offences, statements_offences}
use Rattle.abs_types.specs.Typing.{Frame}
use Rattle.list_facts.proofs.AppendLemmas.{both_empty, empty_both}
use Rattle.list_facts.proofs.OptionLemmas.{is_none-found, is_none-reported}

-- a guard without an offence is well typed
tests_found : (declarations : List DeclTree) (frame : Frame) (tests : Tests)
    → test_offences declarations frame tests ≡ [] → AreTests declarations frame tests
tests_found declarations frame NoTest none = no_test
tests_found declarations frame (NextTest place value true others) none =
    let parts = both_empty (part_offences declarations frame place value true) _ none in
    let reported = future_found declarations frame value place parts.0 in
    let rest = tests_found declarations frame others parts.1 in
    by_future (λ (future : ExprTree). AreTests declarations frame (NextTest place future true others)) frame value
    reported.0 reported.1 (λ variable_place slot is. asked place variable_place slot reported.0 others is rest)
tests_found declarations frame (NextTest place value false others) none =
    let parts = both_empty (part_offences declarations frame place value false) _ none in
    let fit = asked_found declarations frame value bool_type place parts.0 in
    held place value fit.given others fit.has_type fit.fits_it (tests_found declarations frame others parts.1)

-- a well-typed guard has no offence
tests_whole : {declarations : List DeclTree} {frame : Frame} {tests : Tests} → AreTests declarations frame tests
    → test_offences declarations frame tests ≡ []
tests_whole no_test = refl
tests_whole {declarations} {frame} (asked place variable_place slot type others is rest) =
    empty_both _ (test_offences declarations frame others)
    (unoffending_future declarations frame variable_place slot type place is) (tests_whole rest)
tests_whole {declarations} {frame} (held place condition given others has_type fit rest) =
    empty_both _ (test_offences declarations frame others) (asked_whole place has_type fit) (tests_whole rest)

-- a last `return` is well typed, if its value has no offence
result_found : (declarations : List DeclTree) (frame : Frame) (index : ℕ) (place : Place) (value : ExprTree)
    (task : Option PlainType) → frame.task ≡ task → result_offences declarations frame value task ≡ []
    → IsTyped declarations frame true (ReturnOf index place value)
result_found declarations frame index place value (Some result) is none =
    let fit = asked_found declarations frame value result (expr_place value) none in
    return frame index place value fit.given result is fit.has_type fit.fits_it
result_found declarations frame index place value None is none = cc

-- a `return` without an offence is well typed
return_found : (declarations : List DeclTree) (frame : Frame) (is_last : Bool) (index : ℕ) (place : Place)
    (value : ExprTree) → statement_offences declarations frame is_last (ReturnOf index place value) ≡ []
    → IsTyped declarations frame is_last (ReturnOf index place value)
return_found declarations frame true index place value none =
    result_found declarations frame index place value frame.task refl none
return_found declarations frame false index place value none = cc

-- a declaration without an offence is well typed
declare_found : (declarations : List DeclTree) (frame : Frame) (is_last : Bool) (index : ℕ)
    (place variable_place : Place) (type : TypeTree) (variable : VariableTree) (initial : MaybeSide)
    → initial_offences declarations frame (plain type) variable_place initial ≡ []
    → IsTyped declarations frame is_last (DeclareOf index place type variable_place variable initial)
declare_found declarations frame is_last index place variable_place type variable NoSide none =
    declare frame is_last index place variable_place type variable
    (not-false (can_be_null (plain type)) (offence_if_unoffending (not (can_be_null (plain type))) T3 variable_place none))
declare_found declarations frame is_last index place variable_place type variable (SomeSide side) none =
    let parts = both_empty (side_offences declarations frame side) _ none in
    let fit = side_fits declarations frame side (plain type) refl parts.0 parts.1 in
    initialize frame is_last index place variable_place type variable side fit.given fit.has_type fit.fits_it

-- an assignment without an offence is well typed
assign_found : (declarations : List DeclTree) (frame : Frame) (is_last : Bool) (index : ℕ) (place : Place)
    (target : TargetTree) (side : SideTree)
    → statement_offences declarations frame is_last (AssignOf index place target side) ≡ []
    → IsTyped declarations frame is_last (AssignOf index place target side)
assign_found declarations frame is_last index place target side none =
    let all = both_empty (mistyped_if (is_none (target_type frame target)) (target_place target)
    ++ side_offences declarations frame side) _ none in
    let parts = both_empty (mistyped_if (is_none (target_type frame target)) (target_place target)) _ all.0 in
    let reported = is_none-found (target_type frame target)
    (offence_if_unoffending (is_none (target_type frame target)) T1 (target_place target) parts.0) in
    let fit = side_fits declarations frame side reported.0 reported.1 parts.1 all.1 in
    assign frame is_last index place target side fit.given reported.0 reported.1 fit.has_type fit.fits_it

mutual
  -- a statement without an offence is well typed
  statement_found : (declarations : List DeclTree) (frame : Frame) (is_last : Bool) (statement : Statement)
      → statement_offences declarations frame is_last statement ≡ [] → IsTyped declarations frame is_last statement
  statement_found declarations frame is_last (BlockOf place statements) none =
      block frame is_last place statements (statements_found declarations frame is_last statements none)
  statement_found declarations frame is_last (SkipOf index place) none = skip frame is_last index place
  statement_found declarations frame is_last (SuspendOf index place) none = suspend frame is_last index place
  statement_found declarations frame is_last (AwaitOf index place guard) none =
      await frame is_last index place guard (tests_found declarations frame guard none)
  statement_found declarations frame is_last (ReturnOf index place value) none =
      return_found declarations frame is_last index place value none
  statement_found declarations frame is_last (PrintOf index place value) none =
      let fit = asked_found declarations frame value PlainString place none in
      print frame is_last index place value fit.given fit.has_type fit.fits_it
  statement_found declarations frame is_last (IfOf index place condition first second) none =
      let all = both_empty (asked_offences declarations frame condition bool_type (expr_place condition)
      ++ statements_offences declarations frame false first) _ none in
      let parts = both_empty (asked_offences declarations frame condition bool_type (expr_place condition)) _
      all.0 in
      let fit = asked_found declarations frame condition bool_type (expr_place condition) parts.0 in
      if_else frame is_last index place condition first second fit.given fit.has_type fit.fits_it
      (statements_found declarations frame false first parts.1) (else_found declarations frame second all.1)
  statement_found declarations frame is_last (WhileOf index place condition body) none =
      let parts = both_empty (asked_offences declarations frame condition bool_type (expr_place condition)) _ none in
      let fit = asked_found declarations frame condition bool_type (expr_place condition) parts.0 in
      while frame is_last index place condition body fit.given fit.has_type fit.fits_it
      (statements_found declarations frame false body parts.1)
  statement_found declarations frame is_last (DeclareOf index place type variable_place variable initial) none =
      declare_found declarations frame is_last index place variable_place type variable initial none
  statement_found declarations frame is_last (AssignOf index place target side) none =
      assign_found declarations frame is_last index place target side none
  statement_found declarations frame is_last (DoOf index place side) none =
      let typed = typed_side declarations frame side none in
      do_side frame is_last index place side typed.type typed.has_type

  -- so is a second branch
  else_found : (declarations : List DeclTree) (frame : Frame) (second : MaybeStatements)
      → else_offences declarations frame second ≡ [] → IsElseTyped declarations frame second
  else_found declarations frame NoElse none = no_else frame
  else_found declarations frame (Else branch) none =
      else_branch frame branch (statements_found declarations frame false branch none)

  -- statements without an offence are well typed
  pub statements_found : (declarations : List DeclTree) (frame : Frame) (is_last : Bool) (statements : Statements)
      → statements_offences declarations frame is_last statements ≡ [] → AreTyped declarations frame is_last statements
  statements_found declarations frame is_last NoStatement none = no_statement frame is_last
  statements_found declarations frame is_last (NextStatement first others) none =
      let parts = both_empty (statement_offences declarations frame (is_last && are_empty others) first) _ none in
      next_statement frame is_last first others
      (statement_found declarations frame (is_last && are_empty others) first parts.0)
      (statements_found declarations (frame_after frame first) is_last others parts.1)

mutual
  -- a well-typed statement has no offence
  statement_whole : {declarations : List DeclTree} {frame : Frame} {is_last : Bool} {statement : Statement}
      → IsTyped declarations frame is_last statement → statement_offences declarations frame is_last statement ≡ []
  statement_whole (block frame is_last place statements typed) = statements_whole typed
  statement_whole (skip frame is_last index place) = refl
  statement_whole (suspend frame is_last index place) = refl
  statement_whole (await frame is_last index place guard typed) = tests_whole typed
  statement_whole {declarations} (return frame index place value given result is has_type fit) =
      ap (λ (task : Option PlainType). result_offences declarations frame value task) is
      ∙ asked_whole (expr_place value) has_type fit
  statement_whole (print frame is_last index place value given has_type fit) = asked_whole place has_type fit
  statement_whole {declarations}
      (if_else frame is_last index place condition first second given has_type fit typed more) =
      empty_both _ (else_offences declarations frame second)
      (empty_both _ (statements_offences declarations frame false first)
      (asked_whole (expr_place condition) has_type fit) (statements_whole typed))
      (else_whole more)
  statement_whole {declarations} (while frame is_last index place condition body given has_type fit typed) =
      empty_both _ (statements_offences declarations frame false body)
      (asked_whole (expr_place condition) has_type fit) (statements_whole typed)
  statement_whole (declare frame is_last index place variable_place type variable null) =
      unoffending_offence_if (not (can_be_null (plain type))) T3 variable_place
      (not_from_true (can_be_null (plain type)) null)
  statement_whole {declarations}
      (initialize frame is_last index place variable_place type variable side given has_type fit) =
      empty_both (side_offences declarations frame side) _ (unoffending_side has_type)
      (unoffending_fitting (plain type) refl has_type fit)
  statement_whole {declarations} (assign frame is_last index place target side given type target_is has_type fit) =
      let is_missing = is_none (target_type frame target) in
      empty_both (mistyped_if is_missing (target_place target) ++ side_offences declarations frame side) _
      (empty_both (mistyped_if is_missing (target_place target)) _
      (unoffending_offence_if is_missing T1 (target_place target) (is_none-reported (target_type frame target) type target_is))
      (unoffending_side has_type))
      (unoffending_fitting type target_is has_type fit)
  statement_whole (do_side frame is_last index place side given has_type) = unoffending_side has_type

  -- nor has a second branch
  else_whole : {declarations : List DeclTree} {frame : Frame} {second : MaybeStatements}
      → IsElseTyped declarations frame second → else_offences declarations frame second ≡ []
  else_whole (no_else frame) = refl
  else_whole (else_branch frame branch typed) = statements_whole typed

  -- well-typed statements have no offence
  pub statements_whole : {declarations : List DeclTree} {frame : Frame} {is_last : Bool} {statements : Statements}
      → AreTyped declarations frame is_last statements → statements_offences declarations frame is_last statements ≡ []
  statements_whole (no_statement frame is_last) = refl
  statements_whole {declarations} (next_statement frame is_last first others typed rest) =
      empty_both (statement_offences declarations frame (is_last && are_empty others) first) _ (statement_whole typed)
      (statements_whole rest)
