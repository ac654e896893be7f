-- An expression has a type exactly where it has no offence, that is where it has no offence.
--
--   `unoffending_typed`, `all_unoffending_typed`  an expression without an offence has a type
--   `typed_unoffending`, `all_typed_unoffending`  an expression with a type has no offence
--   `unoffending_exactly_typed`            both, by the relation of types
use Rattle.std.proofs.Common.{◌≡◌, ◌↔◌, ℕ, true, not, ◌&&◌, List, [], ◌∷◌, ◌++◌, map, Option, Some, None, option_map, option_and_then, slice_get, is_some, if◌then◌else◌, refl, sym, ap, ap₂, ◌∙◌, true≢false}
use Rattle.std.proofs.lemmas.Bool.{and_from, not-false, not_from_true}
use Rattle.std.proofs.lemmas.Option.{none-some, option_and_then_some, slice_get-map}
use Rattle.abs_tree.specs.Syntax.{Name, VariableTree, Unresolved, AtSlot, AtBound, AtField, DeclTree, ExprTree, LetIn, IfElse, OperatorsOf, Prefixed, NumberOf, StringOf, NullOf, DestinyOf, ThisOf, FieldOf, OwnCallOf, VariableOf, ApplyOf, BuildOf, CaseOf, ExprTrees, NoExpr, NextExpr, Operands, NoOperands, NextOperand, Branches, NoBranch, NextBranch}
use Rattle.abs_tree.specs.SyntaxCounts.{count_exprs}
use Rattle.abs_tree.specs.declared.place.Place.{Place}
use Rattle.abs_tree.specs.declared.refusal.Code.TheVariants.{T1, T2}
use Rattle.abs_tree.specs.declared.syntax.expression.Operator.{Operator}
use Rattle.abs_types.specs.ExpressionOffences.{is_visible, this_lacks_method, own_call_offences, expr_offences, exprs_offences, operands_offences, branches_offences}
use Rattle.abs_types.specs.HasType.{HasType}
use Rattle.abs_tree.specs.Offences.{offence_if}
use Rattle.abs_types.specs.Mistyped.{mistyped_if}
use Rattle.abs_types.specs.OperatorTypes.{prefix_type}
use Rattle.abs_types.specs.PatternTypes.{pattern_fits, pattern_offences, pattern_types}
use Rattle.abs_types.specs.PlainTypes.{PlainType, PlainInt, PlainString, PlainNull, PlainFut, PlainClass, plain}
use Rattle.abs_types.specs.Schemes.{scheme_of_function, scheme_of_constructor}
use Rattle.abs_types.specs.Typing.{Frame, known_at, variable_type, let_type, if_type, application_type, case_type, both_types, both_operands, operators_type, type_in, types_in, operands_in, branches_in}
use Rattle.abs_types.proofs.AgreementLemmas.{bound_found, bound_whole, typed_found, typed_whole}
use Rattle.abs_types.proofs.OffenceLemmas.{offence_if_unoffending, unoffending_offence_if, untyped_unoffending, unoffending_if_typed, rule_typed, pair_rule_typed, rule_unoffending, pair_rule_unoffending}
use Rattle.abs_types.proofs.PatternLemmas.{pattern_matched, match_types, fitting_unoffending, unoffending_fitting}
use Rattle.abs_types.proofs.RuleLemmas.{let_found, if_rule_found, application_found, case_found, operators_found, both_types_found, both_operands_found, bound_after}
use Rattle.list_facts.proofs.AppendLemmas.{both_empty, empty_both}
use Rattle.list_facts.proofs.OptionLemmas.{is_some-found, is_some-reported, is_some-both, if-found, if-reported, is_some-option_map}

-- a variable that is visible has a type
visible_typed : (frame : Frame) (bound : List PlainType) (variable : VariableTree)
    → is_visible frame (map Some bound) variable ≡ true
    → (type : PlainType) × (variable_type frame (map Some bound) variable ≡ Some type)
visible_typed frame bound (AtSlot slot) reported = is_some-found (known_at frame.slots slot) reported
visible_typed frame bound (AtField field) reported = is_some-found (slice_get frame.fields field) reported
visible_typed frame bound (AtBound depth) reported =
    let found = is_some-found (slice_get bound depth)
    (is_some-option_map Some (slice_get bound depth) ∙ ap is_some (sym (slice_get-map Some bound depth)) ∙ reported) in
    (found.0, bound_whole bound depth found.0 found.1)
visible_typed frame bound (Unresolved name) reported = absurd (true≢false (sym reported))

-- a variable with a type is visible
typed_visible : (frame : Frame) (bound : List PlainType) (variable : VariableTree) (type : PlainType)
    → variable_type frame (map Some bound) variable ≡ Some type → is_visible frame (map Some bound) variable ≡ true
typed_visible frame bound (AtSlot slot) type reported = is_some-reported (known_at frame.slots slot) type reported
typed_visible frame bound (AtField field) type reported = is_some-reported (slice_get frame.fields field) type reported
typed_visible frame bound (AtBound depth) type reported =
    is_some-reported (slice_get (map Some bound) depth) (Some type)
    (slice_get-map Some bound depth ∙ ap (option_map Some) (bound_found bound depth type reported))
typed_visible frame bound (Unresolved name) type reported = absurd (none-some type reported)

-- a call on `this` inside an expression offends, where its arguments have types
own_call_offends : (declarations : List DeclTree) (frame : Frame) (given : Option (List PlainType)) (place : Place)
    (method : Name) (count : ℕ) (types : List PlainType) → given ≡ Some types
    → own_call_offences declarations frame given place method count ≡ [] → ⊥
own_call_offends declarations frame given place method count types reported none =
    let both = both_empty (offence_if (this_lacks_method declarations frame method count) T2 place)
    (mistyped_if (is_some given) place) none in
    true≢false (sym (is_some-reported given types reported) ∙ offence_if_unoffending (is_some given) T1 place both.1)

mutual
  -- an expression without an offence has a type
  pub unoffending_typed : (declarations : List DeclTree) (frame : Frame) (bound : List PlainType) (expr_tree : ExprTree)
      → expr_offences declarations frame (map Some bound) expr_tree ≡ []
      → (type : PlainType) × (type_in declarations frame (map Some bound) expr_tree ≡ Some type)
  unoffending_typed declarations frame bound (NumberOf place value) none = (PlainInt, refl)
  unoffending_typed declarations frame bound (StringOf place value) none = (PlainString, refl)
  unoffending_typed declarations frame bound (NullOf place) none = (PlainNull, refl)
  unoffending_typed declarations frame bound (DestinyOf place) none =
      untyped_unoffending true (option_map PlainFut frame.task) place refl none
  unoffending_typed declarations frame bound (ThisOf place) none =
      untyped_unoffending true (option_map PlainClass frame.this) place refl none
  unoffending_typed declarations frame bound (VariableOf place variable) none =
      let visible = is_visible frame (map Some bound) variable in
      visible_typed frame bound variable (not-false visible (offence_if_unoffending (not visible) T1 place none))
  unoffending_typed declarations frame bound (LetIn place declared variable_place variable value body) none =
      let types = map Some bound in
      let more = types ++ Some (plain declared) ∷ [] in
      let one = type_in declarations frame types value in
      let other = type_in declarations frame more body in
      pair_rule_typed (expr_offences declarations frame types value)
      (expr_offences declarations frame more body) (is_some one && is_some other)
      (let_type declarations (plain declared) one other) place
      (λ value_unoffending body_unoffending. is_some-both one other
      (unoffending_typed declarations frame bound value value_unoffending)
      (let after = bound_after bound (plain declared ∷ []) (Some (plain declared) ∷ []) refl in
      let inner = unoffending_typed declarations frame (bound ++ plain declared ∷ []) body
      (ap (λ known. expr_offences declarations frame known body) (sym after) ∙ body_unoffending) in
      (inner.0, ap (λ known. type_in declarations frame known body) after ∙ inner.1))) none
  unoffending_typed declarations frame bound (IfElse place condition first second) none =
      let types = map Some bound in
      let given = type_in declarations frame types condition in
      let one = type_in declarations frame types first in
      let other = type_in declarations frame types second in
      pair_rule_typed (expr_offences declarations frame types condition
      ++ expr_offences declarations frame types first) (expr_offences declarations frame types second)
      (is_some given && is_some one && is_some other) (if_type declarations given one other) place
      (λ before_unoffending second_unoffending.
      let both = both_empty (expr_offences declarations frame types condition)
      (expr_offences declarations frame types first) before_unoffending in
      let found = unoffending_typed declarations frame bound second second_unoffending in
      and_from (is_some given && is_some one) (is_some other)
      (is_some-both given one (unoffending_typed declarations frame bound condition both.0)
      (unoffending_typed declarations frame bound first both.1)) (is_some-reported other found.0 found.1)) none
  unoffending_typed declarations frame bound (OperatorsOf place first operands) none =
      let types = map Some bound in
      let one = type_in declarations frame types first in
      let other = operands_in declarations frame types operands in
      pair_rule_typed (expr_offences declarations frame types first)
      (operands_offences declarations frame types operands) (is_some one && is_some other)
      (operators_type declarations one other) place
      (λ first_unoffending operands_unoffending. is_some-both one other
      (unoffending_typed declarations frame bound first first_unoffending)
      (unoffending_operands_typed declarations frame bound operands operands_unoffending)) none
  unoffending_typed declarations frame bound (Prefixed place prefix operand) none =
      let given = type_in declarations frame (map Some bound) operand in
      rule_typed (expr_offences declarations frame (map Some bound) operand) (is_some given)
      (option_and_then (prefix_type declarations prefix) given) place
      (λ operand_unoffending.
      let found = unoffending_typed declarations frame bound operand operand_unoffending in
      is_some-reported given found.0 found.1) none
  unoffending_typed declarations frame bound (ApplyOf place function arguments) none =
      let given = types_in declarations frame (map Some bound) arguments in
      rule_typed (exprs_offences declarations frame (map Some bound) arguments) (is_some given)
      (application_type declarations (scheme_of_function declarations function) given) place
      (λ arguments_unoffending.
      let found = all_unoffending_typed declarations frame bound arguments arguments_unoffending in
      is_some-reported given found.0 found.1) none
  unoffending_typed declarations frame bound (BuildOf place constructor arguments) none =
      let given = types_in declarations frame (map Some bound) arguments in
      rule_typed (exprs_offences declarations frame (map Some bound) arguments) (is_some given)
      (application_type declarations (scheme_of_constructor declarations constructor) given) place
      (λ arguments_unoffending.
      let found = all_unoffending_typed declarations frame bound arguments arguments_unoffending in
      is_some-reported given found.0 found.1) none
  unoffending_typed declarations frame bound (CaseOf place subject branches) none =
      let types = map Some bound in
      let one = type_in declarations frame types subject in
      let other = branches_in declarations frame types one branches in
      pair_rule_typed (expr_offences declarations frame types subject)
      (branches_offences declarations frame types one branches) (is_some one && is_some other)
      (case_type declarations one other) place
      (λ subject_unoffending branches_unoffending.
      let given = unoffending_typed declarations frame bound subject subject_unoffending in
      let found = unoffending_branches_typed declarations frame bound given.0 branches
      (ap (λ known. branches_offences declarations frame types known branches) (sym given.1) ∙ branches_unoffending) in
      is_some-both one other given
      (found.0, ap (λ known. branches_in declarations frame types known branches) given.1 ∙ found.1)) none
  unoffending_typed declarations frame bound (OwnCallOf place method arguments) none =
      let given = types_in declarations frame (map Some bound) arguments in
      let both = both_empty (exprs_offences declarations frame (map Some bound) arguments)
      (own_call_offences declarations frame given place method (count_exprs arguments)) none in
      let found = all_unoffending_typed declarations frame bound arguments both.0 in
      absurd (own_call_offends declarations frame given place method (count_exprs arguments) found.0 found.1 both.1)
  unoffending_typed declarations frame bound (FieldOf place name_place name) none =
      absurd (true≢false (offence_if_unoffending true T1 place none))

  -- the same of several expressions
  pub all_unoffending_typed : (declarations : List DeclTree) (frame : Frame) (bound : List PlainType) (expr_trees : ExprTrees)
      → exprs_offences declarations frame (map Some bound) expr_trees ≡ []
      → (types : List PlainType) × (types_in declarations frame (map Some bound) expr_trees ≡ Some types)
  all_unoffending_typed declarations frame bound NoExpr none = ([], refl)
  all_unoffending_typed declarations frame bound (NextExpr first others) none =
      let both = both_empty (expr_offences declarations frame (map Some bound) first)
      (exprs_offences declarations frame (map Some bound) others) none in
      let one = unoffending_typed declarations frame bound first both.0 in
      let more = all_unoffending_typed declarations frame bound others both.1 in
      (one.0 ∷ more.0, ap₂ both_types one.1 more.1)

  -- the same of operands
  unoffending_operands_typed : (declarations : List DeclTree) (frame : Frame) (bound : List PlainType) (operands : Operands)
      → operands_offences declarations frame (map Some bound) operands ≡ []
      → (given : List (Operator × PlainType))
      × (operands_in declarations frame (map Some bound) operands ≡ Some given)
  unoffending_operands_typed declarations frame bound NoOperands none = ([], refl)
  unoffending_operands_typed declarations frame bound (NextOperand operator right others) none =
      let both = both_empty (expr_offences declarations frame (map Some bound) right)
      (operands_offences declarations frame (map Some bound) others) none in
      let one = unoffending_typed declarations frame bound right both.0 in
      let more = unoffending_operands_typed declarations frame bound others both.1 in
      ((operator, one.0) ∷ more.0, ap₂ (both_operands operator) one.1 more.1)

  -- the same of branches with their patterns
  unoffending_branches_typed : (declarations : List DeclTree) (frame : Frame) (bound : List PlainType) (subject : PlainType)
      (branches : Branches) → branches_offences declarations frame (map Some bound) (Some subject) branches ≡ []
      → (types : List PlainType)
      × (branches_in declarations frame (map Some bound) (Some subject) branches ≡ Some types)
  unoffending_branches_typed declarations frame bound subject NoBranch none = ([], refl)
  unoffending_branches_typed declarations frame bound subject (NextBranch pattern value others) none =
      let known = map Some bound ++ pattern_types declarations (Some subject) pattern in
      let apart = both_empty (pattern_offences declarations (Some subject) pattern
      ++ expr_offences declarations frame known value)
      (branches_offences declarations frame (map Some bound) (Some subject) others) none in
      let both = both_empty (pattern_offences declarations (Some subject) pattern)
      (expr_offences declarations frame known value) apart.0 in
      let matched = pattern_matched declarations subject pattern both.0 in
      let after = bound_after bound matched.0 (pattern_types declarations (Some subject) pattern)
      (match_types matched.1) in
      let one = unoffending_typed declarations frame (bound ++ matched.0) value
      (ap (λ types. expr_offences declarations frame types value) (sym after) ∙ both.1) in
      let more = unoffending_branches_typed declarations frame bound subject others apart.1 in (
        one.0 ∷ more.0,
        ap₂ both_types
            (if-reported (pattern_fits declarations (Some subject) pattern) (type_in declarations frame known value) one.0
            (unoffending_fitting declarations (Some subject) pattern both.0)
            (ap (λ types. type_in declarations frame types value) after ∙ one.1)) more.1,
      )

mutual
  -- an expression with a type has no offence
  pub typed_unoffending : (declarations : List DeclTree) (frame : Frame) (bound : List PlainType) (expr_tree : ExprTree)
      (type : PlainType) → type_in declarations frame (map Some bound) expr_tree ≡ Some type
      → expr_offences declarations frame (map Some bound) expr_tree ≡ []
  typed_unoffending declarations frame bound (NumberOf place value) type reported = refl
  typed_unoffending declarations frame bound (StringOf place value) type reported = refl
  typed_unoffending declarations frame bound (NullOf place) type reported = refl
  typed_unoffending declarations frame bound (DestinyOf place) type reported =
      unoffending_if_typed true (option_map PlainFut frame.task) place type reported
  typed_unoffending declarations frame bound (ThisOf place) type reported =
      unoffending_if_typed true (option_map PlainClass frame.this) place type reported
  typed_unoffending declarations frame bound (VariableOf place variable) type reported =
      let visible = is_visible frame (map Some bound) variable in
      unoffending_offence_if (not visible) T1 place
      (not_from_true visible (typed_visible frame bound variable type reported))
  typed_unoffending declarations frame bound (LetIn place declared variable_place variable value body) type reported =
      let types = map Some bound in
      let more = types ++ Some (plain declared) ∷ [] in
      let one = type_in declarations frame types value in
      let other = type_in declarations frame more body in
      let found = let_found declarations (plain declared) one other type reported in
      let after = bound_after bound (plain declared ∷ []) (Some (plain declared) ∷ []) refl in
      pair_rule_unoffending (expr_offences declarations frame types value)
      (expr_offences declarations frame more body) (is_some one && is_some other)
      (let_type declarations (plain declared) one other) place type
      (typed_unoffending declarations frame bound value found.0 found.1)
      (ap (λ known. expr_offences declarations frame known body) after
      ∙ typed_unoffending declarations frame (bound ++ plain declared ∷ []) body type
      (ap (λ known. type_in declarations frame known body) (sym after) ∙ found.3)) reported
  typed_unoffending declarations frame bound (IfElse place condition first second) type reported =
      let types = map Some bound in
      let given = type_in declarations frame types condition in
      let one = type_in declarations frame types first in
      let other = type_in declarations frame types second in
      let found = if_rule_found declarations given one other type reported in
      pair_rule_unoffending (expr_offences declarations frame types condition
      ++ expr_offences declarations frame types first) (expr_offences declarations frame types second)
      (is_some given && is_some one && is_some other) (if_type declarations given one other) place type
      (empty_both (expr_offences declarations frame types condition)
      (expr_offences declarations frame types first)
      (typed_unoffending declarations frame bound condition found.0 found.3)
      (typed_unoffending declarations frame bound first found.1 found.5))
      (typed_unoffending declarations frame bound second found.2 found.6) reported
  typed_unoffending declarations frame bound (OperatorsOf place first operands) type reported =
      let types = map Some bound in
      let one = type_in declarations frame types first in
      let other = operands_in declarations frame types operands in
      let found = operators_found declarations one other type reported in
      pair_rule_unoffending (expr_offences declarations frame types first)
      (operands_offences declarations frame types operands) (is_some one && is_some other)
      (operators_type declarations one other) place type
      (typed_unoffending declarations frame bound first found.0 found.2)
      (typed_operands_unoffending declarations frame bound operands found.1 found.3) reported
  typed_unoffending declarations frame bound (Prefixed place prefix operand) type reported =
      let given = type_in declarations frame (map Some bound) operand in
      rule_unoffending (expr_offences declarations frame (map Some bound) operand) (is_some given)
      (option_and_then (prefix_type declarations prefix) given) place type
      (option_and_then_some (prefix_type declarations prefix) given type reported
      (λ one there gives. typed_unoffending declarations frame bound operand one there)) reported
  typed_unoffending declarations frame bound (ApplyOf place function arguments) type reported =
      let given = types_in declarations frame (map Some bound) arguments in
      let scheme = scheme_of_function declarations function in
      let found = application_found declarations scheme given type reported in
      rule_unoffending (exprs_offences declarations frame (map Some bound) arguments) (is_some given)
      (application_type declarations scheme given) place type
      (all_typed_unoffending declarations frame bound arguments found.1 found.3) reported
  typed_unoffending declarations frame bound (BuildOf place constructor arguments) type reported =
      let given = types_in declarations frame (map Some bound) arguments in
      let scheme = scheme_of_constructor declarations constructor in
      let found = application_found declarations scheme given type reported in
      rule_unoffending (exprs_offences declarations frame (map Some bound) arguments) (is_some given)
      (application_type declarations scheme given) place type
      (all_typed_unoffending declarations frame bound arguments found.1 found.3) reported
  typed_unoffending declarations frame bound (CaseOf place subject branches) type reported =
      let types = map Some bound in
      let one = type_in declarations frame types subject in
      let other = branches_in declarations frame types one branches in
      let found = case_found declarations one other type reported in
      pair_rule_unoffending (expr_offences declarations frame types subject)
      (branches_offences declarations frame types one branches) (is_some one && is_some other)
      (case_type declarations one other) place type
      (typed_unoffending declarations frame bound subject found.0 found.2)
      (ap (λ known. branches_offences declarations frame types known branches) found.2
      ∙ typed_branches_unoffending declarations frame bound found.0 branches found.1
      (ap (λ known. branches_in declarations frame types known branches) (sym found.2) ∙ found.3)) reported
  typed_unoffending declarations frame bound (OwnCallOf place method arguments) type reported = absurd (none-some type reported)
  typed_unoffending declarations frame bound (FieldOf place name_place name) type reported = absurd (none-some type reported)

  -- the same of several expressions
  pub all_typed_unoffending : (declarations : List DeclTree) (frame : Frame) (bound : List PlainType) (expr_trees : ExprTrees)
      (types : List PlainType) → types_in declarations frame (map Some bound) expr_trees ≡ Some types
      → exprs_offences declarations frame (map Some bound) expr_trees ≡ []
  all_typed_unoffending declarations frame bound NoExpr types reported = refl
  all_typed_unoffending declarations frame bound (NextExpr first others) types reported =
      let found = both_types_found (type_in declarations frame (map Some bound) first)
      (types_in declarations frame (map Some bound) others) types reported in
      empty_both (expr_offences declarations frame (map Some bound) first)
      (exprs_offences declarations frame (map Some bound) others)
      (typed_unoffending declarations frame bound first found.0 found.2)
      (all_typed_unoffending declarations frame bound others found.1 found.3)

  -- the same of operands
  typed_operands_unoffending : (declarations : List DeclTree) (frame : Frame) (bound : List PlainType) (operands : Operands)
      (given : List (Operator × PlainType))
      → operands_in declarations frame (map Some bound) operands ≡ Some given
      → operands_offences declarations frame (map Some bound) operands ≡ []
  typed_operands_unoffending declarations frame bound NoOperands given reported = refl
  typed_operands_unoffending declarations frame bound (NextOperand operator right others) given reported =
      let found = both_operands_found operator (type_in declarations frame (map Some bound) right)
      (operands_in declarations frame (map Some bound) others) given reported in
      empty_both (expr_offences declarations frame (map Some bound) right)
      (operands_offences declarations frame (map Some bound) others)
      (typed_unoffending declarations frame bound right found.0 found.2)
      (typed_operands_unoffending declarations frame bound others found.1 found.3)

  -- the same of branches with their patterns
  typed_branches_unoffending : (declarations : List DeclTree) (frame : Frame) (bound : List PlainType) (subject : PlainType)
      (branches : Branches) (types : List PlainType)
      → branches_in declarations frame (map Some bound) (Some subject) branches ≡ Some types
      → branches_offences declarations frame (map Some bound) (Some subject) branches ≡ []
  typed_branches_unoffending declarations frame bound subject NoBranch types reported = refl
  typed_branches_unoffending declarations frame bound subject (NextBranch pattern value others) types reported =
      let known = map Some bound ++ pattern_types declarations (Some subject) pattern in
      let is_fit = pattern_fits declarations (Some subject) pattern in
      let value_type = type_in declarations frame known value in
      let found = both_types_found (if is_fit then value_type else None)
      (branches_in declarations frame (map Some bound) (Some subject) others) types reported in
      let both = if-found is_fit value_type found.0 found.2 in
      let unoffending = fitting_unoffending declarations (Some subject) pattern both.0 in
      let matched = pattern_matched declarations subject pattern unoffending in
      let after = bound_after bound matched.0 (pattern_types declarations (Some subject) pattern)
      (match_types matched.1) in
      empty_both (pattern_offences declarations (Some subject) pattern
      ++ expr_offences declarations frame known value)
      (branches_offences declarations frame (map Some bound) (Some subject) others)
      (empty_both (pattern_offences declarations (Some subject) pattern)
      (expr_offences declarations frame known value) unoffending
      (ap (λ types. expr_offences declarations frame types value) after
      ∙ typed_unoffending declarations frame (bound ++ matched.0) value found.0
      (ap (λ types. type_in declarations frame types value) (sym after) ∙ both.1)))
      (typed_branches_unoffending declarations frame bound subject others found.1 found.3)

-- an expression has no offence exactly where a reason gives it a type
pub unoffending_exactly_typed : (declarations : List DeclTree) (frame : Frame) (bound : List PlainType) (expr_tree : ExprTree)
    → (expr_offences declarations frame (map Some bound) expr_tree ≡ [])
    ↔ ((type : PlainType) × HasType declarations frame bound expr_tree type)
unoffending_exactly_typed declarations frame bound expr_tree = (
  λ none.
      let found = unoffending_typed declarations frame bound expr_tree none in
      (found.0, typed_found declarations frame bound expr_tree found.0 found.1),
  λ found. typed_unoffending declarations frame bound expr_tree found.0 (typed_whole found.1),
)
