-- The relation of the types of expressions and the function agree: the function finds a reason for each type that it
-- gives, and each reason is a type that it gives.
--
--   `typed_found`, `all_typed_found`       a type that the function gives has a reason
--   `typed_whole`, `all_typed_whole`       each reason gives the type
--   `bound_found`, `bound_whole`           the types of bound variables
use Rattle.std.proofs.Common.{◌≡◌, ℕ, List, [], ◌∷◌, ◌++◌, map, Option, Some, None, option_map, option_and_then, slice_get, if◌then◌else◌, refl, sym, subst, ap, ap₂, ◌∙◌}
use Rattle.std.proofs.lemmas.Option.{none-some, same_Some, option_and_then_some, slice_get-map}
use Rattle.abs_tree.specs.Syntax.{Name, VariableTree, Unresolved, AtSlot, AtBound, AtField, DeclTree, ExprTree, LetIn, IfElse, OperatorsOf, Prefixed, NumberOf, StringOf, NullOf, DestinyOf, ThisOf, FieldOf, OwnCallOf, VariableOf, ApplyOf, BuildOf, CaseOf, ExprTrees, NoExpr, NextExpr, Operands, NoOperands, NextOperand, Branches, NoBranch, NextBranch}
use Rattle.abs_tree.specs.declared.place.Place.{Place}
use Rattle.abs_tree.specs.declared.syntax.expression.Operator.{Operator}
use Rattle.abs_types.specs.HasType.{HasType, HaveTypes, HaveOperands, HaveBranches}
use Rattle.abs_types.specs.HasType.HasType.{number, string, null, destiny, this, slot, bound_variable, field, let_in, if_else, operators, prefixed, apply, build, case_of}
use Rattle.abs_types.specs.HasType.HaveTypes.{no_expr, next_expr}
use Rattle.abs_types.specs.HasType.HaveOperands.{no_operand, next_operand}
use Rattle.abs_types.specs.HasType.HaveBranches.{no_branch, next_branch}
use Rattle.abs_types.specs.OperatorTypes.{bool_type, operand_types, operator_type, prefix_type}
use Rattle.abs_types.specs.PatternTypes.{pattern_fits, pattern_types}
use Rattle.abs_types.specs.PlainTypes.{PlainType, PlainInt, PlainString, PlainNull, PlainFut, PlainClass, plain}
use Rattle.abs_types.specs.Schemes.{scheme_of_function, scheme_of_constructor}
use Rattle.abs_types.specs.Typing.{Frame, known_at, variable_type, application_type, case_type, both_types, both_operands, operators_type, type_in, types_in, operands_in, branches_in}
use Rattle.abs_types.proofs.OperatorLemmas.{operator_found, operator_whole, prefix_found, prefix_whole}
use Rattle.abs_types.proofs.PatternLemmas.{pattern_matched, match_unoffending, match_types, fitting_unoffending, unoffending_fitting}
use Rattle.abs_types.proofs.RuleLemmas.{let_found, let_reported, if_rule_found, if_rule_reported, application_found, case_found, operators_found, both_types_found, both_operands_found, bound_after}
use Rattle.abs_types.proofs.SubtypingLemmas.{fits_found, fits_whole}
use Rattle.list_facts.proofs.OptionLemmas.{if-found, if-reported}

-- a type among others that may be missing
known_found : (types : List (Option PlainType)) (index : ℕ) (type : PlainType) → known_at types index ≡ Some type
    → slice_get types index ≡ Some (Some type)
known_found types index type reported = option_and_then_some (λ found. found) (slice_get types index) type reported
    (λ found found_is there. found_is ∙ ap Some there)

-- an option in which each value is one that may be missing
mapped_found : {A : Type 0} (found : Option A) (value : A) → option_map Some found ≡ Some (Some value)
    → found ≡ Some value
mapped_found (Some one) value reported = same_Some (Some one) (Some value) reported
mapped_found None value reported = absurd (none-some (Some value) reported)

-- a type among those of bound variables
pub bound_found : (bound : List PlainType) (depth : ℕ) (type : PlainType) → known_at (map Some bound) depth ≡ Some type
    → slice_get bound depth ≡ Some type
bound_found bound depth type reported = mapped_found (slice_get bound depth) type
    (sym (slice_get-map Some bound depth) ∙ known_found (map Some bound) depth type reported)

-- a bound variable has the type that is known
pub bound_whole : (bound : List PlainType) (depth : ℕ) (type : PlainType) → slice_get bound depth ≡ Some type
    → known_at (map Some bound) depth ≡ Some type
bound_whole bound depth type reported = rw (slice_get-map Some bound depth, reported) refl

-- a variable has the type that it is known to have
variable_found : (declarations : List DeclTree) (frame : Frame) (bound : List PlainType) (place : Place)
    (variable : VariableTree) (type : PlainType) → variable_type frame (map Some bound) variable ≡ Some type
    → HasType declarations frame bound (VariableOf place variable) type
variable_found declarations frame bound place (AtSlot index) type reported =
    slot bound place index type (known_found frame.slots index type reported)
variable_found declarations frame bound place (AtBound depth) type reported =
    bound_variable bound place depth type (bound_found bound depth type reported)
variable_found declarations frame bound place (AtField index) type reported = field bound place index type reported
variable_found declarations frame bound place (Unresolved name) type reported = absurd (none-some type reported)

-- `destiny` has the type of the task around it
destiny_found : (declarations : List DeclTree) (frame : Frame) (bound : List PlainType) (place : Place)
    (task : Option PlainType) (type : PlainType) → frame.task ≡ task → option_map PlainFut task ≡ Some type
    → HasType declarations frame bound (DestinyOf place) type
destiny_found declarations frame bound place (Some result) type is reported =
    subst (HasType declarations frame bound (DestinyOf place)) (same_Some (PlainFut result) type reported)
    (destiny bound place result is)
destiny_found declarations frame bound place None type is reported = absurd (none-some type reported)

-- `this` has the type of the class around it
this_found : (declarations : List DeclTree) (frame : Frame) (bound : List PlainType) (place : Place)
    (class : Option Name) (type : PlainType) → frame.this ≡ class → option_map PlainClass class ≡ Some type
    → HasType declarations frame bound (ThisOf place) type
this_found declarations frame bound place (Some class) type is reported =
    subst (HasType declarations frame bound (ThisOf place)) (same_Some (PlainClass class) type reported)
    (this bound place class is)
this_found declarations frame bound place None type is reported = absurd (none-some type reported)

mutual
  -- a type that the function gives has a reason
  pub typed_found : (declarations : List DeclTree) (frame : Frame) (bound : List PlainType) (expr_tree : ExprTree)
      (type : PlainType) → type_in declarations frame (map Some bound) expr_tree ≡ Some type
      → HasType declarations frame bound expr_tree type
  typed_found declarations frame bound (NumberOf place value) type reported =
      subst (HasType declarations frame bound (NumberOf place value)) (same_Some PlainInt type reported)
      (number bound place value)
  typed_found declarations frame bound (StringOf place value) type reported =
      subst (HasType declarations frame bound (StringOf place value)) (same_Some PlainString type reported)
      (string bound place value)
  typed_found declarations frame bound (NullOf place) type reported =
      subst (HasType declarations frame bound (NullOf place)) (same_Some PlainNull type reported) (null bound place)
  typed_found declarations frame bound (DestinyOf place) type reported =
      destiny_found declarations frame bound place frame.task type refl reported
  typed_found declarations frame bound (ThisOf place) type reported =
      this_found declarations frame bound place frame.this type refl reported
  typed_found declarations frame bound (VariableOf place variable) type reported =
      variable_found declarations frame bound place variable type reported
  typed_found declarations frame bound (LetIn place declared variable_place variable value body) type reported =
      let types = map Some bound in
      let found = let_found declarations (plain declared) (type_in declarations frame types value)
      (type_in declarations frame (types ++ Some (plain declared) ∷ []) body) type reported in
      let_in bound place variable_place declared variable value body found.0 type
      (typed_found declarations frame bound value found.0 found.1)
      (fits_found declarations found.0 (plain declared) found.2)
      (typed_found declarations frame (bound ++ plain declared ∷ []) body type
      (ap (λ known. type_in declarations frame known body)
      (sym (bound_after bound (plain declared ∷ []) (Some (plain declared) ∷ []) refl)) ∙ found.3))
  typed_found declarations frame bound (IfElse place condition first second) type reported =
      let types = map Some bound in
      let found = if_rule_found declarations (type_in declarations frame types condition)
      (type_in declarations frame types first) (type_in declarations frame types second) type reported in
      if_else bound place condition first second found.0 found.1 found.2 type
      (typed_found declarations frame bound condition found.0 found.3)
      (fits_found declarations found.0 bool_type found.4)
      (typed_found declarations frame bound first found.1 found.5)
      (typed_found declarations frame bound second found.2 found.6) found.7
  typed_found declarations frame bound (OperatorsOf place first operands) type reported =
      let types = map Some bound in
      let found = operators_found declarations (type_in declarations frame types first)
      (operands_in declarations frame types operands) type reported in
      operators bound place first operands found.0 type
      (typed_found declarations frame bound first found.0 found.2)
      (operands_typed declarations frame bound operands found.0 found.1 type found.3 found.4)
  typed_found declarations frame bound (Prefixed place prefix operand) type reported =
      option_and_then_some (prefix_type declarations prefix) (type_in declarations frame (map Some bound) operand) type
      reported
      (λ given given_is gives. prefixed bound place prefix operand given type
      (typed_found declarations frame bound operand given given_is) (prefix_found declarations prefix given type gives))
  typed_found declarations frame bound (ApplyOf place function arguments) type reported =
      let found = application_found declarations (scheme_of_function declarations function)
      (types_in declarations frame (map Some bound) arguments) type reported in
      apply bound place function arguments found.0 found.1 type found.2
      (all_typed_found declarations frame bound arguments found.1 found.3) found.4
  typed_found declarations frame bound (BuildOf place constructor arguments) type reported =
      let found = application_found declarations (scheme_of_constructor declarations constructor)
      (types_in declarations frame (map Some bound) arguments) type reported in
      build bound place constructor arguments found.0 found.1 type found.2
      (all_typed_found declarations frame bound arguments found.1 found.3) found.4
  typed_found declarations frame bound (CaseOf place subject branches) type reported =
      let types = map Some bound in
      let found = case_found declarations (type_in declarations frame types subject)
      (branches_in declarations frame types (type_in declarations frame types subject) branches) type reported in
      case_of bound place subject branches found.0 found.1 type
      (typed_found declarations frame bound subject found.0 found.2)
      (branches_typed declarations frame bound found.0 branches found.1
      (ap (λ known. branches_in declarations frame types known branches) (sym found.2) ∙ found.3)) found.4
  typed_found declarations frame bound (OwnCallOf place method arguments) type reported = absurd (none-some type reported)
  typed_found declarations frame bound (FieldOf place name_place name) type reported = absurd (none-some type reported)

  -- the same of several expressions
  pub all_typed_found : (declarations : List DeclTree) (frame : Frame) (bound : List PlainType) (expr_trees : ExprTrees)
      (types : List PlainType) → types_in declarations frame (map Some bound) expr_trees ≡ Some types
      → HaveTypes declarations frame bound expr_trees types
  all_typed_found declarations frame bound NoExpr types reported =
      subst (HaveTypes declarations frame bound NoExpr) (same_Some [] types reported) (no_expr bound)
  all_typed_found declarations frame bound (NextExpr first others) types reported =
      let found = both_types_found (type_in declarations frame (map Some bound) first)
      (types_in declarations frame (map Some bound) others) types reported in
      subst (HaveTypes declarations frame bound (NextExpr first others)) found.4
      (next_expr bound first others found.0 found.1
      (typed_found declarations frame bound first found.0 found.2)
      (all_typed_found declarations frame bound others found.1 found.3))

  -- operators after an operand have the type that the function gives
  operands_typed : (declarations : List DeclTree) (frame : Frame) (bound : List PlainType) (operands : Operands)
      (left : PlainType) (given : List (Operator × PlainType)) (type : PlainType)
      → operands_in declarations frame (map Some bound) operands ≡ Some given
      → operand_types declarations left given ≡ Some type
      → HaveOperands declarations frame bound left operands type
  operands_typed declarations frame bound NoOperands left given type there reported =
      subst (HaveOperands declarations frame bound left NoOperands)
      (same_Some left type (ap (operand_types declarations left) (same_Some [] given there) ∙ reported))
      (no_operand bound left)
  operands_typed declarations frame bound (NextOperand operator right others) left given type there reported =
      let found = both_operands_found operator (type_in declarations frame (map Some bound) right)
      (operands_in declarations frame (map Some bound) others) given there in
      option_and_then_some (λ between. operand_types declarations between found.1)
      (operator_type declarations operator left found.0) type
      (ap (operand_types declarations left) found.4 ∙ reported)
      (λ between gives later. next_operand bound left operator right others found.0 between type
      (typed_found declarations frame bound right found.0 found.2)
      (operator_found declarations operator left found.0 between gives)
      (operands_typed declarations frame bound others between found.1 type found.3 later))

  -- branches have the types that the function gives
  branches_typed : (declarations : List DeclTree) (frame : Frame) (bound : List PlainType) (subject : PlainType)
      (branches : Branches) (types : List PlainType)
      → branches_in declarations frame (map Some bound) (Some subject) branches ≡ Some types
      → HaveBranches declarations frame bound subject branches types
  branches_typed declarations frame bound subject NoBranch types reported =
      subst (HaveBranches declarations frame bound subject NoBranch) (same_Some [] types reported)
      (no_branch bound subject)
  branches_typed declarations frame bound subject (NextBranch pattern value others) types reported =
      let variables = pattern_types declarations (Some subject) pattern in
      let is_fit = pattern_fits declarations (Some subject) pattern in
      let value_type = type_in declarations frame (map Some bound ++ variables) value in
      let found = both_types_found (if is_fit then value_type else None)
      (branches_in declarations frame (map Some bound) (Some subject) others) types reported in
      let both = if-found is_fit value_type found.0 found.2 in
      let matched = pattern_matched declarations subject pattern
      (fitting_unoffending declarations (Some subject) pattern both.0) in
      subst (HaveBranches declarations frame bound subject (NextBranch pattern value others)) found.4
      (next_branch bound subject pattern value others matched.0 found.0 found.1 matched.1
      (typed_found declarations frame (bound ++ matched.0) value found.0
      (ap (λ known. type_in declarations frame known value)
      (sym (bound_after bound matched.0 variables (match_types matched.1))) ∙ both.1))
      (branches_typed declarations frame bound subject others found.1 found.3))

mutual
  -- each reason gives the type
  pub typed_whole : {declarations : List DeclTree} {frame : Frame} {bound : List PlainType} {expr_tree : ExprTree}
      {type : PlainType} → HasType declarations frame bound expr_tree type
      → type_in declarations frame (map Some bound) expr_tree ≡ Some type
  typed_whole (number bound place value) = refl
  typed_whole (string bound place value) = refl
  typed_whole (null bound place) = refl
  typed_whole (destiny bound place result is) = rw is refl
  typed_whole (this bound place class is) = rw is refl
  typed_whole (slot bound place index type is) = rw is refl
  typed_whole (bound_variable bound place depth type is) = bound_whole bound depth type is
  typed_whole (field bound place index type is) = is
  typed_whole {declarations} {frame}
      (let_in bound place variable_place declared variable value body given type has_value fit has_body) =
      let_reported declarations (plain declared) (type_in declarations frame (map Some bound) value)
      (type_in declarations frame (map Some bound ++ Some (plain declared) ∷ []) body) given type
      (typed_whole has_value) (fits_whole fit)
      (ap (λ known. type_in declarations frame known body)
      (bound_after bound (plain declared ∷ []) (Some (plain declared) ∷ []) refl) ∙ typed_whole has_body)
  typed_whole {declarations} {frame}
      (if_else bound place condition first second given one other type has_condition fit has_first has_second joined) =
      if_rule_reported declarations (type_in declarations frame (map Some bound) condition)
      (type_in declarations frame (map Some bound) first) (type_in declarations frame (map Some bound) second)
      given one other type (typed_whole has_condition) (fits_whole fit) (typed_whole has_first) (typed_whole has_second)
      joined
  typed_whole {declarations} (operators bound place first _ left type has_first have) =
      let whole = operands_whole have in
      ap₂ (operators_type declarations) (typed_whole has_first) whole.1 ∙ whole.2
  typed_whole {declarations} (prefixed bound place prefix operand given type has_operand gives) =
      ap (option_and_then (prefix_type declarations prefix)) (typed_whole has_operand) ∙ prefix_whole gives
  typed_whole {declarations} (apply bound place function arguments scheme given type is have reported) =
      ap₂ (application_type declarations) is (all_typed_whole have) ∙ reported
  typed_whole {declarations} (build bound place constructor arguments scheme given type is have reported) =
      ap₂ (application_type declarations) is (all_typed_whole have) ∙ reported
  typed_whole {declarations} {frame} (case_of bound place subject branches given types type has_subject have reported) =
      let subject_is = typed_whole has_subject in
      ap₂ (case_type declarations) subject_is
      (ap (λ known. branches_in declarations frame (map Some bound) known branches) subject_is
      ∙ branches_whole have) ∙ reported

  -- the same of several expressions
  pub all_typed_whole : {declarations : List DeclTree} {frame : Frame} {bound : List PlainType} {expr_trees : ExprTrees}
      {types : List PlainType} → HaveTypes declarations frame bound expr_trees types
      → types_in declarations frame (map Some bound) expr_trees ≡ Some types
  all_typed_whole (no_expr bound) = refl
  all_typed_whole (next_expr bound first others type types has_first have) =
      ap₂ both_types (typed_whole has_first) (all_typed_whole have)

  -- each reason of operators after an operand gives the type, by those of the operands
  operands_whole : {declarations : List DeclTree} {frame : Frame} {bound : List PlainType} {left : PlainType}
      {operands : Operands} {type : PlainType} → HaveOperands declarations frame bound left operands type
      → (given : List (Operator × PlainType))
      × (operands_in declarations frame (map Some bound) operands ≡ Some given)
      × (operand_types declarations left given ≡ Some type)
  operands_whole (no_operand bound left) = ([], refl, refl)
  operands_whole {declarations}
      (next_operand bound left operator right others given between type has_right gives have) =
      let rest = operands_whole have in (
        (operator, given) ∷ rest.0,
        ap₂ (both_operands operator) (typed_whole has_right) rest.1,
        ap (option_and_then (λ one. operand_types declarations one rest.0)) (operator_whole gives) ∙ rest.2,
      )

  -- each reason of branches gives their types
  branches_whole : {declarations : List DeclTree} {frame : Frame} {bound : List PlainType} {subject : PlainType}
      {branches : Branches} {types : List PlainType} → HaveBranches declarations frame bound subject branches types
      → branches_in declarations frame (map Some bound) (Some subject) branches ≡ Some types
  branches_whole (no_branch bound subject) = refl
  branches_whole {declarations} {frame}
      (next_branch bound subject pattern value others variables type types matched has_value have) =
      let known = pattern_types declarations (Some subject) pattern in
      ap₂ both_types
      (if-reported (pattern_fits declarations (Some subject) pattern)
      (type_in declarations frame (map Some bound ++ known) value) type
      (unoffending_fitting declarations (Some subject) pattern (match_unoffending matched))
      (ap (λ types. type_in declarations frame types value) (bound_after bound variables known (match_types matched))
      ∙ typed_whole has_value))
      (branches_whole have)
