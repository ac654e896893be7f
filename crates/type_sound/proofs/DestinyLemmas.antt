-- An expression without `destiny` has its type also where there is no task.
--
--   `without_destiny`, `all_without_destiny`       an expression, and a list of expressions
use Rattle.std.proofs.Common.{◌≡◌, List, [], ◌++◌, None}
use Rattle.abs_profile.specs.Profile.{expr_offences, exprs_offences, operands_offences, branches_offences}
use Rattle.abs_tree.specs.Syntax.{DeclTree, ExprTree, ExprTrees, Operands, Branches}
use Rattle.abs_types.specs.HasType.{HasType, HaveTypes, HaveOperands, HaveBranches, number, string, null, destiny, this, slot, bound_variable, field, let_in, if_else, operators, prefixed, apply, build, case_of, no_expr, next_expr, no_operand, next_operand, no_branch, next_branch}
use Rattle.abs_types.specs.PlainTypes.{PlainType}
use Rattle.abs_types.specs.Typing.{Frame}
use Rattle.list_facts.proofs.AppendLemmas.{both_empty}

module _ (declarations : List DeclTree) (frame : Frame) where
  -- what is around an expression, without a task
  abbrev free : Frame
  free = record frame { task = None }

  mutual
    -- an expression
    pub without_destiny : (bound : List PlainType) (expr_tree : ExprTree) (type : PlainType)
        → expr_offences expr_tree ≡ [] → HasType declarations frame bound expr_tree type
        → HasType declarations (record frame { task = None }) bound expr_tree type
    without_destiny bound _ _ none (number b place value) = number bound place value
    without_destiny bound _ _ none (string b place value) = string bound place value
    without_destiny bound _ _ none (null b place) = null bound place
    without_destiny bound _ _ none (destiny b place result is) = absurd cc
    without_destiny bound _ _ none (this b place class is) = this bound place class is
    without_destiny bound _ _ none (slot b place index type there) = slot bound place index type there
    without_destiny bound _ _ none (bound_variable b place depth type there) =
        bound_variable bound place depth type there
    without_destiny bound _ _ none (field b place index type there) = field bound place index type there
    without_destiny bound _ _ none
        (let_in b place variable_place declared variable value body given type value_is fit body_is) =
        let parts = both_empty (expr_offences value) (expr_offences body) none in
        let_in bound place variable_place declared variable value body given type
        (without_destiny bound value given parts.0 value_is) fit (without_destiny _ body type parts.1 body_is)
    without_destiny bound _ _ none
        (if_else b place condition first second given one other type condition_is fit first_is second_is joined) =
        let parts = both_empty (expr_offences condition) (expr_offences first ++ expr_offences second) none in
        let branches = both_empty (expr_offences first) (expr_offences second) parts.1 in
        if_else bound place condition first second given one other type
        (without_destiny bound condition given parts.0 condition_is) fit
        (without_destiny bound first one branches.0 first_is) (without_destiny bound second other branches.1 second_is)
        joined
    without_destiny bound _ _ none (operators b place first operands start type first_is more) =
        let parts = both_empty (expr_offences first) (operands_offences operands) none in
        operators bound place first operands start type (without_destiny bound first start parts.0 first_is)
        (operands_without bound start operands type parts.1 more)
    without_destiny bound _ _ none (prefixed b place prefix operand given type is gives) =
        prefixed bound place prefix operand given type (without_destiny bound operand given none is) gives
    without_destiny bound _ _ none (apply b place function arguments scheme given type found are applied) =
        apply bound place function arguments scheme given type found
        (all_without_destiny bound arguments given none are) applied
    without_destiny bound _ _ none (build b place constructor arguments scheme given type found are applied) =
        build bound place constructor arguments scheme given type found
        (all_without_destiny bound arguments given none are) applied
    without_destiny bound _ _ none (case_of b place subject branches given owns type subject_is are joined) =
        let parts = both_empty (expr_offences subject) (branches_offences branches) none in
        case_of bound place subject branches given owns type (without_destiny bound subject given parts.0 subject_is)
        (branches_without bound given branches owns parts.1 are) joined

    -- a list of expressions
    pub all_without_destiny : (bound : List PlainType) (expr_trees : ExprTrees) (given : List PlainType)
        → exprs_offences expr_trees ≡ [] → HaveTypes declarations frame bound expr_trees given
        → HaveTypes declarations (record frame { task = None }) bound expr_trees given
    all_without_destiny bound _ _ none (no_expr b) = no_expr bound
    all_without_destiny bound _ _ none (next_expr b first others type types has have) =
        let parts = both_empty (expr_offences first) (exprs_offences others) none in
        next_expr bound first others type types (without_destiny bound first type parts.0 has)
        (all_without_destiny bound others types parts.1 have)

    -- operators of one precedence
    operands_without : (bound : List PlainType) (left : PlainType) (operands : Operands) (type : PlainType)
        → operands_offences operands ≡ [] → HaveOperands declarations frame bound left operands type
        → HaveOperands declarations (record frame { task = None }) bound left operands type
    operands_without bound _ _ _ none (no_operand b left) = no_operand bound left
    operands_without bound _ _ _ none (next_operand b left operator right others given between type has gives more) =
        let parts = both_empty (expr_offences right) (operands_offences others) none in
        next_operand bound left operator right others given between type (without_destiny bound right given parts.0 has)
        gives (operands_without bound between others type parts.1 more)

    -- the branches of a `case`
    branches_without : (bound : List PlainType) (subject : PlainType) (branches : Branches) (owns : List PlainType)
        → branches_offences branches ≡ [] → HaveBranches declarations frame bound subject branches owns
        → HaveBranches declarations (record frame { task = None }) bound subject branches owns
    branches_without bound _ _ _ none (no_branch b subject) = no_branch bound subject
    branches_without bound _ _ _ none
        (next_branch b subject pattern value others variables type types matches has more) =
        let parts = both_empty (expr_offences value) (branches_offences others) none in
        next_branch bound subject pattern value others variables type types matches
        (without_destiny _ value type parts.0 has) (branches_without bound subject others types parts.1 more)
