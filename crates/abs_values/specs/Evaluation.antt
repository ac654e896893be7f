-- The definition of evaluation: the value or the fault of an expression, and how many functions its statement has
-- applied by then. It is a recursion on the levels that are left: a part of an expression, a chosen branch, and the
-- body of `let` or of a function have one level less than the expression that evaluates them. There is an equation for
-- each form of expression. Where no other case applies the result is the fault Mistyped.
--
-- Of the program it takes the library alone, and it is a function. So an expression has one result, which depends on
-- the program's functions and names and on nothing else of it.
--
--   `evaluate`                                 the outcome of an expression with some levels left
--   `result_of`, `results_of`                  the result of a statement's own expression, and of all its expressions
--   `Outcome`, `Outcomes`                      a result or results, with the applications so far
--   `outcomes_of`, `initial_outcomes`          the outcomes of a list of expressions, and of initial values
--   `operators_outcome`, `application_outcome`, ..     the steps of evaluation that are no recursion
use Rattle.std.specs.Prelude.{ℕ, zero, suc, ◌+◌, nat_eq, nat_lt, Bool, true, false, List, [], ◌∷◌, ◌++◌, codes, length, Option, Some, None, if◌then◌else◌}
use Rattle.std.specs.Str.{bytes_eq}
use Rattle.abs_tree.specs.Limits.{application_limit, level_limit}
use Rattle.abs_tree.specs.Names.{number_of_name}
use Rattle.abs_values.specs.Operations.{truth_value, truth_of, answer_result, prefix_result, operation_result, matched}
use Rattle.abs_values.specs.Printed.{printed_form}
use Rattle.abs_values.specs.Results.{Result, Gives, Fails, Results, AllGive, OneFails, string_result, built_result}
use Rattle.abs_values.specs.Scopes.{FunctionBody, function_named, Library, Scope, own_scope, with_bound, Location, InThis, location_of, value_at}
use Rattle.abs_tree.specs.Syntax.{Name, ExprTree, LetIn, IfElse, OperatorsOf, Prefixed, NumberOf, StringOf, NullOf, DestinyOf, ThisOf, FieldOf, OwnCallOf, VariableOf, ApplyOf, BuildOf, CaseOf, ExprTrees, NoExpr, NextExpr, Operands, NoOperands, NextOperand, Branches, NoBranch, NextBranch}
use Rattle.abs_values.specs.ValueTrees.{ValueTree, IntValue, NullValue, parts_of_list}
use Rattle.abs_values.specs.declared.evaluated.Fault.TheVariants as fault
use Rattle.abs_tree.specs.declared.syntax.expression.Operator.{Operator}
use Rattle.abs_tree.specs.declared.syntax.expression.Operator.TheVariants as operator

-- the result of an expression, and the applications so far
pub record Outcome : Type 0 where
  pub result : Result
  pub applications : ℕ

-- the results of a list of expressions, and the applications so far
pub record Outcomes : Type 0 where
  pub results : Results
  pub applications : ℕ

abbrev pub ends_with : Result → ℕ → Outcome
ends_with result made = record { result = result; applications = made }

abbrev pub all_end_with : Results → ℕ → Outcomes
all_end_with results made = record { results = results; applications = made }

-- what follows a value; after a fault nothing is evaluated
abbrev pub outcome_after : Outcome → (ValueTree → ℕ → Outcome) → Outcome
outcome_after found next = after found.result found.applications next
  where
    after : Result → ℕ → (ValueTree → ℕ → Outcome) → Outcome
    after (Gives value) made next = next value made
    after (Fails cause) made next = ends_with (Fails cause) made

-- what follows the values of a list of expressions; after a fault nothing is evaluated
abbrev pub outcome_after_all : Outcomes → (List ValueTree → ℕ → Outcome) → Outcome
outcome_after_all found next = after found.results found.applications next
  where
    after : Results → ℕ → (List ValueTree → ℕ → Outcome) → Outcome
    after (AllGive values) made next = next values made
    after (OneFails cause) made next = ends_with (Fails cause) made

-- a result that follows from a value, without an application
abbrev pub result_after : Outcome → (ValueTree → Result) → Outcome
result_after found next = outcome_after found (λ value made. ends_with (next value) made)

-- a value before the results of the rest
abbrev pub results_with : ValueTree → Results → Results
results_with value (AllGive values) = AllGive (value ∷ values)
results_with value (OneFails cause) = OneFails cause

-- a result before the outcomes of the rest; a fault ends the list
abbrev pub outcomes_after : Outcome → (ValueTree → ℕ → Outcomes) → Outcomes
outcomes_after found next = after found.result found.applications next
  where
    after : Result → ℕ → (ValueTree → ℕ → Outcomes) → Outcomes
    after (Gives value) made next = next value made
    after (Fails cause) made next = all_end_with (OneFails cause) made

-- the outcomes of expressions from the left, each after the applications of those before it
abbrev pub outcomes_of : (ExprTree → ℕ → Outcome) → ExprTrees → ℕ → Outcomes
outcomes_of give NoExpr made = all_end_with (AllGive []) made
outcomes_of give (NextExpr first others) made = outcomes_after (give first made) (λ value now.
    all_end_with (results_with value (outcomes_of give others now).results) (outcomes_of give others now).applications)

-- the result of reading a location; where there is none, or no value, it is the fault Mistyped
abbrev pub read_result : Scope → Option Location → Result
read_result scope None = Fails fault.Mistyped
read_result scope (Some location) = found_result (value_at scope location)
  where
    found_result : Option ValueTree → Result
    found_result (Some value) = Gives value
    found_result None = Fails fault.Mistyped

-- the outcome of one of two branches, by an answer
abbrev pub chosen_outcome : (ExprTree → ℕ → Outcome) → ExprTree → ExprTree → Option Bool → ℕ → Outcome
chosen_outcome give first second (Some true) made = give first made
chosen_outcome give first second (Some false) made = give second made
chosen_outcome give first second None made = ends_with (Fails fault.Mistyped) made

-- the outcome of the first branch whose pattern matches, with what its variables take
abbrev pub branches_outcome : List Name → (List ValueTree → ExprTree → ℕ → Outcome) → Branches → ValueTree → ℕ → Outcome
branches_outcome names give NoBranch value made = ends_with (Fails fault.Match) made
branches_outcome names give (NextBranch pattern first others) value made =
    taken (matched names pattern value) (λ values. give values first made) (branches_outcome names give others value made)
  where
    taken : Option (List ValueTree) → (List ValueTree → Outcome) → Outcome → Outcome
    taken (Some values) first others = first values
    taken None first others = others

-- the outcome of `&&` or `||` after the answer of its left operand: the answer that decides is the result, and
-- otherwise the right operand must be a Bool
abbrev pub logical_outcome : List Name → (ExprTree → ℕ → Outcome) → Bool → ExprTree → Option Bool → ℕ → Outcome
logical_outcome names give true right (Some true) made = ends_with (Gives (truth_value names true)) made
logical_outcome names give false right (Some false) made = ends_with (Gives (truth_value names false)) made
logical_outcome names give true right (Some false) made =
    result_after (give right made) (λ value. answer_result names (truth_of names value))
logical_outcome names give false right (Some true) made =
    result_after (give right made) (λ value. answer_result names (truth_of names value))
logical_outcome names give decides right None made = ends_with (Fails fault.Mistyped) made

-- the outcome of one operator after the value of its left side
abbrev pub operand_outcome : List Name → (ExprTree → ℕ → Outcome) → Operator → ExprTree → ValueTree → ℕ → Outcome
operand_outcome names give operator.And right left made =
    logical_outcome names give false right (truth_of names left) made
operand_outcome names give operator.Or right left made =
    logical_outcome names give true right (truth_of names left) made
operand_outcome names give operation right left made =
    result_after (give right made) (operation_result names operation left)

-- the outcome of an operator list, applied from the left
abbrev pub operators_outcome : List Name → (ExprTree → ℕ → Outcome) → Outcome → Operands → Outcome
operators_outcome names give left NoOperands = left
operators_outcome names give left (NextOperand operation right others) =
    operators_outcome names give (outcome_after left (operand_outcome names give operation right)) others

-- `toString`: the printed form of its one argument
abbrev pub string_of_result : List Name → List ValueTree → Result
string_of_result names [] = Fails fault.Mistyped
string_of_result names (value ∷ []) = string_result (printed_form names value)
string_of_result names (value ∷ other ∷ others) = Fails fault.Mistyped

-- the outcome of a function that is declared: that of its body, if it has as many parameters
abbrev pub body_outcome : (List ValueTree → ExprTree → ℕ → Outcome) → List ValueTree → Option FunctionBody → ℕ → Outcome
body_outcome give values None made = ends_with (Fails fault.Mistyped) made
body_outcome give values (Some function) made =
    if nat_eq (length values) function.arity then give values function.value made
    else ends_with (Fails fault.Mistyped) made

-- the outcome of a function for its arguments
abbrev pub function_outcome : Library → (List ValueTree → ExprTree → ℕ → Outcome) → Name → List ValueTree → ℕ → Outcome
function_outcome library give name values made =
    if bytes_eq name (codes "toString") then ends_with (string_of_result library.names values) made
    else body_outcome give values (function_named library.functions name) made

-- the outcome of an application after its arguments: it is counted, and the first one past the limit is a fault
abbrev pub application_outcome : Library → (List ValueTree → ExprTree → ℕ → Outcome) → Name → List ValueTree → ℕ → Outcome
application_outcome library give name values made =
    if nat_lt made application_limit then function_outcome library give name values (made + 1)
    else ends_with (Fails fault.Calls) made

-- the outcome of an expression with this many levels left, after this many applications
unfoldable pub evaluate : Library → Scope → ℕ → ExprTree → ℕ → Outcome
evaluate library scope zero expr_tree made = ends_with (Fails fault.Levels) made
evaluate library scope (suc left) (NumberOf place number) made = ends_with (Gives (IntValue number)) made
evaluate library scope (suc left) (StringOf place string) made = ends_with (string_result string) made
evaluate library scope (suc left) (NullOf place) made = ends_with (Gives NullValue) made
evaluate library scope (suc left) (ThisOf place) made = ends_with (read_result scope (Some InThis)) made
evaluate library scope (suc left) (VariableOf place variable) made =
    ends_with (read_result scope (location_of variable)) made
evaluate library scope (suc left) (LetIn place type variable_place variable value body) made =
    outcome_after (evaluate library scope left value made)
    (λ found. evaluate library (with_bound scope (found ∷ [])) left body)
evaluate library scope (suc left) (IfElse place condition first second) made =
    outcome_after (evaluate library scope left condition made)
    (λ found. chosen_outcome (evaluate library scope left) first second (truth_of library.names found))
evaluate library scope (suc left) (CaseOf place subject branches) made =
    outcome_after (evaluate library scope left subject made)
    (branches_outcome library.names (λ values. evaluate library (with_bound scope values) left) branches)
evaluate library scope (suc left) (OperatorsOf place first operands) made =
    operators_outcome library.names (evaluate library scope left) (evaluate library scope left first made) operands
evaluate library scope (suc left) (Prefixed place prefix operand) made =
    result_after (evaluate library scope left operand made) (prefix_result library.names prefix)
evaluate library scope (suc left) (BuildOf place constructor arguments) made =
    outcome_after_all (outcomes_of (evaluate library scope left) arguments made) (λ values.
    ends_with (built_result (number_of_name library.names constructor) (parts_of_list values)))
evaluate library scope (suc left) (ApplyOf place function arguments) made =
    outcome_after_all (outcomes_of (evaluate library scope left) arguments made)
    (application_outcome library (λ values. evaluate library (own_scope values) left) function)
evaluate library scope (suc left) (DestinyOf place) made = ends_with (Fails fault.Mistyped) made
evaluate library scope (suc left) (FieldOf place name_place name) made = ends_with (Fails fault.Mistyped) made
evaluate library scope (suc left) (OwnCallOf place method arguments) made = ends_with (Fails fault.Mistyped) made

-- the result of a statement's own expression
abbrev pub result_of : Library → Scope → ExprTree → Result
result_of library scope expr_tree = (evaluate library scope level_limit expr_tree 0).result

-- the outcomes of initial values after the values of the fields before them. Each is evaluated with all levels, in a
-- scope whose slots are the values so far; the applications are counted on
unfoldable pub initial_outcomes : Library → ExprTrees → List ValueTree → ℕ → Outcomes
initial_outcomes library NoExpr values made = all_end_with (AllGive values) made
initial_outcomes library (NextExpr first others) values made =
    outcomes_after (evaluate library (own_scope values) level_limit first made)
    (λ value. initial_outcomes library others (values ++ value ∷ []))

-- the outcomes of all expressions of a statement: first its own ones, from the left, and then, for a new object, the
-- initial values of its fields, whose first fields have the values of the arguments
abbrev pub all_outcomes : Library → Scope → ExprTrees → ExprTrees → Outcomes
all_outcomes library scope expr_trees initials = after (outcomes_of (evaluate library scope level_limit) expr_trees 0)
  where
    next : Results → ℕ → Outcomes
    next (AllGive values) made = initial_outcomes library initials values made
    next (OneFails cause) made = all_end_with (OneFails cause) made

    after : Outcomes → Outcomes
    after found = next found.results found.applications

-- their results
abbrev pub results_of : Library → Scope → ExprTrees → ExprTrees → Results
results_of library scope expr_trees initials = (all_outcomes library scope expr_trees initials).results
