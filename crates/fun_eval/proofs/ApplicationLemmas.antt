-- Applications of functions and constructors to the values of their arguments.
--
--   `counted`                  an application within the limit is counted
--   `applied`                  the arguments on the stack are those of the function
--   `to_string_named`, ..      `toString` takes one argument
--   `body_entered`, ..         a function that is declared takes as many as it has parameters
--   `value_parts`              the values of arguments as parts
use Rattle.std.proofs.Common.{◌≡◌, ◌≢◌, ℕ, ◌+◌, ◌-◌, ◌<◌, ◌≤◌, nat_lt, nat_eq, true, false, List, [], ◌∷◌, codes, drop, get_or, length, map, Option, Some, None, refl, sym, ap, ◌∙◌, arith, drop_of_length-le, length-drop}
use Rattle.std.specs.Str.{bytes_eq}
use Rattle.std.proofs.lemmas.Bool.{eq-eqb, lt-ltb, ne_eqb}
use Rattle.std.proofs.lemmas.List.{drop-map, length-map}
use Rattle.abs_values.specs.Evaluation.{Outcome, Outcomes, application_outcome, body_outcome, ends_with, evaluate, function_outcome, outcome_after_all, string_of_result}
use Rattle.abs_tree.specs.Limits.{application_limit}
use Rattle.abs_tree.specs.Names.{name_of}
use Rattle.abs_values.specs.Results.{Fails, Gives, built_result}
use Rattle.abs_values.specs.Scopes.{FunctionBody, Library, function_named, own_scope}
use Rattle.abs_tree.specs.Syntax.{Name, ExprTree}
use Rattle.abs_values.specs.ValueTrees.{ValueTree, NextPart, built_value, parts_of_list}
use Rattle.abs_values.specs.ValueViews.{value_tree, value_trees}
use Rattle.abs_values.specs.declared.evaluated.Fault.TheVariants as fault
use Rattle.abs_tree.specs.declared.symbol.Symbol.{Symbol}
use Rattle.abs_values.specs.declared.value.Value.{Value}
use Rattle.fun_eval.proofs.FrameLemmas.{arguments_counted}
use Rattle.fun_eval.proofs.OutcomeLemmas.{after_values}
use Rattle.fun_eval.proofs.SoFarLemmas.{library_stays, names_stay}
use Rattle.fun_eval.specs.Evaluating.{arguments_in, library_in, names_in, AddedArguments}
use Rattle.fun_eval.specs.declared.evaluator.Evaluator.{Evaluator}
use Rattle.list_facts.proofs.EntryLemmas.{drop_item}

-- an application within the limit is counted
pub counted : (library : Library) (give : List ValueTree → ExprTree → ℕ → Outcome) (name : Name)
    (values : List ValueTree) (made : ℕ) → made < application_limit
    → application_outcome library give name values made ≡ function_outcome library give name values (made + 1)
counted library give name values made fits =
    let is : nat_lt made application_limit ≡ true = lt-ltb made application_limit fits in rw is refl

-- what a function gives for the arguments from an index on
abbrev pub applied_in : Evaluator → ℕ → Symbol → List ValueTree → ℕ → Outcome
applied_in evaluator left function values made =
    application_outcome (library_in evaluator) (λ slots. evaluate (library_in evaluator) (own_scope slots) left)
    (name_of (names_in evaluator) function) values made

-- the same program applies functions in the same way
applied_stays : (before now : Evaluator) (left : ℕ) (function : Symbol) (values : List ValueTree) (made : ℕ)
    → now.library ≡ before.library → applied_in before left function values made ≡ applied_in now left function values made
applied_stays before now left function values made is =
    ap (λ (library : Library). application_outcome library (λ slots. evaluate library (own_scope slots) left)
    (name_of (names_in before) function) values made) (sym (library_stays before now is))
    ∙ ap (λ (names : List Name). application_outcome (library_in now)
    (λ slots. evaluate (library_in now) (own_scope slots) left) (name_of names function) values made)
    (sym (names_stay before now is))

-- the arguments on the stack are those of the function
pub applied : (before now : Evaluator) (left first : ℕ) (function : Symbol) (found : Outcomes)
    → AddedArguments found before now → first ≡ length before.arguments.items
    → outcome_after_all found (applied_in before left function)
    ≡ applied_in now left function (drop first (arguments_in now)) now.applications
applied before now left first function found added counted_first =
    after_values found (drop (length (arguments_in before)) (arguments_in now)) now.applications _ added.are
    ∙ (ap (λ (n : ℕ). applied_in before left function (drop n (arguments_in now)) now.applications)
    (arguments_counted before ∙ sym counted_first)
    ∙ applied_stays before now left function (drop first (arguments_in now)) now.applications added.library_is)

-- `toString`
pub to_string_named : (library : Library) (give : List ValueTree → ExprTree → ℕ → Outcome) (name : Name)
    (values : List ValueTree) (made : ℕ) → bytes_eq name (codes "toString") ≡ true
    → function_outcome library give name values made ≡ ends_with (string_of_result library.names values) made
to_string_named library give name values made is = rw is refl

-- the one value from an index on
pub one_left : (values : List Value) (first : ℕ) (value : Value) → length values - first ≡ 1
    → value ≡ get_or values first value → drop first (map value_tree values) ≡ value_tree value ∷ []
one_left values first value one is =
    let there : first < length values = omega (arith, one) in
    let end : length values ≤ first + 1 = omega (arith, one) in
    drop-map value_tree first values
    ∙ (ap (map value_tree) (drop_item values first value there is)
    ∙ ap (λ (others : List Value). value_tree value ∷ map value_tree others) (drop_of_length-le values end))

-- `toString` of no argument, or of several
pub to_string_other : (names : List Name) (values : List ValueTree) → length values ≢ 1
    → string_of_result names values ≡ Fails fault.Mistyped
to_string_other names [] other = refl
to_string_other names (value ∷ []) other = absurd (other refl)
to_string_other names (value ∷ next ∷ others) other = refl

-- how many values there are from an index on
pub left_counted : (values : List Value) (first : ℕ)
    → length (drop first (map value_tree values)) ≡ length values - first
left_counted values first = ap length (drop-map value_tree first values) ∙ (length-map (drop first values) value_tree
    ∙ length-drop first values)

-- a function that is declared
pub defined_named : (library : Library) (give : List ValueTree → ExprTree → ℕ → Outcome) (name : Name)
    (values : List ValueTree) (made : ℕ) → bytes_eq name (codes "toString") ≡ false
    → function_outcome library give name values made
    ≡ body_outcome give values (function_named library.functions name) made
defined_named library give name values made is = rw is refl

pub body_entered : (give : List ValueTree → ExprTree → ℕ → Outcome) (values : List ValueTree)
    (found : Option FunctionBody) (function : FunctionBody) (made : ℕ) → found ≡ Some function
    → length values ≡ function.arity → body_outcome give values found made ≡ give values function.value made
body_entered give values found function made is same =
    let fits : nat_eq (length values) function.arity ≡ true = eq-eqb (length values) function.arity same in
    rw (is, fits) refl

pub body_other : (give : List ValueTree → ExprTree → ℕ → Outcome) (values : List ValueTree)
    (found : Option FunctionBody) (function : FunctionBody) (made : ℕ) → found ≡ Some function
    → length values ≢ function.arity → body_outcome give values found made ≡ ends_with (Fails fault.Mistyped) made
body_other give values found function made is other =
    let differs : nat_eq (length values) function.arity ≡ false = ne_eqb (length values) function.arity other in
    rw (is, differs) refl

-- the values of arguments as parts
pub value_parts : (values : List Value) → parts_of_list (map value_tree values) ≡ value_trees values
value_parts [] = refl
value_parts (first ∷ others) = ap (NextPart (value_tree first)) (value_parts others)

-- a constructor with its parts is the value that is built, or the fault Large
pub built_given : (constructor : ℕ) (values : List Value) (value : Value)
    → Some (value_tree value) ≡ built_value constructor (value_trees values)
    → built_result constructor (parts_of_list (map value_tree values)) ≡ Gives (value_tree value)
built_given constructor values value is =
    rw (value_parts values) (by_value (built_value constructor (value_trees values)) refl is)
  where
    by_value : (built : Option ValueTree) → built_value constructor (value_trees values) ≡ built
        → Some (value_tree value) ≡ built → built_result constructor (value_trees values) ≡ Gives (value_tree value)
    by_value (Some other) same one = rw same (ap Gives (let this : other ≡ value_tree value = cc in this))
    by_value None same one = absurd (cc)

pub built_large : (constructor : ℕ) (values : List Value) → None ≡ built_value constructor (value_trees values)
    → built_result constructor (parts_of_list (map value_tree values)) ≡ Fails fault.Large
built_large constructor values is = rw (value_parts values, ← is) refl
