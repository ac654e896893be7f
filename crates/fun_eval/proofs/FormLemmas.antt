-- The equation of evaluation for each form of expression, as the code has it: the parts are behind pointers, and the
-- levels that are left are one less.
use Rattle.std.proofs.Common.{◌≡◌, ℕ, ℤ, suc, ◌-◌, List, [], ◌∷◌, Some, arith, refl, ap, ◌∙◌}
use Rattle.std.specs.declared.alloc.Global.{Global}
use Rattle.std.specs.declared.boxed.Box.{Box}
use Rattle.std.specs.declared.sync.Arc.{Arc}
use Rattle.std.specs.declared.vec.Vec.{Vec}
use Rattle.abs_tree.proofs.SyntaxLemmas.{expr_tree-apply, expr_tree-build, expr_tree-case, expr_tree-operators, expr_tree-own_call}
use Rattle.abs_values.specs.Evaluation.{application_outcome, branches_outcome, chosen_outcome, ends_with, evaluate, operators_outcome, outcome_after, outcome_after_all, outcomes_of, read_result, result_after}
use Rattle.abs_tree.specs.Names.{name_of, number_of_name}
use Rattle.abs_values.specs.Operations.{prefix_result, truth_of}
use Rattle.abs_values.specs.Results.{Gives, Fails, built_result, string_result}
use Rattle.abs_values.specs.Scopes.{Library, Scope, InThis, location_of, own_scope, with_bound}
use Rattle.abs_tree.specs.Syntax.{Name, ExprTree}
use Rattle.abs_tree.specs.SyntaxViews.{expr_tree, expr_trees, operand_trees, branches as branch_trees, variable_tree}
use Rattle.abs_values.specs.ValueTrees.{IntValue, NullValue, parts_of_list}
use Rattle.abs_values.specs.declared.evaluated.Fault.TheVariants as fault
use Rattle.abs_tree.specs.declared.place.Place.{Place}
use Rattle.abs_tree.specs.declared.symbol.Symbol.{Symbol}
use Rattle.abs_tree.specs.declared.syntax.expression.Branch.{Branch}
use Rattle.abs_tree.specs.declared.syntax.expression.Expr as code
use Rattle.abs_tree.specs.declared.syntax.expression.Expr.{Expr}
use Rattle.abs_tree.specs.declared.syntax.expression.Operand.{Operand}
use Rattle.abs_tree.specs.declared.syntax.expression.Prefix.{Prefix}
use Rattle.abs_tree.specs.declared.syntax.types.TypeTerm.{TypeTerm}
use Rattle.abs_tree.specs.declared.syntax.variable.Variable.{Variable}

-- an expression whose tree is known, at a level that is left
at_level : (library : Library) (scope : Scope) (names : List Name) (left : ℕ) (expr other : Expr) (tree : ExprTree)
    (made : ℕ) → (left ≡ 0 → ⊥) → expr ≡ other → expr_tree names other ≡ tree
    → evaluate library scope left (expr_tree names expr) made ≡ evaluate library scope (suc (left - 1)) tree made
at_level library scope names left expr other tree made there is same =
    let level : left ≡ suc (left - 1) = omega arith in
    ap (λ (e : Expr). evaluate library scope left (expr_tree names e) made) is
    ∙ (ap (λ (p : ExprTree). evaluate library scope left p made) same
    ∙ ap (λ (l : ℕ). evaluate library scope l tree made) level)

pub no_level : (library : Library) (scope : Scope) (left : ℕ) (tree : ExprTree) (made : ℕ) → left ≡ 0
    → evaluate library scope left tree made ≡ ends_with (Fails fault.Levels) made
unfolding evaluate
no_level library scope left tree made is = rw is refl

pub number_form : (library : Library) (scope : Scope) (names : List Name) (left : ℕ) (expr : Expr) (place : Place)
    (number : ℤ) (made : ℕ) → (left ≡ 0 → ⊥) → expr ≡ code.Number place number
    → evaluate library scope left (expr_tree names expr) made ≡ ends_with (Gives (IntValue number)) made
unfolding evaluate
number_form library scope names left expr place number made there is =
    at_level library scope names left expr _ _ made there is refl

pub string_form : (library : Library) (scope : Scope) (names : List Name) (left : ℕ) (expr : Expr) (place : Place)
    (string : List ℕ) (made : ℕ) → (left ≡ 0 → ⊥) → expr ≡ code.Text place string
    → evaluate library scope left (expr_tree names expr) made ≡ ends_with (string_result string) made
unfolding evaluate
string_form library scope names left expr place string made there is =
    at_level library scope names left expr _ _ made there is refl

pub null_form : (library : Library) (scope : Scope) (names : List Name) (left : ℕ) (expr : Expr) (place : Place)
    (made : ℕ) → (left ≡ 0 → ⊥) → expr ≡ code.Null place
    → evaluate library scope left (expr_tree names expr) made ≡ ends_with (Gives NullValue) made
unfolding evaluate
null_form library scope names left expr place made there is =
    at_level library scope names left expr _ _ made there is refl

pub this_form : (library : Library) (scope : Scope) (names : List Name) (left : ℕ) (expr : Expr) (place : Place)
    (made : ℕ) → (left ≡ 0 → ⊥) → expr ≡ code.This place
    → evaluate library scope left (expr_tree names expr) made ≡ ends_with (read_result scope (Some InThis)) made
unfolding evaluate
this_form library scope names left expr place made there is =
    at_level library scope names left expr _ _ made there is refl

pub variable_form : (library : Library) (scope : Scope) (names : List Name) (left : ℕ) (expr : Expr) (place : Place)
    (variable : Variable) (made : ℕ) → (left ≡ 0 → ⊥) → expr ≡ code.Variable place variable
    → evaluate library scope left (expr_tree names expr) made
    ≡ ends_with (read_result scope (location_of (variable_tree names variable))) made
unfolding evaluate
variable_form library scope names left expr place variable made there is =
    at_level library scope names left expr _ _ made there is refl

pub destiny_form : (library : Library) (scope : Scope) (names : List Name) (left : ℕ) (expr : Expr) (place : Place)
    (made : ℕ) → (left ≡ 0 → ⊥) → expr ≡ code.Destiny place
    → evaluate library scope left (expr_tree names expr) made ≡ ends_with (Fails fault.Mistyped) made
unfolding evaluate
destiny_form library scope names left expr place made there is =
    at_level library scope names left expr _ _ made there is refl

pub field_form : (library : Library) (scope : Scope) (names : List Name) (left : ℕ) (expr : Expr)
    (place name_place : Place) (name : Symbol) (made : ℕ) → (left ≡ 0 → ⊥) → expr ≡ code.Field place name_place name
    → evaluate library scope left (expr_tree names expr) made ≡ ends_with (Fails fault.Mistyped) made
unfolding evaluate
field_form library scope names left expr place name_place name made there is =
    at_level library scope names left expr _ _ made there is refl

pub own_call_form : (library : Library) (scope : Scope) (names : List Name) (left : ℕ) (expr : Expr) (place : Place)
    (method : Symbol) (arguments : Arc (Vec Expr Global) Global) (made : ℕ) → (left ≡ 0 → ⊥)
    → expr ≡ code.OwnCall place method arguments
    → evaluate library scope left (expr_tree names expr) made ≡ ends_with (Fails fault.Mistyped) made
unfolding evaluate
own_call_form library scope names left expr place method arguments made there is =
    at_level library scope names left expr _ _ made there is (expr_tree-own_call names place method arguments)

pub operators_form : (library : Library) (scope : Scope) (names : List Name) (left : ℕ) (expr : Expr) (place : Place)
    (first : Box Expr Global) (operands : Vec Operand Global) (made : ℕ) (first_now : Expr)
    (operands_now : List Operand) → (left ≡ 0 → ⊥) → expr ≡ code.Operators place first operands
    → first_now ≡ first.value → operands_now ≡ operands.items
    → evaluate library scope left (expr_tree names expr) made
    ≡ operators_outcome library.names (evaluate library scope (left - 1))
    (evaluate library scope (left - 1) (expr_tree names first_now) made) (operand_trees names operands_now)
unfolding evaluate
operators_form library scope names left expr place first operands made first_now operands_now there is first_is are =
    rw (first_is, are)
    (at_level library scope names left expr _ _ made there is (expr_tree-operators names place first operands))

pub prefixed_form : (library : Library) (scope : Scope) (names : List Name) (left : ℕ) (expr : Expr) (place : Place)
    (prefix : Prefix) (operand : Box Expr Global) (made : ℕ) (operand_now : Expr) → (left ≡ 0 → ⊥)
    → expr ≡ code.Prefixed place prefix operand → operand_now ≡ operand.value
    → evaluate library scope left (expr_tree names expr) made
    ≡ result_after (evaluate library scope (left - 1) (expr_tree names operand_now) made)
    (prefix_result library.names prefix)
unfolding evaluate
prefixed_form library scope names left expr place prefix operand made operand_now there is operand_is =
    rw operand_is (at_level library scope names left expr _ _ made there is refl)

pub if_form : (library : Library) (scope : Scope) (names : List Name) (left : ℕ) (expr : Expr) (place : Place)
    (condition first second : Box Expr Global) (made : ℕ) (condition_now first_now second_now : Expr)
    → (left ≡ 0 → ⊥) → expr ≡ code.If place condition first second → condition_now ≡ condition.value
    → first_now ≡ first.value → second_now ≡ second.value
    → evaluate library scope left (expr_tree names expr) made
    ≡ outcome_after (evaluate library scope (left - 1) (expr_tree names condition_now) made)
    (λ found. chosen_outcome (evaluate library scope (left - 1)) (expr_tree names first_now) (expr_tree names second_now)
    (truth_of library.names found))
unfolding evaluate
if_form library scope names left expr place condition first second made condition_now first_now second_now there is
    condition_is first_is second_is =
    rw (condition_is, first_is, second_is) (at_level library scope names left expr _ _ made there is refl)

pub let_form : (library : Library) (scope : Scope) (names : List Name) (left : ℕ) (expr : Expr)
    (place variable_place : Place) (type : Box TypeTerm Global) (variable : Variable) (value body : Box Expr Global)
    (made : ℕ) (value_now body_now : Expr) → (left ≡ 0 → ⊥)
    → expr ≡ code.Let place type variable_place variable value body → value_now ≡ value.value → body_now ≡ body.value
    → evaluate library scope left (expr_tree names expr) made
    ≡ outcome_after (evaluate library scope (left - 1) (expr_tree names value_now) made)
    (λ found. evaluate library (with_bound scope (found ∷ [])) (left - 1) (expr_tree names body_now))
unfolding evaluate
let_form library scope names left expr place variable_place type variable value body made value_now body_now there is
    value_is body_is =
    rw (value_is, body_is) (at_level library scope names left expr _ _ made there is refl)

pub case_form : (library : Library) (scope : Scope) (names : List Name) (left : ℕ) (expr : Expr) (place : Place)
    (subject : Box Expr Global) (branches : Vec Branch Global) (made : ℕ) (subject_now : Expr)
    (branches_now : List Branch) → (left ≡ 0 → ⊥) → expr ≡ code.Case place subject branches
    → subject_now ≡ subject.value → branches_now ≡ branches.items
    → evaluate library scope left (expr_tree names expr) made
    ≡ outcome_after (evaluate library scope (left - 1) (expr_tree names subject_now) made)
    (branches_outcome library.names (λ values. evaluate library (with_bound scope values) (left - 1))
    (branch_trees names branches_now))
unfolding evaluate
case_form library scope names left expr place subject branches made subject_now branches_now there is subject_is are =
    rw (subject_is, are)
    (at_level library scope names left expr _ _ made there is (expr_tree-case names place subject branches))

pub apply_form : (library : Library) (scope : Scope) (names : List Name) (left : ℕ) (expr : Expr) (place : Place)
    (function : Symbol) (arguments : Vec Expr Global) (made : ℕ) (arguments_now : List Expr) → (left ≡ 0 → ⊥)
    → expr ≡ code.Apply place function arguments → arguments_now ≡ arguments.items
    → evaluate library scope left (expr_tree names expr) made
    ≡ outcome_after_all (outcomes_of (evaluate library scope (left - 1)) (expr_trees names arguments_now) made)
    (application_outcome library (λ values. evaluate library (own_scope values) (left - 1)) (name_of names function))
unfolding evaluate
apply_form library scope names left expr place function arguments made arguments_now there is are =
    rw are (at_level library scope names left expr _ _ made there is (expr_tree-apply names place function arguments))

pub build_form : (library : Library) (scope : Scope) (names : List Name) (left : ℕ) (expr : Expr) (place : Place)
    (constructor : Symbol) (arguments : Vec Expr Global) (made : ℕ) (arguments_now : List Expr) → (left ≡ 0 → ⊥)
    → expr ≡ code.Build place constructor arguments → arguments_now ≡ arguments.items
    → evaluate library scope left (expr_tree names expr) made
    ≡ outcome_after_all (outcomes_of (evaluate library scope (left - 1)) (expr_trees names arguments_now) made)
    (λ values. ends_with (built_result (number_of_name library.names (name_of names constructor)) (parts_of_list values)))
unfolding evaluate
build_form library scope names left expr place constructor arguments made arguments_now there is are =
    rw are (at_level library scope names left expr _ _ made there is (expr_tree-build names place constructor arguments))
