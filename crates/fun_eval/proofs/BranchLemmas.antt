-- Where a branch, or the body of `let`, is evaluated in place of the whole expression.
--
--   `gives_bound`              with more bound variables each expression gives what it gives in the wider scope
--   `let_taken`, `case_taken`  the outcome is that of the body, or of the branch
--   `if_taken`                 the outcome is that of the branch that the condition chooses
use Rattle.std.proofs.Common.{◌≡◌, ℕ, ◌+◌, Bool, List, [], ◌∷◌, ◌++◌, Some, drop, length, sym, ap, ◌∙◌, arith, length-append}
use Rattle.abs_values.specs.Evaluation.{Outcome, branches_outcome, chosen_outcome, ends_with, evaluate, outcome_after}
use Rattle.abs_values.specs.Operations.{truth_of}
use Rattle.abs_values.specs.Results.{Gives}
use Rattle.abs_values.specs.Scopes.{Library, Scope, with_bound}
use Rattle.abs_tree.specs.Syntax.{Name, ExprTree}
use Rattle.abs_tree.specs.SyntaxViews.{branches as branch_trees, expr_tree}
use Rattle.abs_values.specs.ValueTrees.{ValueTree}
use Rattle.abs_values.specs.ValueViews.{value_tree}
use Rattle.abs_tree.specs.declared.syntax.expression.Branch.{Branch}
use Rattle.abs_tree.specs.declared.syntax.expression.Expr.{Expr}
use Rattle.abs_values.specs.declared.value.Value.{Value}
use Rattle.fun_eval.proofs.FrameLemmas.{arguments_counted, bound_counted, scope_bound, within_longer, within_trees}
use Rattle.fun_eval.proofs.OutcomeLemmas.{after_value}
use Rattle.fun_eval.proofs.SoFarLemmas.{gives_stays, library_stays, names_stay}
use Rattle.fun_eval.proofs.StackLemmas.{begins_added}
use Rattle.fun_eval.proofs.ValueLemmas.{one_stays}
use Rattle.fun_eval.specs.Evaluating.{arguments_in, bound_in, gives_in, library_in, names_in, outcome_in, scope_in, evaluator_scope, Binds, ChosenBranch, IsWithin, Stays}
use Rattle.fun_eval.specs.declared.evaluator.Evaluator.{Evaluator}
use Rattle.fun_eval.specs.declared.scope.Frame.{Frame}

-- with more bound variables each expression gives what it gives in the wider scope
pub gives_bound : (within : Frame) (left : ℕ) (before now : Evaluator) (taken : List ValueTree)
    → now.library ≡ before.library → arguments_in now ≡ arguments_in before → bound_in now ≡ bound_in before ++ taken
    → IsWithin within before
    → evaluate (library_in before) (with_bound (evaluator_scope within before) taken) left ≡ gives_in now within left
gives_bound within left before now taken library arguments bound is =
    ap (λ (scope : Scope). evaluate (library_in before) scope left)
    (sym (ap (λ (items : List ValueTree). scope_in within items (bound_in now)) arguments
    ∙ (ap (scope_in within (arguments_in before)) bound
    ∙ scope_bound within (arguments_in before) (bound_in before) taken (within_trees within before is))))
    ∙ ap (λ (known : Library). evaluate known (evaluator_scope within now) left) (sym (library_stays before now library))

-- the same of one expression
bound_one : (within : Frame) (left : ℕ) (before now : Evaluator) (taken : List ValueTree) (item : Expr)
    → now.library ≡ before.library → arguments_in now ≡ arguments_in before → bound_in now ≡ bound_in before ++ taken
    → IsWithin within before
    → evaluate (library_in before) (with_bound (evaluator_scope within before) taken) left (expr_tree (names_in before) item)
    now.applications ≡ outcome_in now within left (expr_tree (names_in now) item)
bound_one within left before now taken item library arguments bound is =
    ap (λ (give : ExprTree → ℕ → Outcome). give (expr_tree (names_in before) item) now.applications)
    (gives_bound within left before now taken library arguments bound is)
    ∙ ap (λ (names : List Name). gives_in now within left (expr_tree names item) now.applications)
    (sym (names_stay before now library))

-- what a frame reads is still on the stacks
pub within_bound : (within : Frame) (before now : Evaluator) (taken : List ValueTree)
    → arguments_in now ≡ arguments_in before → bound_in now ≡ bound_in before ++ taken → IsWithin within before
    → IsWithin within now
within_bound within before now taken arguments bound is =
    let longer : length (bound_in now) ≡ length (bound_in before) + length taken =
    ap length bound ∙ length-append (bound_in before) taken in
    within_longer within before now
    (omega (arith, arguments_counted before, arguments_counted now, ap length arguments))
    (omega (arith, bound_counted before, bound_counted now, longer)) is

-- the outcome of a `let` is that of its body
pub let_taken : (within : Frame) (left : ℕ) (before middle now : Evaluator) (found : Outcome) (value : Value)
    (body : Expr) → IsWithin within before → Stays before middle
    → found ≡ ends_with (Gives (value_tree value)) middle.applications → Binds (value_tree value) middle now
    → outcome_after found (λ one. evaluate (library_in before) (with_bound (evaluator_scope within before) (one ∷ [])) left
    (expr_tree (names_in before) body)) ≡ outcome_in now within left (expr_tree (names_in now) body)
let_taken within left before middle now found value body is stays gives binds =
    after_value found (value_tree value) middle.applications _ gives
    ∙ (ap (evaluate (library_in before) (with_bound (evaluator_scope within before) (value_tree value ∷ [])) left
    (expr_tree (names_in before) body)) (sym binds.applications_are)
    ∙ bound_one within left before now (value_tree value ∷ []) body (binds.library_is ∙ stays.library_is)
    (binds.arguments_are ∙ stays.arguments_are)
    (binds.bound_are ∙ ap (λ (items : List ValueTree). items ++ value_tree value ∷ []) stays.bound_are) is)

pub within_let : (within : Frame) (before middle now : Evaluator) (value : ValueTree) → Stays before middle
    → Binds value middle now → IsWithin within before → IsWithin within now
within_let within before middle now value stays binds is =
    within_bound within before now (value ∷ []) (binds.arguments_are ∙ stays.arguments_are)
    (binds.bound_are ∙ ap (λ (items : List ValueTree). items ++ value ∷ []) stays.bound_are) is

-- the outcome of a `case` is that of the branch which is chosen
pub case_taken : (within : Frame) (left : ℕ) (before now : Evaluator) (subject : Outcome) (branches : List Branch)
    (branch : Branch) → IsWithin within before → ChosenBranch subject branches branch before now
    → outcome_after subject (branches_outcome (names_in before)
    (λ values. evaluate (library_in before) (with_bound (evaluator_scope within before) values) left)
    (branch_trees (names_in before) branches)) ≡ outcome_in now within left (expr_tree (names_in now) branch.value)
case_taken within left before now subject branches branch is chosen =
    chosen.is (λ values. evaluate (library_in before) (with_bound (evaluator_scope within before) values) left)
    ∙ bound_one within left before now (drop (length (bound_in before)) (bound_in now)) branch.value chosen.library_is
    chosen.arguments_are (begins_added chosen.begins) is

pub within_chosen : (within : Frame) (before now : Evaluator) (subject : Outcome) (branches : List Branch)
    (branch : Branch) → IsWithin within before → ChosenBranch subject branches branch before now → IsWithin within now
within_chosen within before now subject branches branch is chosen =
    within_bound within before now (drop (length (bound_in before)) (bound_in now)) chosen.arguments_are
    (begins_added chosen.begins) is

-- the outcome of an `if` is that of a branch
pub if_taken : (within : Frame) (left : ℕ) (before now : Evaluator) (found : Outcome) (value : ValueTree)
    (answer : Bool) (first second taken : Expr) → Stays before now → found ≡ ends_with (Gives value) now.applications
    → truth_of (names_in now) value ≡ Some answer
    → chosen_outcome (gives_in before within left) (expr_tree (names_in before) first) (expr_tree (names_in before) second)
    (Some answer) now.applications ≡ gives_in before within left (expr_tree (names_in before) taken) now.applications
    → outcome_after found (λ one. chosen_outcome (gives_in before within left) (expr_tree (names_in before) first)
    (expr_tree (names_in before) second) (truth_of (names_in before) one))
    ≡ outcome_in now within left (expr_tree (names_in now) taken)
if_taken within left before now found value answer first second taken stays gives truth chooses =
    after_value found value now.applications _ gives
    ∙ (ap (λ (one : _). chosen_outcome (gives_in before within left) (expr_tree (names_in before) first)
    (expr_tree (names_in before) second) one now.applications)
    (ap (λ (names : List Name). truth_of names value) (sym (names_stay before now stays.library_is)) ∙ truth)
    ∙ (chooses ∙ one_stays within left taken before now stays.library_is (gives_stays within left stays)))
