-- What a frame reads while values are added to the stacks.
--
--   `scope_arguments`              values above its arguments change nothing
--   `scope_bound`                  values above its variables are bound too
--   `scope_call`, `within_call`    the body of a function reads its arguments, which are on the stack
--   `scope_stays`, `within_stays`  where the stacks are as before
use Rattle.std.proofs.Common.{◌≡◌, ℕ, ◌+◌, ◌-◌, ◌≤◌, List, [], ◌++◌, take, drop, length, arith, refl, sym, ap, ◌∙◌, subst, None, length-drop}
use Rattle.std.proofs.lemmas.List.{drop-append-le, length-map, take-append-le}
use Rattle.std.proofs.Math.Seq.{drop-length, take-length}
use Rattle.abs_values.specs.Scopes.{Scope, own_scope, with_bound}
use Rattle.abs_values.specs.ValueTrees.{ValueTree}
use Rattle.abs_values.specs.ValueViews.{value_tree}
use Rattle.fun_eval.specs.Evaluating.{arguments_in, bound_in, scope_in, evaluator_scope, AreWithin, IsWithin, Stays}
use Rattle.fun_eval.specs.declared.evaluator.Evaluator.{Evaluator}
use Rattle.fun_eval.specs.declared.scope.Frame.{Frame}
use Rattle.fun_eval.specs.declared.scope.Frame.TheVariants as frame

-- what the body of a function reads
abbrev called : List ValueTree → List ValueTree → Scope
called arguments bound = record { this = None; slots = arguments; fields = []; bound = bound }

-- values above the arguments of a function
arguments_stay : (first count : ℕ) (arguments more : List ValueTree) → first + count ≤ length arguments
    → take count (drop first (arguments ++ more)) ≡ take count (drop first arguments)
arguments_stay first count arguments more within =
    let begins : first ≤ length arguments = omega (arith, within) in
    let fits : count ≤ length (drop first arguments) = omega (arith, within, length-drop first arguments) in
    ap (take count) (drop-append-le first arguments more begins)
    ∙ take-append-le count (drop first arguments) more fits

pub scope_arguments : (within : Frame) (arguments more bound : List ValueTree)
    → AreWithin within (length arguments) (length bound)
    → scope_in within (arguments ++ more) bound ≡ scope_in within arguments bound
scope_arguments (frame.Statement scope) arguments more bound is = refl
scope_arguments (frame.Function first count from) arguments more bound is =
    ap (λ (items : List ValueTree). called items (drop from bound)) (arguments_stay first count arguments more is.0)

-- values above the variables of a frame
pub scope_bound : (within : Frame) (arguments bound values : List ValueTree)
    → AreWithin within (length arguments) (length bound)
    → scope_in within arguments (bound ++ values) ≡ with_bound (scope_in within arguments bound) values
scope_bound (frame.Statement scope) arguments bound values is = refl
scope_bound (frame.Function first count from) arguments bound values is =
    ap (called (take count (drop first arguments))) (drop-append-le from bound values is.1)

-- all arguments from an index on
rest_whole : (first : ℕ) (arguments : List ValueTree)
    → take (length arguments - first) (drop first arguments) ≡ drop first arguments
rest_whole first arguments =
    ap (λ (count : ℕ). take count (drop first arguments)) (sym (length-drop first arguments))
    ∙ take-length (drop first arguments)

pub scope_call : (first count from : ℕ) (arguments bound : List ValueTree) → count ≡ length arguments - first
    → from ≡ length bound
    → scope_in (frame.Function first count from) arguments bound ≡ own_scope (drop first arguments)
scope_call first count from arguments bound counted all =
    ap (λ (n : ℕ). called (take n (drop first arguments)) (drop from bound)) counted
    ∙ (ap (λ (items : List ValueTree). called items (drop from bound)) (rest_whole first arguments)
    ∙ ap (called (drop first arguments)) (ap (λ (n : ℕ). drop n bound) all ∙ drop-length bound))

-- the arguments of a function are on the stack when it is entered
pub within_call : (first count from : ℕ) (evaluator : Evaluator) → first ≤ length evaluator.arguments.items
    → count ≡ length evaluator.arguments.items - first → from ≡ length evaluator.bound.items
    → IsWithin (frame.Function first count from) evaluator
within_call first count from evaluator begins counted all = (omega (arith, begins, counted), omega (arith, all))

-- the stacks are as long as the trees on them
pub arguments_counted : (evaluator : Evaluator) → length (arguments_in evaluator) ≡ length evaluator.arguments.items
arguments_counted evaluator = length-map evaluator.arguments.items value_tree

pub bound_counted : (evaluator : Evaluator) → length (bound_in evaluator) ≡ length evaluator.bound.items
bound_counted evaluator = length-map evaluator.bound.items value_tree

pub within_trees : (within : Frame) (evaluator : Evaluator) → IsWithin within evaluator
    → AreWithin within (length (arguments_in evaluator)) (length (bound_in evaluator))
within_trees within evaluator is =
    subst (λ (n : ℕ). AreWithin within n (length (bound_in evaluator))) (sym (arguments_counted evaluator))
    (subst (AreWithin within (length evaluator.arguments.items)) (sym (bound_counted evaluator)) is)

-- where the stacks are as before
pub scope_stays : (within : Frame) {before now : Evaluator} → Stays before now
    → evaluator_scope within now ≡ evaluator_scope within before
scope_stays within {before} {now} stays =
    ap (λ (items : List ValueTree). scope_in within items (bound_in now)) stays.arguments_are
    ∙ ap (scope_in within (arguments_in before)) stays.bound_are

-- a frame is within stacks that are longer
pub within_longer : (within : Frame) (before now : Evaluator)
    → length before.arguments.items ≤ length now.arguments.items → length before.bound.items ≤ length now.bound.items
    → IsWithin within before → IsWithin within now
within_longer (frame.Statement scope) before now arguments bound is = tt
within_longer (frame.Function first count from) before now arguments bound is =
    (omega (arith, arguments, is.0), omega (arith, bound, is.1))

pub within_stays : (within : Frame) {before now : Evaluator} → Stays before now → IsWithin within before
    → IsWithin within now
within_stays within {before} {now} stays is =
    let arguments : length before.arguments.items ≡ length now.arguments.items =
    sym (arguments_counted before) ∙ (ap length (sym stays.arguments_are) ∙ arguments_counted now) in
    let bound : length before.bound.items ≡ length now.bound.items =
    sym (bound_counted before) ∙ (ap length (sym stays.bound_are) ∙ bound_counted now) in
    within_longer within before now (omega (arith, arguments)) (omega (arith, bound)) is
