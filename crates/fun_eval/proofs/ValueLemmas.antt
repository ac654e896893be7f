-- What holds while a list of expressions is evaluated: its values are kept apart, or are added to the arguments.
--
--   `ValuesSoFar`              the expressions that are left follow the values so far
--   `values_begin`, ..         before the first one, after one more, at a fault, and at the end
--   `ArgumentsSoFar`           the expressions that are left follow the values on the stack
--   `arguments_begin`, ..      the same for these
use Rattle.std.proofs.Common.{◌≡◌, ℕ, ◌+◌, ◌<◌, ◌≤◌, List, [], ◌∷◌, ◌++◌, drop, get_or, length, map, refl, sym, ap, ◌∙◌, subst, arith, append_assoc}
use Rattle.std.proofs.Math.Seq.{drop-length}
use Rattle.abs_values.specs.Evaluation.{Outcome, Outcomes, all_end_with, ends_with, evaluate, outcomes_of}
use Rattle.abs_values.specs.Results.{Gives, AllGive}
use Rattle.abs_values.specs.Scopes.{Library, Scope}
use Rattle.abs_tree.specs.Syntax.{Name, ExprTree, ExprTrees}
use Rattle.abs_tree.specs.SyntaxViews.{expr_tree, expr_trees}
use Rattle.abs_values.specs.ValueTrees.{ValueTree}
use Rattle.abs_values.specs.ValueViews.{value_tree}
use Rattle.abs_tree.specs.declared.syntax.expression.Expr.{Expr}
use Rattle.abs_values.specs.declared.value.Value.{Value}
use Rattle.fun_eval.proofs.FrameLemmas.{arguments_counted, bound_counted, scope_arguments, within_longer, within_trees}
use Rattle.fun_eval.proofs.ListLemmas.{earlier_begin, earlier_end, earlier_step, earlier_stop, with_earlier}
use Rattle.fun_eval.proofs.RowLemmas.{exprs_at, exprs_end}
use Rattle.fun_eval.proofs.SoFarLemmas.{gives_stays, library_stays, names_stay, stays_further}
use Rattle.fun_eval.proofs.StackLemmas.{added_twice, begins_added, begins_longer, begins_more, begins_same, pushed}
use Rattle.fun_eval.specs.Evaluating.{arguments_in, bound_in, gives_in, library_in, names_in, scope_in, evaluator_scope, AddedArguments, AreStopped, IsStopped, IsWithin, Stays}
use Rattle.fun_eval.specs.Matching.{Begins}
use Rattle.fun_eval.specs.declared.evaluator.Evaluator.{Evaluator}
use Rattle.fun_eval.specs.declared.scope.Frame.{Frame}
use Rattle.fun_eval.specs.declared.stop.Stop.{Stop}

-- Expressions that are left follow values: the outcomes of all are those of the rest after these values.
pub record Follow (expected : Outcomes) (give : ExprTree → ℕ → Outcome) (names : List Name) (values : List ValueTree)
    (exprs : List Expr) (made : ℕ) : Type 0 where
  pub is : expected ≡ with_earlier values (outcomes_of give (expr_trees names exprs) made)

follow_step : {expected : Outcomes} {give : ExprTree → ℕ → Outcome} {names : List Name} {values : List ValueTree}
    (exprs : List Expr) {made : ℕ} (index : ℕ) (item : Expr) (value : ValueTree) (now : ℕ) → index < length exprs
    → item ≡ get_or exprs index item → Follow expected give names values (drop index exprs) made
    → give (expr_tree names item) made ≡ ends_with (Gives value) now
    → Follow expected give names (values ++ value ∷ []) (drop (index + 1) exprs) now
follow_step {expected} {give} {names} {values} exprs {made} index item value now there item_is found is = record {
  is =
      found.is
      ∙ (ap (λ (trees : ExprTrees). with_earlier values (outcomes_of give trees made))
      (exprs_at names exprs index item there item_is)
      ∙ earlier_step give values (expr_tree names item) (expr_trees names (drop (index + 1) exprs)) value made now is);
}

follow_stop : {expected : Outcomes} {give : ExprTree → ℕ → Outcome} {names : List Name} {values : List ValueTree}
    (exprs : List Expr) {made : ℕ} (index : ℕ) (item : Expr) (cause : Stop) → index < length exprs
    → item ≡ get_or exprs index item → Follow expected give names values (drop index exprs) made
    → IsStopped (give (expr_tree names item) made).result cause → AreStopped expected.results cause
follow_stop {expected} {give} {names} {values} exprs {made} index item cause there item_is found is =
    subst (λ (outcomes : Outcomes). AreStopped outcomes.results cause)
    (sym (found.is
    ∙ ap (λ (trees : ExprTrees). with_earlier values (outcomes_of give trees made))
    (exprs_at names exprs index item there item_is)))
    (earlier_stop give values (expr_tree names item) (expr_trees names (drop (index + 1) exprs)) made cause is)

follow_end : {expected : Outcomes} {give : ExprTree → ℕ → Outcome} {names : List Name} {values : List ValueTree}
    (exprs : List Expr) {made : ℕ} (index : ℕ) → length exprs ≤ index
    → Follow expected give names values (drop index exprs) made → expected ≡ all_end_with (AllGive values) made
follow_end {expected} {give} {names} {values} exprs {made} index past found =
    found.is
    ∙ (ap (λ (trees : ExprTrees). with_earlier values (outcomes_of give trees made)) (exprs_end names exprs index past)
    ∙ earlier_end give values made)

-- The expressions that are left follow the values so far.
pub record ValuesSoFar (expected : Outcomes) (within : Frame) (left : ℕ) (values : List Value) (exprs : List Expr)
    (before now : Evaluator) : Type 0 where
  pub stays : Stays before now
  pub follow : Follow expected (gives_in before within left) (names_in before) (map value_tree values) exprs
      now.applications

pub values_begin : (within : Frame) (left : ℕ) (values : List Value) (exprs : List Expr) (before : Evaluator)
    → values ≡ [] → Stays before before
    → ValuesSoFar (outcomes_of (gives_in before within left) (expr_trees (names_in before) exprs) before.applications) within
    left values exprs before before
values_begin within left values exprs before none stays = record {
  stays = stays;
  follow = record { is = rw none (earlier_begin _) };
}

-- the outcome of an expression is the same as before
pub one_stays : (within : Frame) (left : ℕ) (item : Expr) (before now : Evaluator) → now.library ≡ before.library
    → gives_in now within left ≡ gives_in before within left
    → gives_in before within left (expr_tree (names_in before) item) now.applications
    ≡ gives_in now within left (expr_tree (names_in now) item) now.applications
one_stays within left item before now library same =
    ap (λ (give : ExprTree → ℕ → Outcome). give (expr_tree (names_in before) item) now.applications) (sym same)
    ∙ ap (λ (names : List Name). gives_in now within left (expr_tree names item) now.applications)
    (sym (names_stay before now library))

pub values_step : {expected : Outcomes} {within : Frame} {left : ℕ} {values : List Value} (exprs : List Expr)
    {before between : Evaluator} (index : ℕ) (item : Expr) (value : Value) (added : List Value) (now : Evaluator)
    → index < length exprs → item ≡ get_or exprs index item
    → ValuesSoFar expected within left values (drop index exprs) before between → Stays between now
    → gives_in between within left (expr_tree (names_in between) item) between.applications
    ≡ ends_with (Gives (value_tree value)) now.applications
    → added ≡ values ++ value ∷ []
    → ValuesSoFar expected within left added (drop (index + 1) exprs) before now
values_step {expected} {within} {left} {values} exprs {before} {between} index item value added now there item_is found
    stays is added_is = record {
      stays = stays_further found.stays stays;
      follow =
          subst (λ (trees : List ValueTree). Follow expected (gives_in before within left) (names_in before) trees
          (drop (index + 1) exprs) now.applications) (sym (pushed values added value added_is))
          (follow_step exprs index item (value_tree value) now.applications there item_is found.follow
          (one_stays within left item before between found.stays.library_is (gives_stays within left found.stays) ∙ is));
    }

pub values_stopped : {expected : Outcomes} {within : Frame} {left : ℕ} {values : List Value} (exprs : List Expr)
    {before now : Evaluator} (index : ℕ) (item : Expr) (cause : Stop) → index < length exprs
    → item ≡ get_or exprs index item → ValuesSoFar expected within left values (drop index exprs) before now
    → IsStopped (gives_in now within left (expr_tree (names_in now) item) now.applications).result cause
    → AreStopped expected.results cause
values_stopped {expected} {within} {left} {values} exprs {before} {now} index item cause there item_is found is =
    follow_stop exprs index item cause there item_is found.follow
    (subst (λ (outcome : Outcome). IsStopped outcome.result cause)
    (sym (one_stays within left item before now found.stays.library_is (gives_stays within left found.stays))) is)

pub values_end : {expected : Outcomes} {within : Frame} {left : ℕ} {values : List Value} (exprs : List Expr)
    {before now : Evaluator} (index : ℕ) → length exprs ≤ index
    → ValuesSoFar expected within left values (drop index exprs) before now
    → expected ≡ all_end_with (AllGive (map value_tree values)) now.applications
values_end exprs index past found = follow_end exprs index past found.follow

-- The expressions that are left follow the values that were added to the arguments.
pub record ArgumentsSoFar (expected : Outcomes) (within : Frame) (left : ℕ) (exprs : List Expr)
    (before now : Evaluator) : Type 0 where
  pub library_is : now.library ≡ before.library
  pub bound_are : bound_in now ≡ bound_in before
  pub begins : Begins (arguments_in before) (arguments_in now)
  pub follow : Follow expected (gives_in before within left) (names_in before)
      (drop (length (arguments_in before)) (arguments_in now)) exprs now.applications

pub arguments_begin : (within : Frame) (left : ℕ) (exprs : List Expr) (before : Evaluator)
    → ArgumentsSoFar (outcomes_of (gives_in before within left) (expr_trees (names_in before) exprs) before.applications)
    within left exprs before before
arguments_begin within left exprs before = record {
  library_is = refl;
  bound_are = refl;
  begins = begins_same (arguments_in before);
  follow = record { is = rw (drop-length (arguments_in before)) (earlier_begin _) };
}

-- values above the arguments change nothing
pub gives_added : (within : Frame) (left : ℕ) (before now : Evaluator) → now.library ≡ before.library
    → bound_in now ≡ bound_in before → Begins (arguments_in before) (arguments_in now) → IsWithin within before
    → gives_in now within left ≡ gives_in before within left
gives_added within left before now library bound begins is =
    ap (λ (known : Library). evaluate known (evaluator_scope within now) left) (library_stays before now library)
    ∙ ap (λ (scope : Scope). evaluate (library_in before) scope left)
    (ap (λ (items : List ValueTree). scope_in within items (bound_in now)) (begins_added begins)
    ∙ (ap (scope_in within (arguments_in before ++ drop (length (arguments_in before)) (arguments_in now))) bound
    ∙ scope_arguments within (arguments_in before) (drop (length (arguments_in before)) (arguments_in now))
    (bound_in before) (within_trees within before is)))

pub within_added : (within : Frame) (before now : Evaluator) → bound_in now ≡ bound_in before
    → Begins (arguments_in before) (arguments_in now) → IsWithin within before → IsWithin within now
within_added within before now bound begins is =
    within_longer within before now
    (omega (arith, arguments_counted before, arguments_counted now, begins_longer (arguments_in before) (arguments_in now) begins))
    (omega (arith, bound_counted before, bound_counted now, ap length bound)) is

pub arguments_step : {expected : Outcomes} {within : Frame} {left : ℕ} (exprs : List Expr)
    {before between : Evaluator} (index : ℕ) (item : Expr) (value : Value) (middle now : Evaluator)
    → index < length exprs → item ≡ get_or exprs index item → IsWithin within before
    → ArgumentsSoFar expected within left (drop index exprs) before between → Stays between middle
    → gives_in between within left (expr_tree (names_in between) item) between.applications
    ≡ ends_with (Gives (value_tree value)) middle.applications
    → now.library ≡ middle.library → now.bound.items ≡ middle.bound.items → now.applications ≡ middle.applications
    → now.arguments.items ≡ middle.arguments.items ++ value ∷ []
    → ArgumentsSoFar expected within left (drop (index + 1) exprs) before now
arguments_step {expected} {within} {left} exprs {before} {between} index item value middle now there item_is is_within
    found stays is library bound made arguments =
    let added = drop (length (arguments_in before)) (arguments_in between) in
    let top : arguments_in now ≡ arguments_in between ++ value_tree value ∷ [] =
    pushed middle.arguments.items now.arguments.items value arguments
    ∙ ap (λ (items : List ValueTree). items ++ value_tree value ∷ []) stays.arguments_are in
    let same = gives_added within left before between found.library_is found.bound_are found.begins is_within in
    let next = follow_step exprs index item (value_tree value) middle.applications there item_is found.follow
    (one_stays within left item before between found.library_is same ∙ is) in
    record {
      library_is = library ∙ (stays.library_is ∙ found.library_is);
      bound_are = ap (map value_tree) bound ∙ (stays.bound_are ∙ found.bound_are);
      begins =
          subst (Begins (arguments_in before))
          (sym (top ∙ (ap (λ (items : List ValueTree). items ++ value_tree value ∷ []) (begins_added found.begins)
          ∙ append_assoc (arguments_in before) added (value_tree value ∷ []))))
          (begins_more (arguments_in before) (added ++ value_tree value ∷ []));
      follow = record {
        is = next.is
            ∙ (ap (λ (trees : List ValueTree). with_earlier trees (outcomes_of (gives_in before within left)
            (expr_trees (names_in before) (drop (index + 1) exprs)) middle.applications))
            (sym (ap (drop (length (arguments_in before))) top
            ∙ added_twice (arguments_in before) (arguments_in between) (value_tree value ∷ []) found.begins))
            ∙ ap (λ (n : ℕ). with_earlier (drop (length (arguments_in before)) (arguments_in now))
            (outcomes_of (gives_in before within left) (expr_trees (names_in before) (drop (index + 1) exprs)) n))
            (sym made));
      };
    }

pub arguments_stopped : {expected : Outcomes} {within : Frame} {left : ℕ} (exprs : List Expr)
    {before now : Evaluator} (index : ℕ) (item : Expr) (cause : Stop) → index < length exprs
    → item ≡ get_or exprs index item → IsWithin within before
    → ArgumentsSoFar expected within left (drop index exprs) before now
    → IsStopped (gives_in now within left (expr_tree (names_in now) item) now.applications).result cause
    → AreStopped expected.results cause
arguments_stopped {expected} {within} {left} exprs {before} {now} index item cause there item_is is_within found is =
    follow_stop exprs index item cause there item_is found.follow
    (subst (λ (outcome : Outcome). IsStopped outcome.result cause)
    (sym (one_stays within left item before now found.library_is
    (gives_added within left before now found.library_is found.bound_are found.begins is_within))) is)

pub arguments_end : {expected : Outcomes} {within : Frame} {left : ℕ} (exprs : List Expr)
    {before now : Evaluator} (index : ℕ) → length exprs ≤ index
    → ArgumentsSoFar expected within left (drop index exprs) before now → AddedArguments expected before now
arguments_end exprs index past found = record {
  begins = found.begins;
  are = follow_end exprs index past found.follow;
  library_is = found.library_is;
  bound_are = found.bound_are;
}
