-- A list of expressions gives as many values as it has expressions, and each of them is what its expression gives. The
-- initial values of an object follow its arguments, which stay as they are, and each is what its expression gives after
-- the values before it.
--
--   `AreGiven`, `outcomes_of-each`             each value is what the expression at its index gives
--   `outcomes_of-count`                        there are as many values as expressions
--   `Keeps`, `initial_outcomes-keep`           the values before the initial ones stay
--   `initial_outcomes-count`                   an initial value follows for each expression
--   `AreGivenInOrder`, `initial_outcomes-each`     each of them is what its expression gives after the values before
--   `results_of-gives`                         the values of a statement: own ones, and then initial ones
use Rattle.std.proofs.Common.{◌≡◌, ◌↔◌, ℕ, ◌+◌, zero, suc, List, [], ◌∷◌, ◌++◌, Some, refl, sym, ap, ◌∙◌, subst, length, slice_get, take, length-append, arith}
use Rattle.std.proofs.lemmas.Option.{none-some, same_Some}
use Rattle.abs_values.proofs.ResultLemmas.{IfAllGive, IfAllGive-at, IfAllGive-all, IfAllGive-then, outcomes_after-gives, results_with-gives}
use Rattle.abs_values.specs.Evaluation.{Outcome, all_end_with, all_outcomes, evaluate, outcomes_of, initial_outcomes, results_of}
use Rattle.abs_tree.specs.Limits.{level_limit}
use Rattle.abs_values.specs.References.{IsGiven, StatementGives, expr_tree_at}
use Rattle.abs_values.specs.Results.{Gives, Results, AllGive, OneFails}
use Rattle.abs_values.specs.Scopes.{Library, Scope, own_scope}
use Rattle.abs_tree.specs.Syntax.{ExprTree, ExprTrees, NoExpr, NextExpr}
use Rattle.abs_tree.specs.SyntaxCounts.{count_exprs}
use Rattle.abs_values.specs.ValueTrees.{ValueTree}
use Rattle.list_facts.proofs.EntryLemmas.{slice_get-front, slice_get-next}

-- each value is what the expression at its index gives
abbrev pub AreGiven : (ExprTree → ℕ → Outcome) → ExprTrees → List ValueTree → Type 0
AreGiven give expr_trees values =
    (index : ℕ) (value : ValueTree) → slice_get values index ≡ Some value → IsGiven give expr_trees index value

-- a value that the first expression gives, before values that the others give
given_next : (give : ExprTree → ℕ → Outcome) (first : ExprTree) (others : ExprTrees) (made : ℕ) (given : ValueTree)
    (values : List ValueTree) → (give first made).result ≡ Gives given → AreGiven give others values
    → AreGiven give (NextExpr first others) (given ∷ values)
given_next give first others made given values gives each zero value is =
    record { expr_tree = first; there = refl; applications = made; gives = gives ∙ ap Gives (same_Some given value is) }
given_next give first others made given values gives each (suc index) value is =
    let found = each index value is in
    record { expr_tree = found.expr_tree; there = found.there; applications = found.applications; gives = found.gives }

-- each value of a list is what its expression gives
pub outcomes_of-each : (give : ExprTree → ℕ → Outcome) (expr_trees : ExprTrees) (made : ℕ)
    → IfAllGive (outcomes_of give expr_trees made).results (AreGiven give expr_trees)
outcomes_of-each give NoExpr made = λ index value is. absurd (none-some value is)
outcomes_of-each give (NextExpr first others) made =
    outcomes_after-gives (give first made) _ (AreGiven give (NextExpr first others))
    (λ given gives. let rest = outcomes_of give others (give first made).applications in
    results_with-gives given rest.results (AreGiven give (NextExpr first others))
    (IfAllGive-then rest.results (AreGiven give others) _
    (λ values each. given_next give first others made given values gives each)
    (outcomes_of-each give others (give first made).applications)))

-- there are as many values as expressions
pub outcomes_of-count : (give : ExprTree → ℕ → Outcome) (expr_trees : ExprTrees) (made : ℕ)
    → IfAllGive (outcomes_of give expr_trees made).results (λ values. length values ≡ count_exprs expr_trees)
outcomes_of-count give NoExpr made = refl
outcomes_of-count give (NextExpr first others) made =
    outcomes_after-gives (give first made) _ (λ values. length values ≡ count_exprs (NextExpr first others))
    (λ given gives. let rest = outcomes_of give others (give first made).applications in
    results_with-gives given rest.results (λ values. length values ≡ count_exprs (NextExpr first others))
    (IfAllGive-then rest.results (λ values. length values ≡ count_exprs others) _ (λ values count. omega arith)
    (outcomes_of-count give others (give first made).applications)))

-- what is at an index of the first values is there in all
abbrev pub Keeps : List ValueTree → List ValueTree → Type 0
Keeps earlier values =
    (index : ℕ) (value : ValueTree) → slice_get earlier index ≡ Some value → slice_get values index ≡ Some value

-- the values before the initial ones stay
pub initial_outcomes-keep : (library : Library) (expr_trees : ExprTrees) (arguments : List ValueTree) (made : ℕ)
    → IfAllGive (initial_outcomes library expr_trees arguments made).results (Keeps arguments)
unfolding initial_outcomes
initial_outcomes-keep library NoExpr arguments made = λ index value is. is
initial_outcomes-keep library (NextExpr first others) arguments made =
    outcomes_after-gives (evaluate library (own_scope arguments) level_limit first made) _ (Keeps arguments)
    (λ given gives. let now = (evaluate library (own_scope arguments) level_limit first made).applications in
    let longer = arguments ++ given ∷ [] in
    IfAllGive-then (initial_outcomes library others longer now).results (Keeps longer) (Keeps arguments)
    (λ values keeps index value is. keeps index value (slice_get-front arguments (given ∷ []) index value is))
    (initial_outcomes-keep library others longer now))

-- an initial value follows for each expression
pub initial_outcomes-count : (library : Library) (expr_trees : ExprTrees) (arguments : List ValueTree) (made : ℕ)
    → IfAllGive (initial_outcomes library expr_trees arguments made).results
    (λ values. length values ≡ length arguments + count_exprs expr_trees)
unfolding initial_outcomes
initial_outcomes-count library NoExpr arguments made = omega arith
initial_outcomes-count library (NextExpr first others) arguments made =
    outcomes_after-gives (evaluate library (own_scope arguments) level_limit first made) _
    (λ values. length values ≡ length arguments + count_exprs (NextExpr first others))
    (λ given gives. let now = (evaluate library (own_scope arguments) level_limit first made).applications in
    let longer = arguments ++ given ∷ [] in
    IfAllGive-then (initial_outcomes library others longer now).results
    (λ values. length values ≡ length longer + count_exprs others) _
    (λ values count. omega (arith, length-append arguments (given ∷ [])))
    (initial_outcomes-count library others longer now))

-- the first ones of values that keep a list are that list
take-kept : (earlier values : List ValueTree) → Keeps earlier values → take (length earlier) values ≡ earlier
take-kept [] values keeps = refl
take-kept (first ∷ others) [] keeps = absurd (none-some first (keeps 0 first refl))
take-kept (first ∷ others) (value ∷ values) keeps =
    let same = same_Some value first (keeps 0 first refl) in
    let rest = take-kept others values (λ index found is. keeps (suc index) found is) in
    cc

-- from an index on each value is what its expression gives where the slots are the values before it
abbrev pub AreGivenInOrder : Library → ℕ → ExprTrees → List ValueTree → Type 0
AreGivenInOrder library count expr_trees values =
    (index : ℕ) (expr_tree : ExprTree) → expr_tree_at expr_trees index ≡ Some expr_tree → (place : ℕ)
    → place ≡ count + index → (value : ValueTree) → slice_get values place ≡ Some value
    → (applications : ℕ)
    × ((evaluate library (own_scope (take place values)) level_limit expr_tree applications).result ≡ Gives value)

-- one more initial value, before others
given_after : (library : Library) (first : ExprTree) (others : ExprTrees) (arguments : List ValueTree) (made : ℕ)
    (given : ValueTree) (values : List ValueTree)
    → (evaluate library (own_scope arguments) level_limit first made).result ≡ Gives given
    → Keeps (arguments ++ given ∷ []) values
    → AreGivenInOrder library (length (arguments ++ given ∷ [])) others values
    → AreGivenInOrder library (length arguments) (NextExpr first others) values
given_after library first others arguments made given values gives keeps later zero expr_tree is place at value
    there =
    let at_end : place ≡ length arguments = omega arith in
    let same : given ≡ value = same_Some given value
    (sym (keeps (length arguments) given (slice_get-next arguments given []))
    ∙ (ap (slice_get values) (sym at_end) ∙ there)) in
    let before : take place values ≡ arguments =
    ap (λ (count : ℕ). take count values) at_end
    ∙ take-kept arguments values (λ index found earlier.
    keeps index found (slice_get-front arguments (given ∷ []) index found earlier)) in (
      made,
      subst (λ (one : ExprTree). (evaluate library (own_scope (take place values)) level_limit one made).result
          ≡ Gives value) (same_Some first expr_tree is)
          (ap (λ (slots : List ValueTree). (evaluate library (own_scope slots) level_limit first made).result) before
          ∙ (gives ∙ ap Gives same)),
    )
given_after library first others arguments made given values gives keeps later (suc index) expr_tree is place at value
    there =
    later index expr_tree is place (omega (arith, length-append arguments (given ∷ []))) value there

-- each initial value is what its expression gives after the values before it
pub initial_outcomes-each : (library : Library) (expr_trees : ExprTrees) (arguments : List ValueTree) (made : ℕ)
    → IfAllGive (initial_outcomes library expr_trees arguments made).results
    (AreGivenInOrder library (length arguments) expr_trees)
unfolding initial_outcomes
initial_outcomes-each library NoExpr arguments made =
    λ index expr_tree is place at value there. absurd (none-some expr_tree is)
initial_outcomes-each library (NextExpr first others) arguments made =
    outcomes_after-gives (evaluate library (own_scope arguments) level_limit first made) _
    (AreGivenInOrder library (length arguments) (NextExpr first others))
    (λ given gives. let now = (evaluate library (own_scope arguments) level_limit first made).applications in
    let longer = arguments ++ given ∷ [] in
    let rest = initial_outcomes library others longer now in
    IfAllGive-all rest.results (AreGivenInOrder library (length arguments) (NextExpr first others))
    (λ values all_give. given_after library first others arguments made given values gives
    (IfAllGive-at rest.results (Keeps longer) values all_give (initial_outcomes-keep library others longer now))
    (IfAllGive-at rest.results (AreGivenInOrder library (length longer) others) values all_give
    (initial_outcomes-each library others longer now))))

-- the values of a statement are those of its own expressions, and then the initial values
pub results_of-gives : (library : Library) (scope : Scope) (expr_trees initials : ExprTrees) (values : List ValueTree)
    → (results_of library scope expr_trees initials ≡ AllGive values)
    ↔ StatementGives library scope expr_trees initials values
results_of-gives library scope expr_trees initials values = (
  λ gives. by (outcomes_of (evaluate library scope level_limit) expr_trees 0).results
      (outcomes_of (evaluate library scope level_limit) expr_trees 0).applications refl gives,
  λ given. let own = given.own_given in rw (results_of, all_outcomes, own) given.all_given,
)
  where
    by : (results : Results) (made : ℕ)
        → outcomes_of (evaluate library scope level_limit) expr_trees 0 ≡ all_end_with results made
        → results_of library scope expr_trees initials ≡ AllGive values
        → StatementGives library scope expr_trees initials values
    by (AllGive own) made is gives =
        let all = rw (results_of, all_outcomes, is) at gives in
        record { own = own; made = made; own_given = is; all_given = all }
    by (OneFails cause) made is gives = let fails = rw (results_of, all_outcomes, is) at gives in absurd cc
