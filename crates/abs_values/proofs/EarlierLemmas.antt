-- Each reference inside an initial value of an object is inside an earlier value of the object that the
-- expression of the initial value reads.
--
--   `AllComeFromEarlier`               each reference inside the values of a list comes from earlier ones
--   `comes_earlier`                    what comes from the values so far comes from earlier ones of the list
--   `initial_outcomes-read`            the law
use Rattle.std.proofs.Common.{◌≡◌, ℕ, ◌+◌, zero, suc, List, [], ◌∷◌, ◌++◌, Some, sym, ap, ◌∙◌, subst, length, slice_get, length-append, arith}
use Rattle.std.proofs.lemmas.Option.{none-some, same_Some, slice_get_within}
use Rattle.abs_values.proofs.ListOutcomeLemmas.{Keeps, initial_outcomes-keep}
use Rattle.abs_values.proofs.ReferenceLemmas.{AllComeFrom, own_slot, evaluate-reads}
use Rattle.abs_values.proofs.ResultLemmas.{IfAllGive, IfGives-at, IfAllGive-at, IfAllGive-all, outcomes_after-gives}
use Rattle.abs_values.specs.Evaluation.{evaluate, initial_outcomes}
use Rattle.abs_tree.specs.Limits.{level_limit}
use Rattle.abs_values.specs.References.{Reference, IsIn, Reads, ComesFrom, ComesFromEarlier, expr_tree_at}
use Rattle.abs_values.specs.Results.{Gives}
use Rattle.abs_values.specs.Scopes.{Library, Location, own_scope}
use Rattle.abs_tree.specs.Syntax.{ExprTree, ExprTrees, NoExpr, NextExpr}
use Rattle.abs_values.specs.ValueTrees.{ValueTree}
use Rattle.list_facts.proofs.EntryLemmas.{slice_get-front, slice_get-next}

-- each reference inside the values that follow so many others comes from values before
abbrev pub AllComeFromEarlier : ℕ → ExprTrees → List ValueTree → Type 0
AllComeFromEarlier count expr_trees values =
    (index : ℕ) (expr_tree : ExprTree) → expr_tree_at expr_trees index ≡ Some expr_tree → (place : ℕ) → place ≡ count + index
    → (value : ValueTree) → slice_get values place ≡ Some value → (reference : Reference) → IsIn reference value
    → ComesFromEarlier values place expr_tree reference

-- what comes from the values so far comes from earlier ones of the list that keeps them
pub comes_earlier : (earlier values : List ValueTree) (expr_tree : ExprTree) (reference : Reference) (place : ℕ)
    → place ≡ length earlier → Keeps earlier values → ComesFrom (own_scope earlier) expr_tree reference
    → ComesFromEarlier values place expr_tree reference
comes_earlier earlier values expr_tree reference place at keeps comes =
    let own = own_slot earlier comes.location comes.value comes.there in
    let within = slice_get_within earlier own.0 comes.value own.2 in
    record {
      slot = own.0;
      earlier = omega (arith, within);
      is_read = subst (λ (location : Location). Reads location expr_tree) own.1 comes.is_read;
      value = comes.value;
      there = keeps own.0 comes.value own.2;
      inside = comes.inside;
    }

-- one more initial value, before others
earlier_next : (library : Library) (first : ExprTree) (others : ExprTrees) (arguments : List ValueTree) (made : ℕ)
    (given : ValueTree) (values : List ValueTree)
    → (evaluate library (own_scope arguments) level_limit first made).result ≡ Gives given
    → Keeps (arguments ++ given ∷ []) values → AllComeFromEarlier (length (arguments ++ given ∷ [])) others values
    → AllComeFromEarlier (length arguments) (NextExpr first others) values
earlier_next library first others arguments made given values gives keeps later zero expr_tree is place at value there
    reference inside =
    let at_end : place ≡ length arguments = omega arith in
    let same : given ≡ value = same_Some given value
    (sym (keeps (length arguments) given (slice_get-next arguments given []))
    ∙ (ap (slice_get values) (sym at_end) ∙ there)) in
    let comes = IfGives-at (evaluate library (own_scope arguments) level_limit first made).result
    (AllComeFrom (own_scope arguments) first) given gives
    (evaluate-reads library level_limit (own_scope arguments) first made) reference
    (subst (IsIn reference) (sym same) inside) in
    subst (λ (one : ExprTree). ComesFromEarlier values place one reference) (same_Some first expr_tree is)
    (comes_earlier arguments values first reference place at_end
    (λ index found before. keeps index found (slice_get-front arguments (given ∷ []) index found before)) comes)
earlier_next library first others arguments made given values gives keeps later (suc index) expr_tree is place at value
    there reference inside =
    later index expr_tree is place (omega (arith, length-append arguments (given ∷ []))) value there reference inside

-- each reference inside an initial value comes from values before it
pub initial_outcomes-read : (library : Library) (expr_trees : ExprTrees) (arguments : List ValueTree) (made : ℕ)
    → IfAllGive (initial_outcomes library expr_trees arguments made).results
    (AllComeFromEarlier (length arguments) expr_trees)
unfolding initial_outcomes
initial_outcomes-read library NoExpr arguments made =
    λ index expr_tree is place at value there reference inside. absurd (none-some expr_tree is)
initial_outcomes-read library (NextExpr first others) arguments made =
    outcomes_after-gives (evaluate library (own_scope arguments) level_limit first made) _
    (AllComeFromEarlier (length arguments) (NextExpr first others))
    (λ given gives. let now = (evaluate library (own_scope arguments) level_limit first made).applications in
    let longer = arguments ++ given ∷ [] in
    let rest = initial_outcomes library others longer now in
    IfAllGive-all rest.results (AllComeFromEarlier (length arguments) (NextExpr first others))
    (λ values all_give. earlier_next library first others arguments made given values gives
    (IfAllGive-at rest.results (Keeps longer) values all_give (initial_outcomes-keep library others longer now))
    (IfAllGive-at rest.results (AllComeFromEarlier (length longer) others) values all_give
    (initial_outcomes-read library others longer now))))
