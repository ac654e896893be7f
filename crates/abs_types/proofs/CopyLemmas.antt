-- Copies of types have the same trees.
use Rattle.std.proofs.Common.{◌≡◌, ℕ, ◌+◌, ◌<◌, ◌≤◌, List, [], ◌∷◌, ◌++◌, sym, ap, ◌∙◌, length, get_or, drop, append_assoc}
use Rattle.std.proofs.lemmas.List.{append-nil, drop_all}
use Rattle.abs_tree.specs.Syntax.{Name, TypeTree, TypeTrees, NextType}
use Rattle.abs_tree.specs.SyntaxViews.{type_tree, type_trees}
use Rattle.abs_tree.specs.declared.syntax.types.TypeTerm.{TypeTerm}
use Rattle.list_facts.proofs.EntryLemmas.{drop_item}

-- The types before an index were copied to a list. With the others it has the same trees as all types.
pub record CopiedSoFar (names : List Name) (terms : List TypeTerm) (index : ℕ) (found : List TypeTerm) : Type 0 where
  pub so_far : type_trees names (found ++ drop index terms) ≡ type_trees names terms

-- trees of lists that differ in one type with the same tree
same_trees : (names : List Name) (one other : TypeTerm) (before after : List TypeTerm)
    → type_tree names one ≡ type_tree names other
    → type_trees names (before ++ one ∷ after) ≡ type_trees names (before ++ other ∷ after)
same_trees names one other [] after same = ap (λ (tree : TypeTree). NextType tree (type_trees names after)) same
same_trees names one other (term ∷ others) after same =
    ap (λ (trees : TypeTrees). NextType (type_tree names term) trees) (same_trees names one other others after same)

-- one more type was copied
pub copied_step : {names : List Name} {terms : List TypeTerm} {index : ℕ} {found after : List TypeTerm}
    (term copy : TypeTerm) → CopiedSoFar names terms index found → index < length terms
    → term ≡ get_or terms index term → after ≡ found ++ copy ∷ [] → type_tree names copy ≡ type_tree names term
    → CopiedSoFar names terms (index + 1) after
copied_step {names} {terms} {index} {found} {after} term copy h there is added same = record {
  so_far =
      let rest = drop (index + 1) terms in
      ap (λ (xs : List TypeTerm). type_trees names (xs ++ rest)) added
      ∙ (ap (type_trees names) (append_assoc found (copy ∷ []) rest)
      ∙ (same_trees names copy term found rest same
      ∙ (ap (λ (xs : List TypeTerm). type_trees names (found ++ xs)) (sym (drop_item terms index term there is))
      ∙ h.so_far)));
}

-- all types were copied
pub copied_done : {names : List Name} {terms : List TypeTerm} {index : ℕ} {found : List TypeTerm}
    → CopiedSoFar names terms index found → length terms ≤ index → type_trees names found ≡ type_trees names terms
copied_done {names} {terms} {index} {found} h over =
    ap (type_trees names) (sym (append-nil found))
    ∙ (ap (λ (xs : List TypeTerm). type_trees names (found ++ xs)) (sym (drop_all index terms over)) ∙ h.so_far)
