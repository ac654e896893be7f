-- Loops over expressions that add what each of them reads to a list.
--
--   `FoundSoFar`                 what the items before an index read was found
--   `found_step`, `found_all`    it is so after one more item, and after all
use Rattle.std.proofs.Common.{◌≡◌, ℕ, ◌+◌, ◌<◌, ◌≤◌, List, [], ◌∷◌, ◌++◌, ap, ◌∙◌, map, length, get_or, drop}
use Rattle.std.proofs.lemmas.List.{append-nil, drop_all}
use Rattle.abs_tree.specs.Syntax.{ExprTree, ExprTrees, NoExpr, NextExpr}
use Rattle.contract_terms.specs.Reading.{ReadsTree, IsReads, AreReads}
use Rattle.contract_terms.specs.Views.{reads_tree}
use Rattle.contract_terms.specs.declared.term.Reads.{Reads}
use Rattle.list_facts.proofs.EntryLemmas.{drop_item}
use Rattle.list_facts.proofs.MapLemmas.{map-append_one}

-- What the items before an index read was found: with what the others read, it is what all read.
pub record FoundSoFar {A : Type 0} (trees : List A → ExprTrees) (items : List A) (index : ℕ) (found : List Reads)
    : Type 0 where
  pub so_far : (others : List ReadsTree) → AreReads (trees (drop index items)) others
      → AreReads (trees items) (map reads_tree found ++ others)

-- it is so after one more item, where what it reads was added
pub found_step : {A : Type 0} {trees : List A → ExprTrees} {items : List A} {index : ℕ} {found after : List Reads}
    (item : A) (tree : ExprTree) (reads : Reads) → FoundSoFar trees items index found → index < length items
    → item ≡ get_or items index item → ((others : List A) → trees (item ∷ others) ≡ NextExpr tree (trees others))
    → IsReads tree (reads_tree reads) → after ≡ found ++ reads ∷ [] → FoundSoFar trees items (index + 1) after
found_step {A} {trees} {items} {index} {found} {after} item tree reads so there is gives are added = record {
  so_far =
      λ others others_are.
      let left : trees (drop index items) ≡ NextExpr tree (trees (drop (index + 1) items)) =
      ap trees (drop_item items index item there is) ∙ gives (drop (index + 1) items) in
      rw (added, map-append_one reads_tree found reads others)
      (so.so_far (reads_tree reads ∷ others) (rw left (are, others_are)));
}

-- where no item is left, what all read was found
pub found_all : {A : Type 0} {trees : List A → ExprTrees} {items : List A} {index : ℕ} {found : List Reads}
    → FoundSoFar trees items index found → length items ≤ index → trees [] ≡ NoExpr
    → AreReads (trees items) (map reads_tree found)
found_all {A} {trees} {items} {index} {found} so over none =
    let left : trees (drop index items) ≡ NoExpr = ap trees (drop_all index items over) ∙ none in
    rw (← append-nil (map reads_tree found)) (so.so_far [] (rw left tt))
