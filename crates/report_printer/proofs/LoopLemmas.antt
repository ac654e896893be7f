-- Texts of lists, written item by item. Each lemma speaks of what is left to write.
--
--   `one_more`, `none_left`            a text for each item
--   `step_more`, `last_step`           the lines of a chain
--   `chain_more`, `no_chain_left`      the lines of the chains of a report
--   `empty_report`, `some_report`      a report without chains, and one with some
--   `no_item`                          a list without items
use Rattle.std.proofs.Common.{◌≡◌, ◌∙◌, ℕ, ◌+◌, ◌<◌, ◌≤◌, List, [], ◌∷◌, ◌++◌, length, drop, get_or, Some, codes, decimal, true, false, ◌==◌, refl, sym, ap, subst, arith}
use Rattle.std.proofs.lemmas.Bool.{eqb-true, false≢true}
use Rattle.std.proofs.lemmas.List.{drop_all, drop_more}
use Rattle.std.proofs.lemmas.Option.{get_or_from_slice_get}
use Rattle.std.specs.Prelude.{Option, flat_map, slice_get}
use Rattle.abs_tree.specs.Syntax.{ProgramTree}
use Rattle.contract_terms.specs.Chains.{steps_from}
use Rattle.contract_terms.specs.declared.pair.Pair.{Pair}
use Rattle.report_printer.proofs.WritingLemmas.{nothing, then}
use Rattle.report_printer.specs.Output.{Writes}
use Rattle.report_printer.specs.ReportTexts.{chain_lines, numbered_lines, pair_lines, report_lines}

module _ {A : Type 0} (text : A → List ℕ) (list : List A) (index : ℕ) where
  -- one item, and those that are left
  pub one_more : {before between after : Option (List ℕ)} (item : A) → index < length list
      → item ≡ get_or list index item → Writes before (text item) between
      → Writes between (flat_map text (drop (index + 1) list)) after
      → Writes before (flat_map text (drop index list)) after
  one_more {before} {between} {after} item within is one others =
      subst (λ rest. Writes before (flat_map text rest) after)
      (sym (drop_more list index item within ∙ ap (λ it. it ∷ drop (index + 1) list) (sym is))) (then one others)

  -- no item is left
  pub none_left : length list ≤ index → (out : Option (List ℕ)) → Writes out (flat_map text (drop index list)) out
  none_left end out =
      subst (λ rest. Writes out (flat_map text rest) out) (sym (drop_all index list end)) (nothing out)

module _ (bytes : List ℕ) (program : ProgramTree) where
  -- the lines of the steps of a chain from one of its pairs on
  abbrev pub left_lines : Pair → Pair → List Pair → List ℕ
  left_lines first pair others =
      flat_map (λ step. pair_lines bytes program step.0 step.1) (steps_from first pair others)

  -- a pair, and those that are left
  pub step_more : {before between after : Option (List ℕ)} (first pair next : Pair) (others : List Pair) (index : ℕ)
      → index < length others → next ≡ get_or others index next
      → Writes before (pair_lines bytes program pair next) between
      → Writes between (left_lines first next (drop (index + 1) others)) after
      → Writes before (left_lines first pair (drop index others)) after
  step_more {before} {between} {after} first pair next others index within is one left =
      subst (λ rest. Writes before (left_lines first pair rest) after)
      (sym (drop_more others index next within ∙ ap (λ it. it ∷ drop (index + 1) others) (sym is))) (then one left)

  -- the last pair
  pub last_step : {before after : Option (List ℕ)} (first pair : Pair) (others : List Pair) (index : ℕ)
      → length others ≤ index → Writes before (pair_lines bytes program pair first) after
      → Writes before (left_lines first pair (drop index others)) after
  last_step {before} {after} first pair others index end one =
      subst (λ rest. Writes before (left_lines first pair rest) after) (sym (drop_all index others end))
      (then one (nothing after))

  -- a chain, and those that are left
  pub chain_more : {before between after : Option (List ℕ)} (chain : List Pair) (chains : List (List Pair))
      (index : ℕ) → index < length chains → slice_get chains index ≡ Some chain
      → Writes before (chain_lines bytes program (index + 1) chain) between
      → Writes between (numbered_lines bytes program (index + 1 + 1) (drop (index + 1) chains)) after
      → Writes before (numbered_lines bytes program (index + 1) (drop index chains)) after
  unfolding numbered_lines
  chain_more {before} {between} {after} chain chains index within is one left =
      subst (λ rest. Writes before (numbered_lines bytes program (index + 1) rest) after)
      (sym (drop_more chains index chain within
      ∙ ap (λ it. it ∷ drop (index + 1) chains) (get_or_from_slice_get chains index chain chain is)))
      (then one left)

  -- no chain is left
  pub no_chain_left : (chains : List (List Pair)) (index : ℕ) → length chains ≤ index → (out : Option (List ℕ))
      → Writes out (numbered_lines bytes program (index + 1) (drop index chains)) out
  unfolding numbered_lines
  no_chain_left chains index end out =
      subst (λ rest. Writes out (numbered_lines bytes program (index + 1) rest) out) (sym (drop_all index chains end))
      (nothing out)

-- a list without items
pub no_item : {A : Type 0} (list : List A) → length list ≡ 0 → list ≡ []
no_item [] empty = refl
no_item (item ∷ list) empty = absurd (omega (arith, empty))

module _ (bytes : List ℕ) (program : ProgramTree) where
  -- a report that lists no chain
  pub empty_report : (chains : List (List Pair)) → (length chains == 0) ≡ true
      → report_lines bytes program chains ≡ codes "no circular chain\n"
  unfolding report_lines
  empty_report [] empty = refl
  empty_report (chain ∷ chains) empty = absurd (omega (arith, eqb-true _ _ empty))

  -- a report that lists some
  pub some_report : (chains : List (List Pair)) → (length chains == 0) ≡ false
      → report_lines bytes program chains ≡ codes "circular chains: " ++ (decimal (length chains)
      ++ (codes "\n" ++ numbered_lines bytes program 1 chains))
  unfolding report_lines
  some_report [] some = absurd (false≢true (sym some))
  some_report (chain ∷ chains) some = refl
