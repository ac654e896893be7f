-- Loops that note the offences of the items of a list in memory, one item after the other.
--
--   `NotedSoFar`               the offences of the items before an index are noted
--   `noted_step`, `noted_all`  the same after one more item, and after all
use Rattle.std.proofs.Common.{◌≡◌, ℕ, ◌+◌, ◌<◌, ◌≤◌, List, [], ◌∷◌, ◌++◌, sym, ap, ◌∙◌, fold, length, get_or, drop}
use Rattle.std.proofs.lemmas.List.{drop_all}
use Rattle.std.proofs.lemmas.List.Sums.{fold-append}
use Rattle.std.specs.Prelude.{Option}
use Rattle.abs_tree.specs.Offences.{earlier}
use Rattle.abs_tree.specs.declared.refusal.Offence.{Offence}
use Rattle.list_facts.proofs.EntryLemmas.{drop_item}

-- The offences of the items before an index are noted: those of the items from there on are all that is left to note.
pub record NotedSoFar {A : Type 0} (offences : List A → List Offence) (items : List A) (index : ℕ)
    (start now : Option Offence) : Type 0 where
  pub so_far : fold earlier now (offences (drop index items)) ≡ fold earlier start (offences items)

-- it is so after one more item, whose own offences were noted
pub noted_step : {A : Type 0} {offences : List A → List Offence} {items : List A} {index : ℕ}
    {start now after : Option Offence} (item : A) (own : List Offence) → NotedSoFar offences items index start now
    → index < length items → item ≡ get_or items index item
    → ((others : List A) → offences (item ∷ others) ≡ own ++ offences others) → after ≡ fold earlier now own
    → NotedSoFar offences items (index + 1) start after
noted_step {A} {offences} {items} {index} {start} {now} {after} item own so there is gives noted =
    let rest = drop (index + 1) items in
    record {
      so_far =
          ap (λ (first : Option Offence). fold earlier first (offences rest)) noted
          ∙ (sym (fold-append earlier now own (offences rest))
          ∙ (ap (fold earlier now) (sym (gives rest))
          ∙ (ap (λ (left : List A). fold earlier now (offences left)) (sym (drop_item items index item there is))
          ∙ so.so_far)));
    }

-- where no item is left, those of all items are noted
pub noted_all : {A : Type 0} {offences : List A → List Offence} {items : List A} {index : ℕ}
    {start now : Option Offence} → NotedSoFar offences items index start now → length items ≤ index
    → fold earlier now (offences []) ≡ fold earlier start (offences items)
noted_all {A} {offences} {items} {index} {start} {now} so over =
    ap (λ (left : List A). fold earlier now (offences left)) (sym (drop_all index items over)) ∙ so.so_far
