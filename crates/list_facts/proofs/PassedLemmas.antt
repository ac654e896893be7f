-- Loops that look for an item of a list, up to the first one that decides.
use Rattle.std.proofs.Common.{List, ℕ, drop, ◌≡◌, ◌<◌, length, get_or, ◌∷◌, ◌+◌, sym, ◌∙◌, ap, ◌≤◌, []}
use Rattle.list_facts.proofs.EntryLemmas.{drop_item}
use Rattle.std.proofs.lemmas.List.{drop_all}

-- What the items from an index on give is what all items give: those before it do not matter.
pub record PassedSoFar {A B : Type 0} (given : List A → B) (items : List A) (index : ℕ) : Type 0 where
  pub so_far : given (drop index items) ≡ given items

-- one more item does not matter
pub passed_step : {A B : Type 0} {given : List A → B} {items : List A} {index : ℕ} (item : A)
    → PassedSoFar given items index → index < length items → item ≡ get_or items index item
    → ((others : List A) → given (item ∷ others) ≡ given others)
    → PassedSoFar given items (index + 1)
passed_step {A} {B} {given} {items} {index} item h there is gives = record {
  so_far =
      sym (gives (drop (index + 1) items))
      ∙ (ap given (sym (drop_item items index item there is)) ∙ h.so_far);
}

-- an item decides
pub passed_found : {A B : Type 0} {given : List A → B} {items : List A} {index : ℕ} (item : A) (found : B)
    → PassedSoFar given items index → index < length items → item ≡ get_or items index item
    → ((others : List A) → given (item ∷ others) ≡ found)
    → found ≡ given items
passed_found {A} {B} {given} {items} {index} item found h there is gives =
    sym (gives (drop (index + 1) items))
    ∙ (ap given (sym (drop_item items index item there is)) ∙ h.so_far)

-- no item decides
pub passed_done : {A B : Type 0} {given : List A → B} {items : List A} {index : ℕ} → PassedSoFar given items index
    → length items ≤ index → given [] ≡ given items
passed_done {A} {B} {given} {items} {index} h over = ap given (sym (drop_all index items over)) ∙ h.so_far
