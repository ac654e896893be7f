-- Lists to which a loop adds what each item of another list gives.
use Rattle.std.proofs.Common.{List, ℕ, ◌++◌, drop, ◌≡◌, ◌<◌, length, get_or, ◌∷◌, ◌+◌, ap, ◌∙◌, append_assoc, sym, ◌≤◌, []}
use Rattle.list_facts.proofs.EntryLemmas.{drop_item}
use Rattle.std.proofs.lemmas.List.{append-nil, drop_all}

-- What the items before an index give was added to a list. With what the others give, it is what all give.
pub record AddedToSoFar {A B : Type 0} (given : List A → List B) (start : List B) (items : List A) (index : ℕ)
    (found : List B) : Type 0 where
  pub so_far : found ++ given (drop index items) ≡ start ++ given items

-- one more item was added
pub added_to_step : {A B : Type 0} {given : List A → List B} {start : List B} {items : List A} {index : ℕ}
    {found after : List B} (item : A) (new : List B) → AddedToSoFar given start items index found → index < length items
    → item ≡ get_or items index item → after ≡ found ++ new
    → ((others : List A) → given (item ∷ others) ≡ new ++ given others)
    → AddedToSoFar given start items (index + 1) after
added_to_step {A} {B} {given} {start} {items} {index} {found} {after} item new h there is added gives = record {
  so_far =
      let others = drop (index + 1) items in
      ap (λ (xs : List B). xs ++ given others) added
      ∙ (append_assoc found new (given others)
      ∙ (ap (λ (xs : List B). found ++ xs) (sym (gives others))
      ∙ (ap (λ (xs : List A). found ++ given xs) (sym (drop_item items index item there is)) ∙ h.so_far)));
}

-- all items were added
pub added_to_done : {A B : Type 0} {given : List A → List B} {start : List B} {items : List A} {index : ℕ}
    {found : List B} → AddedToSoFar given start items index found → length items ≤ index → given [] ≡ []
    → found ≡ start ++ given items
added_to_done {A} {B} {given} {start} {items} {index} {found} h over none =
    sym (append-nil found)
    ∙ (ap (λ (xs : List B). found ++ xs) (sym none)
    ∙ (ap (λ (xs : List A). found ++ given xs) (sym (drop_all index items over)) ∙ h.so_far))
