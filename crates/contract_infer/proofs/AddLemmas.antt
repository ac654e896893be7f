-- Walks that add the types of slots.
--
--   `adds_nil`, `adds_both`            nothing was added, and one list after another
--   `AddedSoFar`                       the types of the items before an index were added
--   `added_step`, `added_all`          those of one more item, and those of all
use Rattle.std.proofs.Common.{◌≡◌, ℕ, ◌+◌, ◌<◌, ◌≤◌, false, List, [], ◌∷◌, ◌++◌, Option, length, get_or, sym, ap, ◌∙◌, append_assoc, append-nil}
use Rattle.abs_tree.specs.Syntax.{Name, TypeTree}
use Rattle.contract_infer.specs.DeclaredTypes.{maybe_types, Adds}
use Rattle.contract_infer.specs.declared.declared_types.Slots.{Slots}
use Rattle.list_facts.proofs.AddedLemmas.{AddedToSoFar, added_to_step, added_to_done}

-- nothing was added
pub adds_nil : {names : List Name} {slots : Slots} → Adds names [] slots slots
adds_nil {names} {slots} =
    record { succeeded = λ ok. ok; added = λ ok. sym (append-nil (maybe_types names slots.types.items)) }

-- one list was added after another
pub adds_both : {names : List Name} {first others : List (Option TypeTree)} {before between now : Slots}
    → Adds names first before between → Adds names others between now → Adds names (first ++ others) before now
adds_both {names} {first} {others} {before} one other = record {
  succeeded = λ ok. one.succeeded (other.succeeded ok);
  added = λ ok.
      other.added ok
      ∙ (ap (λ (types : List (Option TypeTree)). types ++ others) (one.added (other.succeeded ok))
      ∙ append_assoc (maybe_types names before.types.items) first others);
}

-- The types that the items before an index give were added.
pub record AddedSoFar {A : Type 0} (names : List Name) (given : List A → List (Option TypeTree)) (items : List A)
    (index : ℕ) (start now : Slots) : Type 0 where
  pub succeeded : now.failed ≡ false → start.failed ≡ false
  pub so_far : now.failed ≡ false
      → AddedToSoFar given (maybe_types names start.types.items) items index (maybe_types names now.types.items)

-- those of one more item were added
pub added_step : {A : Type 0} {names : List Name} {given : List A → List (Option TypeTree)} {items : List A}
    {index : ℕ} {start now after : Slots} (item : A) (new : List (Option TypeTree))
    → AddedSoFar names given items index start now → index < length items → item ≡ get_or items index item
    → Adds names new now after → ((others : List A) → given (item ∷ others) ≡ new ++ given others)
    → AddedSoFar names given items (index + 1) start after
added_step item new so there is adds gives = record {
  succeeded = λ ok. so.succeeded (adds.succeeded ok);
  so_far = λ ok. added_to_step item new (so.so_far (adds.succeeded ok)) there is (adds.added ok) gives;
}

-- those of all items were added
pub added_all : {A : Type 0} {names : List Name} {given : List A → List (Option TypeTree)} {items : List A}
    {index : ℕ} {start now : Slots} → AddedSoFar names given items index start now → length items ≤ index
    → given [] ≡ [] → Adds names (given items) start now
added_all so over none = record { succeeded = so.succeeded; added = λ ok. added_to_done (so.so_far ok) over none }
