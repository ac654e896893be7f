-- The walk of a reader of expressions: what its parts note together, and loops over lists of parts.
--
--   `Notes-none`, `Notes-both`    nothing was read; one part was walked, and then another one
--   `NotedSoFar`                  the items of a list before an index were walked
--   `noted_step`, `noted_all`     it is so after one more item, and after all
--   `noted_is_read`               what is kept of the notes of a new reader is what was read
use Rattle.std.proofs.Common.{◌≡◌, ◌↔◌, ◌⊎◌, ℕ, ◌+◌, ◌<◌, ◌≤◌, List, [], ◌∷◌, inl, inr, sym, subst, length}
use Rattle.std.proofs.Common.{get_or, drop}
use Rattle.std.proofs.lemmas.List.{drop_all}
use Rattle.abs_values.specs.Scopes.{Location}
use Rattle.contract_infer.specs.Collecting.{Notes}
use Rattle.contract_infer.specs.declared.reads.Reader.{Reader}
use Rattle.list_facts.proofs.EntryLemmas.{drop_item}

-- where nothing is read, nothing more is noted
pub Notes-none : (reader : Reader) (IsRead : Location → Type 0) → ((location : Location) → IsRead location → ⊥)
    → Notes reader reader IsRead
Notes-none reader IsRead none = record {
  worked = λ works. works;
  noted =
      λ works location. (
        inl,
        λ there. elim there [ inl before ↦ before | inr is_read ↦ absurd (none location is_read) ],
      );
}

-- what is so after two steps, each of which adds something, is so before them or was added in one of them
either_of_both : {Start Middle End First Second : Type 0} → (Middle ↔ (Start ⊎ First)) → (End ↔ (Middle ⊎ Second))
    → (End ↔ (Start ⊎ (First ⊎ Second)))
either_of_both one other = (
  λ end. elim (other.0 end) [
    | inl middle ↦ elim (one.0 middle) [ inl start ↦ inl start | inr first ↦ inr (inl first) ]
    | inr second ↦ inr (inr second)
  ],
  λ there. elim there [
    | inl start ↦ other.1 (inl (one.1 (inl start)))
    | inr added ↦ elim added [
      | inl first ↦ other.1 (inl (one.1 (inr first)))
      | inr second ↦ other.1 (inr second)
    ]
  ],
)

-- one part of the walk and then another one note what is read in one or the other
pub Notes-both : {start middle end : Reader} {IsFirst IsSecond : Location → Type 0} → Notes start middle IsFirst
    → Notes middle end IsSecond → Notes start end (λ location. IsFirst location ⊎ IsSecond location)
Notes-both one other = record {
  worked = λ works. one.worked (other.worked works);
  noted = λ works location. either_of_both (one.noted (other.worked works) location) (other.noted works location);
}

-- The items before an index were walked: a walk of the others completes a walk of all.
pub record NotedSoFar {A : Type 0} (IsReadIn : List A → Location → Type 0) (items : List A) (index : ℕ)
    (start now : Reader) : Type 0 where
  pub so_far : (end : Reader) → Notes now end (IsReadIn (drop index items)) → Notes start end (IsReadIn items)

-- it is so after one more item, which was walked too
pub noted_step : {A : Type 0} {IsReadIn : List A → Location → Type 0} {items : List A} {index : ℕ}
    {start now next : Reader} (item : A) (IsOwn : Location → Type 0) → NotedSoFar IsReadIn items index start now
    → index < length items → item ≡ get_or items index item
    → ((others : List A) (end : Reader) → Notes now end (λ location. IsOwn location ⊎ IsReadIn others location)
    → Notes now end (IsReadIn (item ∷ others)))
    → Notes now next IsOwn → NotedSoFar IsReadIn items (index + 1) start next
noted_step {A} {IsReadIn} {items} {index} {start} {now} {next} item IsOwn so there is joins own = record {
  so_far =
      λ end others.
      so.so_far end
      (subst (λ (left : List A). Notes now end (IsReadIn left)) (sym (drop_item items index item there is))
      (joins (drop (index + 1) items) end (Notes-both own others)));
}

-- where no item is left, all were walked
pub noted_all : {A : Type 0} {IsReadIn : List A → Location → Type 0} {items : List A} {index : ℕ} {start now : Reader}
    → NotedSoFar IsReadIn items index start now → length items ≤ index
    → ((location : Location) → IsReadIn [] location → ⊥) → Notes start now (IsReadIn items)
noted_all {A} {IsReadIn} {items} {index} {start} {now} so over none =
    so.so_far now
    (subst (λ (left : List A). Notes now now (IsReadIn left)) (sym (drop_all index items over))
    (Notes-none now (IsReadIn []) none))

-- what is kept of what was noted in the end is what was read, where nothing was noted before
pub noted_is_read : {Kept End Start Read : Type 0} → (Kept ↔ End) → (End ↔ (Start ⊎ Read)) → (Start → ⊥)
    → (Kept ↔ Read)
noted_is_read kept end none = (
  λ there. elim (end.0 (kept.0 there)) [ inl before ↦ absurd (none before) | inr is_read ↦ is_read ],
  λ is_read. kept.1 (end.1 (inr is_read)),
)
