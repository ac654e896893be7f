-- Lists whose items a loop changes in place, from the first one on.
use Rattle.std.proofs.Common.{List, ℕ, length, ◌≡◌, drop, ◌+◌, take, ◌++◌, ◌∷◌, [], ◌<◌, get_or, set, sym, ◌∙◌, ap, arith, subst, ◌≤◌}
use Rattle.std.proofs.lemmas.List.{drop-drop, length-set, drop-set-lt, take_more_set, take_all}
use Rattle.list_facts.proofs.EntryLemmas.{drop_item}
use Rattle.std.specs.Prelude.{All}
use Rattle.std.proofs.lemmas.List.Elements.{All-append, All-cons, All-nil}

-- The items from an index on are as before.
pub record InPlace {A : Type 0} (items : List A) (index : ℕ) (now : List A) : Type 0 where
  pub same_length : length now ≡ length items
  pub rest : drop index now ≡ drop index items

-- One more item was changed. Those before it stay, it follows them, and the others are as before.
pub record OneChanged {A : Type 0} (items : List A) (index : ℕ) (now after : List A) (item one : A) : Type 0 where
  pub in_place : InPlace items (index + 1) after
  pub changed : take (index + 1) after ≡ take index now ++ one ∷ []
  pub split : drop index items ≡ item ∷ drop (index + 1) items

-- it is so where the item at the index was set
pub one_changed : {A : Type 0} {items now after : List A} {index : ℕ} (item one : A) → InPlace items index now
    → index < length now → item ≡ get_or now index item → after ≡ set now index one
    → OneChanged items index now after item one
one_changed {A} {items} {now} {after} {index} item one h there is added =
    let later : drop (index + 1) now ≡ drop (index + 1) items =
    sym (drop-drop 1 index now) ∙ (ap (drop 1) h.rest ∙ drop-drop 1 index items) in
    record {
      in_place = record {
        same_length = ap length added ∙ (length-set now index one ∙ h.same_length);
        rest = ap (drop (index + 1)) added ∙ (drop-set-lt (index + 1) now index one (omega arith) ∙ later);
      };
      changed = ap (take (index + 1)) added ∙ take_more_set now index one there;
      split = sym h.rest ∙ (drop_item now index item there is ∙ ap (λ (xs : List A). item ∷ xs) later);
    }

-- Each item before an index has a property.
pub record HaveSoFar {A : Type 0} (P : A → Type 0) (index : ℕ) (now : List A) : Type 0 where
  pub each : All P (take index now)

-- so does one more item that was set
pub have_step : {A : Type 0} {P : A → Type 0} {index : ℕ} {now later : List A} (one : A) → HaveSoFar P index now
    → index < length now → later ≡ set now index one → P one → HaveSoFar P (index + 1) later
have_step {A} {P} {index} {now} {later} one h there added has = record {
  each = subst (All P) (sym (ap (take (index + 1)) added ∙ take_more_set now index one there))
      (All-append P (take index now) (one ∷ []) h.each (All-cons P one [] has (All-nil P)));
}

-- all items have it
pub have_done : {A : Type 0} {P : A → Type 0} {index : ℕ} {now : List A} → HaveSoFar P index now → length now ≤ index
    → All P now
have_done {A} {P} {index} {now} h over = subst (All P) (take_all index now over) h.each
