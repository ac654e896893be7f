-- The walk over the links of a key, from the newest fact with it on.
--
--   `stand`            where the walk stands: what is at this index or after it was gone through
--   `FoundSoFar`       what was found are the facts with the key there
--   `walk_begins`, `walk_goes_on`, `walk_ends`     nothing is found yet, one more fact is found, and all are
--   `walk_falls`       the walk comes nearer to the first fact
use Rattle.std.proofs.Common.{◌≡◌, ◌⊎◌, inl, inr, ⊎_elim, ◌<◌, ◌≤◌, ℕ, zero, suc, List, [], ◌∷◌, ◌++◌, length, take, Contains, Option, Some, None, slice_get, refl, sym, ap, subst, ◌∙◌, arith}
use Rattle.std.proofs.lemmas.List.Elements.{Contains-append_left, Contains-push, Contains-push_cases}
use Rattle.std.proofs.lemmas.Option.{none-some, same_Some, slice_get_within, slice_get-get_or, get_or_from_slice_get}
use Rattle.std.specs.Option.{IsSomeAnd}
use Rattle.contract_terms.specs.declared.fact.Fact.{Fact}
use Rattle.saturation.proofs.LatestLemmas.{latest_with_key, latest_of_all}
use Rattle.saturation.specs.Keys.{IsOf, IsLatest}
use Rattle.saturation.specs.Links.{has_key, latest}
use Rattle.saturation.specs.declared.key.Key.{Key}

-- what is at this index or after it was gone through
abbrev pub stand : Option ℕ → ℕ
stand None = 0
stand (Some index) = suc index

-- What was found are the facts with the key that were gone through, and the next one has it.
pub record FoundSoFar (facts : List Fact) (asked : Key) (next : Option ℕ) (found : List Fact) : Type 0 where
  pub only : (fact : Fact) → Contains found fact → Contains facts fact × IsOf asked fact
  pub all : (index : ℕ) (fact : Fact) → stand next ≤ index → slice_get facts index ≡ Some fact → IsOf asked fact
      → Contains found fact
  pub here : (index : ℕ) → next ≡ Some index → IsSomeAnd (slice_get facts index) (IsOf asked)

-- a number is below another, or not
below_or_past : (one other : ℕ) → (one < other) ⊎ (other ≤ one)
below_or_past one zero = inr (omega arith)
below_or_past zero (suc other) = inl (omega arith)
below_or_past (suc one) (suc other) =
    ⊎_elim (λ below. inl (omega (arith, below))) (λ past. inr (omega (arith, past))) (below_or_past one other)

-- The walk has gone through what is at a bound or after it, and the next one is the latest one before that.
walked : (facts : List Fact) (asked : Key) (bound : ℕ) (next : Option ℕ) (found : List Fact)
    → IsLatest (IsOf asked) facts bound next
    → ((fact : Fact) → Contains found fact → Contains facts fact × IsOf asked fact)
    → ((index : ℕ) (fact : Fact) → bound ≤ index → slice_get facts index ≡ Some fact → IsOf asked fact
    → Contains found fact) → FoundSoFar facts asked next found
walked facts asked bound None found none only all =
    record {
      only = only;
      all = λ index fact after there has. ⊎_elim (λ below. absurd (none index fact below there has))
          (λ past. all index fact past there has) (below_or_past index bound);
      here = λ index is. absurd (none-some index is);
    }
walked facts asked bound (Some latest) found last only all =
    record {
      only = only;
      all = λ index fact after there has.
          ⊎_elim (λ below. absurd (last.2 index fact (omega (arith, after)) below there has))
          (λ past. all index fact past there has) (below_or_past index bound);
      here = λ index is.
          subst (λ it. IsSomeAnd (slice_get facts it) (IsOf asked)) (same_Some latest index is)
          (subst (λ it. IsSomeAnd it (IsOf asked)) (sym last.1.1) last.1.2);
    }

-- an empty list has no fact
empty_contains : (fact : Fact) → Contains [] fact → ⊥
empty_contains fact there = omega (arith, there.1)

-- what is at an index is among the facts
Contains-slice_get : (facts : List Fact) (index : ℕ) (fact : Fact) → slice_get facts index ≡ Some fact
    → Contains facts fact
Contains-slice_get facts index fact there =
    (index, slice_get_within facts index fact there, get_or_from_slice_get facts index fact fact there)

-- nothing is found yet
pub walk_begins : (facts : List Fact) (asked : Key) (next : Option ℕ) (found : List Fact)
    → next ≡ latest (has_key asked) facts → found ≡ [] → FoundSoFar facts asked next found
walk_begins facts asked next found is empty =
    walked facts asked (length facts) next found (latest_of_all facts asked next is)
    (λ fact there. absurd (empty_contains fact (subst (λ list. Contains list fact) empty there)))
    (λ index fact past there has. absurd (omega (arith, past, slice_get_within facts index fact there)))

-- one more fact is found
pub walk_goes_on : (facts : List Fact) (asked : Key) (index : ℕ) (next : Option ℕ) (found more : List Fact)
    (fact : Fact)
    → FoundSoFar facts asked (Some index) found → slice_get facts index ≡ Some fact
    → next ≡ latest (has_key asked) (take index facts) → more ≡ found ++ fact ∷ []
    → FoundSoFar facts asked next more
walk_goes_on facts asked index next found more fact so_far there is more_is =
    subst (FoundSoFar facts asked next) (sym more_is)
    (walked facts asked index next (found ++ fact ∷ []) (latest_with_key facts asked index next is) only all)
  where
    has : IsOf asked fact
    has = subst (λ it. IsSomeAnd it (IsOf asked)) there (so_far.here index refl)

    only : (one : Fact) → Contains (found ++ fact ∷ []) one → Contains facts one × IsOf asked one
    only one among =
        ⊎_elim (so_far.only one)
        (λ same. subst (λ it. Contains facts it × IsOf asked it) same
        (Contains-slice_get facts index fact there, has))
        (Contains-push_cases found fact one among)

    all : (place : ℕ) (one : Fact) → index ≤ place → slice_get facts place ≡ Some one → IsOf asked one
        → Contains (found ++ fact ∷ []) one
    all place one past at one_has =
        ⊎_elim (λ here. subst (Contains (found ++ fact ∷ []))
        (same_Some fact one (sym there ∙ (ap (slice_get facts) (omega (arith, here, past)) ∙ at)))
        (Contains-push found fact))
        (λ later. Contains-append_left found (fact ∷ []) one (so_far.all place one (omega (arith, later)) at one_has))
        (below_or_past place (suc index))

-- all facts with the key are found
pub walk_ends : (facts : List Fact) (asked : Key) (next : Option ℕ) (found : List Fact) (fact : Fact)
    → FoundSoFar facts asked next found → next ≡ None → Contains facts fact → IsOf asked fact → Contains found fact
walk_ends facts asked next found fact so_far ended there has =
    so_far.all there.0 fact (subst (λ it. stand it ≤ there.0) (sym ended) (omega arith))
    (slice_get-get_or facts there.0 fact there.1 ∙ ap Some there.2) has

-- the walk comes nearer to the first fact
pub walk_falls : (facts : List Fact) (asked : Key) (index : ℕ) (next : Option ℕ)
    → next ≡ latest (has_key asked) (take index facts) → stand next < stand (Some index)
walk_falls facts asked index next is = go next (latest_with_key facts asked index next is)
  where
    go : (it : Option ℕ) → IsLatest (IsOf asked) facts index it → stand it < suc index
    go None none = omega arith
    go (Some latest) last = omega (arith, last.0)
