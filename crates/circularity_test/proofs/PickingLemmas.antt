-- The pairs at some indices, one after the other.
--
--   `PickedSoFar`              the pairs at the first indices were found
--   `picking_begins`, `picking_found`, `picking_within`, `picking_ends`
use Rattle.std.proofs.Common.{◌≡◌, ◌∙◌, ◌<◌, ◌≤◌, ℕ, ◌+◌, List, [], ◌∷◌, ◌++◌, length, drop, get_or, refl, sym, ap, subst, append-nil, append_assoc}
use Rattle.std.proofs.lemmas.List.{drop_all, drop_more}
use Rattle.std.proofs.lemmas.Option.{same_Some, slice_get_within}
use Rattle.std.specs.Prelude.{Some, slice_get}
use Rattle.circularity_test.specs.Routes.{Picks}
use Rattle.contract_terms.specs.declared.pair.Pair.{Pair}

-- The pairs at the first indices were found, and the pairs at the others make the chain complete.
pub record PickedSoFar (pairs : List Pair) (indices : List ℕ) (count : ℕ) (found chain : List Pair) : Type 0 where
  pub rest : List Pair
  pub is : chain ≡ found ++ rest
  pub picks : Picks pairs (drop count indices) rest

-- One more pair was found.
pub record PicksOne (pairs : List Pair) (indices : List ℕ) (count : ℕ) (found chain : List Pair) : Type 0 where
  pub one : Pair
  pub there : slice_get pairs (get_or indices count 0) ≡ Some one
  pub picked : PickedSoFar pairs indices (count + 1) (found ++ one ∷ []) chain

module _ (pairs : List Pair) (indices : List ℕ) where
  pub picking_begins : (chain : List Pair) → Picks pairs indices chain → PickedSoFar pairs indices 0 [] chain
  picking_begins chain picks = record { rest = chain; is = refl; picks = picks }

  picking_goes_on : (count : ℕ) (found chain : List Pair) → count < length indices
      → PickedSoFar pairs indices count found chain → PicksOne pairs indices count found chain
  picking_goes_on count found chain within so =
      first so.rest so.is (subst (λ left. Picks pairs left so.rest) (drop_more indices count 0 within) so.picks)
    where
      first : (rest : List Pair) → chain ≡ found ++ rest
          → Picks pairs (get_or indices count 0 ∷ drop (count + 1) indices) rest
          → PicksOne pairs indices count found chain
      first [] chain_is picks = absurd (cc)
      first (one ∷ others) chain_is picks = record {
        one = one;
        there = cc;
        picked = record {
          rest = others;
          is = chain_is ∙ sym (append_assoc found (one ∷ []) others);
          picks = cc;
        };
      }

  -- the pair at the next index was found
  pub picking_found : (count : ℕ) (found after chain : List Pair) (one : Pair) → count < length indices
      → slice_get pairs (get_or indices count 0) ≡ Some one → after ≡ found ++ one ∷ []
      → PickedSoFar pairs indices count found chain → PickedSoFar pairs indices (count + 1) after chain
  picking_found count found after chain one within there after_is so =
      let picks = picking_goes_on count found chain within so in
      let same : picks.one ≡ one = same_Some picks.one one (sym picks.there ∙ there) in
      subst (λ items. PickedSoFar pairs indices (count + 1) items chain)
      (ap (λ it. found ++ it ∷ []) same ∙ sym after_is) picks.picked

  -- there is a pair at the next index
  pub picking_within : (count : ℕ) (found chain : List Pair) → count < length indices
      → PickedSoFar pairs indices count found chain → get_or indices count 0 < length pairs
  picking_within count found chain within so =
      let picks = picking_goes_on count found chain within so in
      slice_get_within pairs (get_or indices count 0) picks.one picks.there

  pub picking_ends : (count : ℕ) (found chain : List Pair) → length indices ≤ count
      → PickedSoFar pairs indices count found chain → found ≡ chain
  picking_ends count found chain all so =
      none so.rest so.is (subst (λ left. Picks pairs left so.rest) (drop_all count indices all) so.picks)
    where
      none : (rest : List Pair) → chain ≡ found ++ rest → Picks pairs [] rest → found ≡ chain
      none [] chain_is picks = sym (chain_is ∙ append-nil found)
      none (one ∷ others) chain_is picks = absurd (cc)
