-- Pairs in ascending order: each has one index.
--
--   `one_index`                a pair has one index
use Rattle.std.proofs.Common.{◌≡◌, ◌∙◌, ◌<◌, ◌⊎◌, inl, inr, ⊎_elim, ℕ, zero, suc, List, refl, sym, ap, arith}
use Rattle.std.specs.List.Sorted.{IsStrictlySortedBy}
use Rattle.std.specs.Ordering.{ordering_reverse}
use Rattle.std.specs.Prelude.{Some, slice_get}
use Rattle.std.specs.declared.cmp.Ordering.TheVariants.{Less, Greater}
use Rattle.circularity_test.proofs.PickLemmas.{rises_at}
use Rattle.contract_terms.proofs.PairOrderLemmas.{pair_order_total}
use Rattle.contract_terms.specs.Pairs.{pair_order}
use Rattle.contract_terms.specs.declared.pair.Pair.{Pair}

not_before_itself : (pair : Pair) → pair_order pair pair ≡ Less → ⊥
not_before_itself pair less =
    let both : Less ≡ Greater = sym less ∙ (pair_order_total.antisymm pair pair ∙ ap ordering_reverse less) in
    absurd (cc)

-- a pair has one index
pub one_index : (pairs : List Pair) → IsStrictlySortedBy pair_order pairs → (one other : ℕ) (pair : Pair)
    → slice_get pairs one ≡ Some pair → slice_get pairs other ≡ Some pair → (one ≡ other → ⊥) → ⊥
one_index pairs rises one other pair here there apart = at (one_below_other one other apart)
  where
    one_below_other : (one other : ℕ) → (one ≡ other → ⊥) → (one < other) ⊎ (other < one)
    one_below_other zero zero apart = absurd (apart refl)
    one_below_other zero (suc other) apart = inl (omega (arith))
    one_below_other (suc one) zero apart = inr (omega (arith))
    one_below_other (suc one) (suc other) apart = ⊎_elim (λ below. inl (omega (arith, below)))
        (λ below. inr (omega (arith, below))) (one_below_other one other (λ same. apart (ap suc same)))

    at : (one < other) ⊎ (other < one) → ⊥
    at (inl below) = not_before_itself pair (rises_at pair_order pairs rises one other pair pair below here there)
    at (inr below) = not_before_itself pair (rises_at pair_order pairs rises other one pair pair below there here)
