-- Orders: what two comparisons say together.
use Rattle.std.specs.declared.cmp.Ordering.{Ordering}
use Rattle.std.specs.Cmp.{IsTotalOrder}
use Rattle.std.proofs.Common.{◌≡◌, false, sym, ap, ◌∙◌, refl, true, ℕ}
use Rattle.std.specs.declared.cmp.Ordering.TheVariants.{Less, Equal, Greater}
use Rattle.std.specs.Ordering.{is_lt, ordering_reverse, ordering_then, nat_cmp}
use Rattle.std.proofs.lemmas.Cmp.{ranked}

-- In a total order, what does not come before an element does not come before an earlier one.
pub before_by : {K : Type 0} {R : K → K → Ordering} → IsTotalOrder R → (x y z : K) (r : Ordering) → R x y ≡ r
    → R y z ≡ Less → is_lt (R x z) ≡ false → is_lt r ≡ false
before_by total x y z Less e less not = sym (ap is_lt (total.trans x y z e less)) ∙ not
before_by total x y z Equal e less not = refl
before_by total x y z Greater e less not = refl

-- an order of which the test says so is less
pub is_less : (r : Ordering) → is_lt r ≡ true → r ≡ Less
is_less Less e = refl
is_less Equal e = absurd (cc)
is_less Greater e = absurd (cc)

-- Of two elements of which none comes before the other, the order does not tell one from the other.
pub tied_by : (r s : Ordering) → r ≡ ordering_reverse s → is_lt r ≡ false → is_lt s ≡ false → r ≡ Equal
tied_by Less s e not other = absurd (cc)
tied_by Equal s e not other = refl
tied_by Greater Less e not other = absurd (cc)
tied_by Greater Equal e not other = absurd (cc)
tied_by Greater Greater e not other = absurd (cc)

-- two orders one after the other tell nothing, so each of them tells nothing
pub both_equal : (r s : Ordering) → ordering_then r s ≡ Equal → (r ≡ Equal) × (s ≡ Equal)
both_equal Less s e = absurd (cc)
both_equal Equal s e = (refl, e)
both_equal Greater s e = absurd (cc)

-- numbers of which the order tells nothing are the same
pub nat_cmp-equal : (m n : ℕ) → nat_cmp m n ≡ Equal → m ≡ n
nat_cmp-equal m n e = ranked m n Equal (sym e)
