-- What the analysis finds of a program is determined by it, and its report tells circular chains.
--
--   `rising_once`              two ascending lists with the same elements are the same
--   `pairs_once`               the pairs by two lists with the same facts are the same
--   `findings_once`            two findings of a program are the same
--   `tells_chains`             the report of some pairs tells their circular chains
use Rattle.std.proofs.Common.{◌≡◌, ◌∙◌, ⊎_elim, ℕ, List, [], ◌∷◌, ◌++◌, length, refl, sym, ap, subst, arith}
use Rattle.std.proofs.Math.Logic.{∥∥₁_map}
use Rattle.std.proofs.lemmas.List.Elements.{All-contains, All-from_recursion, Contains-append_right, Contains-get_or}
use Rattle.std.specs.Cmp.{IsTotalOrder}
use Rattle.std.specs.List.Sorted.{IsStrictlySortedBy}
use Rattle.std.specs.Ordering.{ordering_reverse}
use Rattle.std.specs.Prelude.{◌↔◌, Contains}
use Rattle.std.specs.declared.cmp.Ordering.{Ordering}
use Rattle.std.specs.declared.cmp.Ordering.TheVariants.{Less, Equal, Greater}
use Rattle.abs_tree.specs.Syntax.{ProgramTree}
use Rattle.contract_terms.proofs.DerivedLemmas.{length_within}
use Rattle.contract_terms.proofs.PairOrderLemmas.{pair_order_total}
use Rattle.contract_terms.specs.Chains.{IsCircular, IsListed, IsReport}
use Rattle.contract_terms.specs.Pairs.{ArePairs, IsPair, pair_order}
use Rattle.contract_terms.specs.declared.fact.Fact.{Fact}
use Rattle.contract_terms.specs.declared.pair.Pair.{Pair}
use Rattle.list_facts.proofs.AllLemmas.{Contains-head_or_tail}
use Rattle.abs_command.specs.Analysis.{AreFindings, SameFindings, TellsChains}

-- the first element of a list is in it, and so are the others
first_there : {A : Type 0} (first : A) (others : List A) → Contains (first ∷ others) first
first_there first others = Contains-get_or (first ∷ others) 0 first (omega arith)

other_there : {A : Type 0} (first : A) (others : List A) (one : A) → Contains others one → Contains (first ∷ others) one
other_there first others one there = Contains-append_right (first ∷ []) others one there

-- no two elements are each below the other one
not_both_less : (r s : Ordering) → r ≡ ordering_reverse s → r ≡ Less → s ≡ Less → ⊥
not_both_less Less Less turned one other = absurd (cc)
not_both_less Less Equal turned one other = absurd (cc)
not_both_less Less Greater turned one other = absurd (cc)
not_both_less Equal s turned one other = absurd (cc)
not_both_less Greater s turned one other = absurd (cc)

module _ {A : Type 0} (R : A → A → Ordering) (total : IsTotalOrder R) where
  -- the first element of an ascending list is below the others, which ascend too
  first_below : (first : A) (others : List A) → IsStrictlySortedBy R (first ∷ others) → (one : A) → Contains others one
      → R first one ≡ Less
  unfolding IsStrictlySortedBy
  first_below first others rises one there =
      All-contains (λ it. R first it ≡ Less) others one (All-from_recursion (λ it. R first it ≡ Less) others rises.0)
      there

  others_rise : (first : A) (others : List A) → IsStrictlySortedBy R (first ∷ others) → IsStrictlySortedBy R others
  unfolding IsStrictlySortedBy
  others_rise first others rises = rises.1

  -- two ascending lists with the same elements begin with the same one
  one_first : (first second : A) (others rest : List A) → IsStrictlySortedBy R (first ∷ others)
      → IsStrictlySortedBy R (second ∷ rest) → Contains (second ∷ rest) first → Contains (first ∷ others) second
      → first ≡ second
  one_first first second others rest rises rises' there there' =
      ⊎_elim (λ same. sym same)
      (λ later. ⊎_elim (λ same. same)
      (λ later'. absurd (not_both_less (R first second) (R second first) (total.antisymm first second)
      (first_below first others rises second later') (first_below second rest rises' first later)))
      (Contains-head_or_tail first others second there'))
      (Contains-head_or_tail second rest first there)

  -- the other elements of one are those of the other
  others_within : (first : A) (others rest : List A) → IsStrictlySortedBy R (first ∷ others)
      → ((one : A) → Contains (first ∷ others) one → Contains (first ∷ rest) one)
      → (one : A) → Contains others one → Contains rest one
  others_within first others rest rises within one there =
      ⊎_elim (λ same. let below = first_below first others rises one there in
      let less = subst (λ it. R first it ≡ Less) (sym same) below in
      absurd (not_both_less (R first first) (R first first) (total.antisymm first first) less less))
      (λ later. later)
      (Contains-head_or_tail first rest one (within one (other_there first others one there)))

  -- two ascending lists with the same elements are the same
  pub rising_once : (list other : List A) → IsStrictlySortedBy R list → IsStrictlySortedBy R other
      → ((one : A) → Contains list one → Contains other one) → ((one : A) → Contains other one → Contains list one)
      → list ≡ other
  rising_once [] [] rises rises' to from = refl
  rising_once [] (second ∷ rest) rises rises' to from =
      let there = from second (first_there second rest) in absurd (omega (arith, there.1))
  rising_once (first ∷ others) [] rises rises' to from =
      let there = to first (first_there first others) in absurd (omega (arith, there.1))
  rising_once (first ∷ others) (second ∷ rest) rises rises' to from =
      let same : first ≡ second = one_first first second others rest rises rises' (to first (first_there first others))
      (from second (first_there second rest)) in
      let own = subst (λ it. IsStrictlySortedBy R (it ∷ others)) same rises in
      let to_rest = subst (λ it. (one : A) → Contains (it ∷ others) one → Contains (second ∷ rest) one) same to in
      let from_rest = subst (λ it. (one : A) → Contains (second ∷ rest) one → Contains (it ∷ others) one) same from in
      ap (λ it. it ∷ others) same
      ∙ ap (λ those. second ∷ those) (rising_once others rest (others_rise first others rises)
      (others_rise second rest rises') (others_within second others rest own to_rest)
      (others_within second rest others rises' from_rest))

-- a pair by some facts is one by other facts that have them
pair_by_more : (program : ProgramTree) (known other : List Fact)
    → ((fact : Fact) → Contains known fact → Contains other fact) → (pair : Pair)
    → ∥ IsPair program (Contains known) pair ∥₁ → ∥ IsPair program (Contains other) pair ∥₁
pair_by_more program known other to pair is = ∥∥₁_map is (λ (it : IsPair program (Contains known) pair). more it)
  where
    more : IsPair program (Contains known) pair → IsPair program (Contains other) pair
    more it = record {
      live = to _ it.live;
      index = it.index;
      here = it.here;
      place_is = it.place_is;
      mode_is = it.mode_is;
      slot = it.slot;
      named = it.named;
      settled = it.settled;
      settled_there = it.settled_there;
      unsettled = it.unsettled;
      held = to _ it.held;
    }

-- the pairs by two lists with the same facts are the same
pub pairs_once : (program : ProgramTree) (known other : List Fact)
    → ((fact : Fact) → Contains known fact → Contains other fact)
    → ((fact : Fact) → Contains other fact → Contains known fact)
    → (pairs others : List Pair) → ArePairs program known pairs → ArePairs program other others → pairs ≡ others
pairs_once program known other to from pairs others are are' =
    rising_once pair_order pair_order_total pairs others are.rises are'.rises
    (λ pair there. (are'.each pair).1 (pair_by_more program known other to pair ((are.each pair).0 there)))
    (λ pair there. (are.each pair).1 (pair_by_more program other known from pair ((are'.each pair).0 there)))

-- two findings of a program are the same, since each list of pairs has at most one report
pub findings_once : ((program : ProgramTree) (pairs : List Pair) (chains others : List (List Pair))
    → IsReport program pairs chains → IsReport program pairs others → chains ≡ others)
    → (program : ProgramTree) (depth facts pairs facts' pairs' : ℕ) (report report' : List (List Pair))
    → AreFindings program depth facts pairs report → AreFindings program depth facts' pairs' report'
    → SameFindings facts pairs report facts' pairs' report'
findings_once one_report program depth facts pairs facts' pairs' report report' x y =
    let to : (fact : Fact) → Contains x.known fact → Contains y.known fact =
    λ fact there. (y.derived fact).1 ((x.derived fact).0 there) in
    let from : (fact : Fact) → Contains y.known fact → Contains x.known fact =
    λ fact there. (x.derived fact).1 ((y.derived fact).0 there) in
    let most = length_within x.known y.known x.distinct
    (λ k default below. to _ (Contains-get_or x.known k default below)) in
    let least = length_within y.known x.known y.distinct
    (λ k default below. from _ (Contains-get_or y.known k default below)) in
    let found : x.found ≡ y.found =
    pairs_once program x.known y.known to from x.found y.found x.are_pairs y.are_pairs in
    let facts_are = x.facts_are in
    let facts_are' = y.facts_are in
    record {
      facts_same = omega arith;
      pairs_same = x.pairs_are ∙ (ap length found ∙ sym y.pairs_are);
      report_same = one_report program y.found report report'
          (subst (λ (list : List Pair). IsReport program list report) found x.report_is) y.report_is;
    }

-- an element of a list with those before it and those after it
record Placed {A : Type 0} (list : List A) (one : A) : Type 0 where
  before : List A
  after : List A
  is : list ≡ before ++ one ∷ after

placed : {A : Type 0} (list : List A) (one : A) → Contains list one → Placed list one
placed [] one there = absurd (omega (arith, there.1))
placed (first ∷ others) one there =
    ⊎_elim (λ same. record { before = []; after = others; is = ap (λ here. here ∷ others) same })
    (λ later. let rest = placed others one later in
    record { before = first ∷ rest.before; after = rest.after; is = ap (λ those. first ∷ those) rest.is })
    (Contains-head_or_tail first others one there)

-- the report of some pairs tells their circular chains
pub tells_chains : ((program : ProgramTree) (pairs : List Pair) (chains : List (List Pair))
    → IsReport program pairs chains → (chains ≡ []) ↔ ((chain : List Pair) → IsCircular program pairs chain → ⊥))
    → ((program : ProgramTree) (pairs : List Pair) (before after : List (List Pair)) (chain : List Pair)
    → IsReport program pairs (before ++ chain ∷ after) → IsListed program pairs before chain)
    → (program : ProgramTree) (pairs : List Pair) (report : List (List Pair)) → IsReport program pairs report
    → TellsChains program pairs report
tells_chains empty lists program pairs report is = record {
  empty = empty program pairs report is;
  each = λ chain there. let at = placed report chain there in
      (lists program pairs at.before at.after chain (subst (IsReport program pairs) at.is is)).circular;
}
