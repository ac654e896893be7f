-- The pairs that were found are the pairs of the program.
--
--   `pair_eq`, `pair_cmp`          the test of pairs in the code, and their order
--   `contains_merely`              a pair that is merely there is there
--   `pairs_are`                    the pairs that were found, sorted and each once
use mathlib.Core.Logic.{∥∥₁_elim, ∥∥₁_prop}
use Rattle.std.proofs.Common.{◌≡◌, ◌∙◌, ◌⊎◌, inl, inr, ⊎_elim, ℕ, Bool, true, false, not, ◌&&◌, List, [], ◌∷◌, ◌+◌, Contains, Some, refl, sym, ap, subst, arith, nat_eq, eqb-true, rules}
use Rattle.std.proofs.Math.Bool.{Bool-set}
use Rattle.std.proofs.Math.Logic.{∥∥₁_map}
use Rattle.std.specs.Cmp.{IsEquivalence, Equal-is, eq_by_cmp_equiv}
use Rattle.std.specs.List.{dedup}
use Rattle.std.specs.List.Sorted.{IsPermutation, IsSorted, IsStrictlySortedBy}
use Rattle.std.specs.Ordering.{eq_by_cmp, is_eq, is_lt, nat_cmp, ordering_then}
use Rattle.std.specs.Prelude.{get_or, slice_get}
use Rattle.std.specs.declared.cmp.Ordering.{Ordering}
use Rattle.std.specs.declared.cmp.Ordering.TheVariants.{Less, Equal, Greater}
use Rattle.std.specs.Cmp.Lexicographic.{slice_cmp}
use Rattle.std.proofs.lemmas.List.Elements.{Contains-append_right}
use Rattle.std.proofs.lemmas.Bool.{cond-true, cond-false, cases_Bool, false≢true, false_from_ne_true}
use Rattle.std.proofs.lemmas.List.Kept.{Contains-dedup, Contains-from_dedup, IsStrictlySortedBy-dedup}
use Rattle.std.proofs.lemmas.List.Sorted.{Contains-permutation, IsPermutation-sym}
use Rattle.std.proofs.lemmas.Map.Views.{Contains-from_any, list_any-from_Contains}
use Rattle.std.proofs.lemmas.Option.{none-some, same_Some}
use Rattle.abs_program.specs.Flows.{Slots}
use Rattle.abs_program.specs.Instructions.{EffectTree, Skips, Suspends, Awaits, Chooses, Returns, Prints, Clears, Stores, Makes, Sends, CallsOwn, CallsOther, Gets, effect_of, instruction_of}
use Rattle.abs_tree.specs.Syntax.{ProgramTree}
use Rattle.circularity_test.specs.Adding.{Adds, OfEach}
use Rattle.circularity_test.specs.Finding.{BodyOf, KindWaits, LiveWaits}
use Rattle.circularity_test.specs.Finding.BodyOf.{of_main, of_method}
use Rattle.contract_terms.proofs.PairOrderLemmas.{pair_order_total, pairs_same}
use Rattle.contract_terms.specs.Pairs.{ArePairs, IsPair, kind_order, mode_of, mode_order, pair_order}
use Rattle.contract_terms.specs.ProgramTerms.{AreTermsOf}
use Rattle.contract_terms.specs.Settled.{named_slots, once_among, without}
use Rattle.contract_terms.specs.Terms.{has_term}
use Rattle.contract_terms.specs.contracts.pair.ModeOrd.TheImpl as mode_ordering
use Rattle.contract_terms.specs.contracts.pair.PairOrd.TheImpl as pair_ordering
use Rattle.contract_terms.specs.contracts.pair.PairPartialEq.TheImpl as pair_equality
use Rattle.contract_terms.specs.declared.fact.Fact.{Fact}
use Rattle.contract_terms.specs.declared.fact.Fact.TheVariants.{Live}
use Rattle.contract_terms.specs.declared.pair.Mode.{Mode}
use Rattle.contract_terms.specs.declared.pair.Mode.TheVariants.{Get, Await}
use Rattle.contract_terms.specs.declared.pair.Pair.{Pair}
use Rattle.contract_terms.specs.declared.terms.Terms.{Terms}
use Rattle.list_facts.proofs.AllLemmas.{Contains-head_or_tail}
use Rattle.name_bounding.specs.contracts.kind.KindOrd.TheImpl as kind_ordering
use Rattle.name_bounding.specs.declared.kind.Kind.{Kind}
use Rattle.name_bounding.specs.declared.kind.Kind.TheVariants.{Main, Method}
use Rattle.saturation.proofs.ImageLemmas.{contains_at, at_contains}
use Rattle.saturation.proofs.PlaceLemmas.{placed_by_statement, placed_by_term}
use Rattle.saturation.specs.Rows.{HasBody, main_block, a_method}
use Rattle.saturation.specs.declared.body.Body.{Body}

-- whether two pairs are equal, by the test of the code
abbrev pub pair_eq : Pair → Pair → Bool
pair_eq = (pair_equality.eq-value).it

-- the order of pairs in the code
abbrev pub pair_cmp : Pair → Pair → Ordering
pair_cmp = (pair_ordering.ghosts).cmp

-- orders one after the other, however they are grouped
grouped : (first second third : Ordering)
    → ordering_then (ordering_then first second) third ≡ ordering_then first (ordering_then second third)
grouped Less second third = refl
grouped Equal second third = refl
grouped Greater second third = refl

-- it is the order of the definition
cmp_same : (one other : Pair) → pair_cmp one other ≡ pair_order one other
cmp_same one other =
    ap (λ it. ordering_then (nat_cmp one.place other.place) (ordering_then (nat_cmp one.call other.call) it))
    (ap (λ it. ordering_then it (ordering_then ((kind_ordering.ghosts).cmp one.source other.source)
    ((kind_ordering.ghosts).cmp one.target other.target))) (modes one.mode other.mode)
    ∙ ap (ordering_then (mode_order one.mode other.mode))
    (ap (λ it. ordering_then it ((kind_ordering.ghosts).cmp one.target other.target)) (kinds one.source other.source)
    ∙ ap (ordering_then (kind_order one.source other.source)) (kinds one.target other.target)))
  where
    modes : (one other : Mode) → (mode_ordering.ghosts).cmp one other ≡ mode_order one other
    modes Get Get = refl
    modes Get Await = refl
    modes Await Get = refl
    modes Await Await = refl

    kinds : (one other : Kind) → (kind_ordering.ghosts).cmp one other ≡ kind_order one other
    kinds Main Main = refl
    kinds Main (Method sign method) = refl
    kinds (Method sign method) Main = refl
    kinds (Method sign method) (Method other its) =
        grouped (nat_cmp sign.place other.place) (slice_cmp nat_cmp sign.cog other.cog) (nat_cmp method.0 its.0)

-- pairs that are sorted by one are sorted by the other
pub sorted_same : (pairs : List Pair) → IsSorted pair_cmp pairs → IsSorted pair_order pairs
sorted_same pairs sorted index default from below =
    ap is_lt (sym (cmp_same (get_or pairs (index + 1) default) (get_or pairs index default)))
    ∙ sorted index default from below

pair_eq_reflexive : (one : Pair) → pair_eq one one ≡ true
pair_eq_reflexive one = search rules

pub pair_eq_same : (one other : Pair) → pair_eq one other ≡ true → one ≡ other
pair_eq_same one other reported = search rules

-- the test tells what the order does not tell apart
pair_ties : (one other : Pair) → pair_eq one other ≡ eq_by_cmp pair_order one other
pair_ties one other = by_eq (cases_Bool (pair_eq one other)) (cases_Bool (is_eq (pair_order one other)))
  where
    by_eq : (pair_eq one other ≡ true) ⊎ (pair_eq one other ≡ false)
        → (is_eq (pair_order one other) ≡ true) ⊎ (is_eq (pair_order one other) ≡ false)
        → pair_eq one other ≡ is_eq (pair_order one other)
    by_eq (inl same) (inl tied) = same ∙ sym tied
    by_eq (inl same) (inr apart) = absurd (false≢true (sym apart
        ∙ subst (λ it. is_eq (pair_order one it) ≡ true) (pair_eq_same one other same)
        ((eq_by_cmp_equiv pair_order_total).refl one)))
    by_eq (inr apart) (inl tied) = absurd (false≢true (sym apart
        ∙ subst (λ it. pair_eq one it ≡ true)
        (pairs_same one other ((Equal-is (pair_order one other)).0 tied)) (pair_eq_reflexive one)))
    by_eq (inr apart) (inr free) = apart ∙ sym free

-- the test is an equivalence
pair_eq_laws : IsEquivalence pair_eq
pair_eq_laws = record {
  refl = pair_eq_reflexive;
  symm = λ one other. pair_ties one other
      ∙ ((eq_by_cmp_equiv pair_order_total).symm one other ∙ sym (pair_ties other one));
  congr = λ one other third same. ap (λ it. pair_eq it third) (pair_eq_same one other same);
}

-- a pair that is merely there is there, since a test finds it
contains_merely : (pairs : List Pair) (pair : Pair) → ∥ Contains pairs pair ∥₁ → Contains pairs pair
contains_merely pairs pair there =
    Contains-from_any {eq = eq_by_cmp pair_order}
    (λ one other tied. pairs_same one other ((Equal-is (pair_order one other)).0 tied)) pair pairs
    (∥∥₁_elim there (Bool-set _ _)
    (λ inside. list_any-from_Contains {eq = eq_by_cmp pair_order} (eq_by_cmp_equiv pair_order_total) pair pairs inside))

and_first : (a b : Bool) → (a && b) ≡ true → a ≡ true
and_first true b both = refl
and_first false b both = absurd (false≢true both)

-- the slots of a list that are in a set are kept once
once_kept : (fact : Slots) (list : List ℕ) (slot : ℕ) → Contains list slot → fact slot ≡ true
    → Contains (once_among fact list) slot
unfolding once_among
once_kept fact [] slot there is = absurd (omega (arith, there.1))
once_kept fact (first ∷ others) slot there is = by_first (cases_Bool (fact first))
    (Contains-head_or_tail first others slot there) (λ set kept. once_kept set others slot kept)
  where
    further : (set : Slots) → Contains (first ∷ once_among set others) slot → fact first ≡ true
        → set ≡ without fact first
        → Contains (once_among fact (first ∷ others)) slot
    further set inside yes_first same = subst (λ it. Contains it slot)
        (sym (cond-true (fact first) (first ∷ once_among (without fact first) others) (once_among fact others)
        yes_first))
        (subst (λ it. Contains (first ∷ once_among it others) slot) same inside)

    by_first : (fact first ≡ true) ⊎ (fact first ≡ false) → (first ≡ slot) ⊎ Contains others slot
        → ((set : Slots) → Contains others slot → set slot ≡ true → Contains (once_among set others) slot)
        → Contains (once_among fact (first ∷ others)) slot
    by_first (inl here) (inl same) rest =
        further (without fact first) (0, omega arith, same) here refl
    by_first (inl here) (inr later) rest = by_same (cases_Bool (nat_eq first slot))
      where
        by_same : (nat_eq first slot ≡ true) ⊎ (nat_eq first slot ≡ false)
            → Contains (once_among fact (first ∷ others)) slot
        by_same (inl same) = further (without fact first) (0, omega arith, eqb-true first slot same) here refl
        by_same (inr apart) = further (without fact first)
            (Contains-append_right (first ∷ []) (once_among (without fact first) others) slot
            (rest (without fact first) later (ap (λ b. fact slot && not b) apart ∙ ap (λ b. b && true) is))) here refl
    by_first (inr none) (inl same) rest = absurd (false≢true (sym none ∙ (ap fact same ∙ is)))
    by_first (inr none) (inr later) rest = subst (λ it. Contains it slot)
        (sym (cond-false (fact first) (first ∷ once_among (without fact first) others) (once_among fact others) none))
        (rest fact later is)

-- what is kept is in the set
kept_in : (fact : Slots) (list : List ℕ) (slot : ℕ) → Contains (once_among fact list) slot → fact slot ≡ true
unfolding once_among
kept_in fact [] slot there = absurd (omega (arith, there.1))
kept_in fact (first ∷ others) slot there = by_first (cases_Bool (fact first)) (λ set inside. kept_in set others slot
    inside)
  where
    by_first : (fact first ≡ true) ⊎ (fact first ≡ false)
        → ((set : Slots) → Contains (once_among set others) slot → set slot ≡ true) → fact slot ≡ true
    by_first (inl here) rest = ⊎_elim
        (λ same. subst (λ it. fact it ≡ true) same here)
        (λ later. and_first (fact slot) (not (nat_eq first slot)) (rest (without fact first) later))
        (Contains-head_or_tail first (once_among (without fact first) others) slot
        (subst (λ it. Contains it slot)
        (cond-true (fact first) (first ∷ once_among (without fact first) others) (once_among fact others) here) there))
    by_first (inr none) rest = rest fact
        (subst (λ it. Contains it slot)
        (cond-false (fact first) (first ∷ once_among (without fact first) others) (once_among fact others) none) there)

mode_has_term : (effect : EffectTree) (mode : Mode) → mode_of effect ≡ Some mode → has_term effect ≡ true
mode_has_term Skips mode is = absurd (none-some mode is)
mode_has_term Suspends mode is = absurd (none-some mode is)
mode_has_term (Awaits names) mode is = refl
mode_has_term Chooses mode is = absurd (none-some mode is)
mode_has_term Returns mode is = absurd (none-some mode is)
mode_has_term Prints mode is = absurd (none-some mode is)
mode_has_term (Clears target) mode is = absurd (none-some mode is)
mode_has_term (Stores target) mode is = absurd (none-some mode is)
mode_has_term (Makes how class target) mode is = absurd (none-some mode is)
mode_has_term (Sends method target) mode is = absurd (none-some mode is)
mode_has_term (CallsOwn method target) mode is = absurd (none-some mode is)
mode_has_term (CallsOther method hidden target) mode is = absurd (none-some mode is)
mode_has_term (Gets named target) mode is = refl

module _ (program : ProgramTree) (terms : Terms) (are : AreTermsOf program terms) (facts : List Fact) where
  -- a body by the contracts is one of the kind, and the other way round
  has_body : (kind : Kind) (own : Body) → BodyOf program terms kind own → HasBody program kind own
  has_body _ _ of_main = main_block
  has_body _ own (of_method sign method class _ made is) =
      a_method sign method class own (subst (λ list. Contains list class) (are.made sign.place) made) is

  body_of : (kind : Kind) (own : Body) → HasBody program kind own → BodyOf program terms kind own
  body_of _ _ main_block = of_main
  body_of _ own (a_method sign method class _ made is) =
      of_method sign method class own (subst (λ list. Contains list class) (sym (are.made sign.place)) made) is

  -- what was found is a pair
  is_pair : (pair : Pair) → Contains facts (Live pair.source) → KindWaits program terms facts pair.source pair
      → IsPair program (Contains facts) pair
  is_pair pair live waits =
      let term = waits.waits.from in
      let at = waits.waits.is in
      let there = placed_by_term program terms are pair.source waits.own waits.waits.inside.0 at.instruction term
      (has_body pair.source waits.own waits.has)
      (record { there = contains_at _ term waits.waits.inside; instruction_is = at.there }) in
      let effects = ap (λ it. it.effect) there.same in
      record {
        live = live;
        index = term.index;
        here = record {
          context = there.context;
          body_is = there.placed.body_is;
          inside = there.placed.inside;
          point = there.point;
          there = there.placed.there;
        };
        place_is = at.waits.place_is ∙ sym (ap (λ it. it.place) there.same);
        mode_is = ap mode_of effects ∙ at.waits.mode_is;
        slot = at.waits.slot;
        named = subst (λ it. Contains (named_slots it) at.waits.slot) (sym effects) at.waits.named;
        settled = there.placed.settled;
        settled_there = there.placed.settled_is;
        unsettled = false_from_ne_true (there.placed.settled at.waits.slot)
            (λ is. at.waits.unsettled (subst (λ it. Contains it at.waits.slot) (sym there.placed.is.settled_are)
            (once_kept there.placed.settled (named_slots (effect_of there.point.statement)) at.waits.slot
            (subst (λ it. Contains (named_slots it) at.waits.slot) (sym effects) at.waits.named) is)));
        held = at.waits.held;
      }

  -- a pair is found
  pair_found : (pair : Pair) → IsPair program (Contains facts) pair
      → KindWaits program terms facts pair.source pair
  pair_found pair is =
      let here = placed_by_statement program terms are pair.source is.index is.here
      (mode_has_term (effect_of is.here.point.statement) pair.mode is.mode_is) in
      let settled = same_Some here.placed.settled is.settled
      (sym here.placed.settled_is ∙ (ap (slice_get _) here.index_is ∙ is.settled_there)) in
      record {
        own = here.own;
        has = body_of pair.source here.own here.placed.has;
        waits = record {
          from = here.term;
          inside = at_contains _ here.place here.term here.placed.at.there;
          is = record {
            instruction = instruction_of is.here.point;
            there = here.placed.at.instruction_is;
            waits = record {
              source_is = refl;
              place_is = is.place_is;
              mode_is = is.mode_is;
              slot = is.slot;
              named = is.named;
              unsettled = λ inside. false≢true
                  (sym is.unsettled
                  ∙ (ap (λ it. it is.slot) (sym settled)
                  ∙ kept_in here.placed.settled (named_slots (effect_of is.here.point.statement)) is.slot
                  (subst (λ it. Contains it is.slot) here.placed.is.settled_are inside)));
              held = is.held;
            };
          };
        };
      }

-- sorted pairs rise once each is there once
pub pairs_rise : (sorted left : List Pair) → left ≡ dedup pair_eq sorted → IsSorted pair_order sorted
    → IsStrictlySortedBy pair_order left
pairs_rise sorted left is rises = subst (IsStrictlySortedBy pair_order) (sym is)
    (IsStrictlySortedBy-dedup pair_order_total pair_ties sorted rises)

-- The pairs that were found, sorted and each once, are the pairs.
pub pairs_are : (program : ProgramTree) (terms : Terms) → ∥ AreTermsOf program terms ∥₁ → (facts : List Fact)
    → (found sorted left : List Pair) → Adds (OfEach (LiveWaits program terms facts) facts) [] found
    → IsPermutation found sorted → left ≡ dedup pair_eq sorted → IsSorted pair_order sorted
    → ArePairs program facts left
pairs_are program terms are facts found sorted left added same is rises = subst (ArePairs program facts) (sym is)
    (record {
      each = λ pair. (
        (λ there.
            let each = ⊎_elim (λ nowhere. absurd (omega (arith, nowhere.1))) (λ it. it)
            (added.only pair (Contains-permutation sorted found pair (IsPermutation-sym found sorted same)
            (Contains-from_dedup pair_eq sorted pair there))) in
            ∥∥₁_map are (λ it.
            is_pair program terms it facts pair (subst (Contains facts) each.is.live each.inside) each.is.waits)),
        (λ pair_is_there. contains_merely (dedup pair_eq sorted) pair
            (∥∥₁_elim are ∥∥₁_prop (λ it. ∥∥₁_map pair_is_there (λ pair_is.
            Contains-dedup pair_eq_laws pair_eq_same sorted pair
            (Contains-permutation found sorted pair same
            (added.all pair (record {
              from = Live pair.source;
              inside = pair_is.live;
              is = record { live = refl; waits = pair_found program terms it facts pair pair_is };
            }))))))),
      );
      rises = IsStrictlySortedBy-dedup pair_order_total pair_ties sorted rises;
    })
