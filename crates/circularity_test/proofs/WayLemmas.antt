-- The way back to a pair is the first closed chain.
--
--   `by_indices`, `by_pairs`       a chain that closes, by the indices of its pairs, and the pairs at these
--   `follows_first`                no way of the same length comes before the one that is found
--   `away_first`                   how far the first pair is from the goal
--   `way_is_back`, `none_back`     what was found is the way back
use Rattle.std.proofs.Common.{◌≡◌, ◌∙◌, inr, ⊎_elim, ℕ, ◌≤◌, ◌<◌, Bool, true, false, List, [], ◌∷◌, length, Contains, Option, Some, None, slice_get, refl, sym, subst, ap, arith, eq-or-lt_of_le, get_or, nat_le, Vec, Global, is_le, nat_cmp, Ordering, Less, Equal, Greater}
use Rattle.std.specs.Cmp.Lexicographic.{slice_cmp}
use Rattle.std.specs.List.Sorted.{IsStrictlySortedBy}
use Rattle.std.specs.Ordering.{MatchOrdering, ordering_then}
use Rattle.std.proofs.lemmas.Bool.Decides.{nat_tests}
use Rattle.std.proofs.lemmas.Cmp.{ranked, tied_itself}
use Rattle.std.proofs.lemmas.Option.{same_Some, slice_get_within, slice_get-get_or, slice_get_cases}
use Rattle.abs_graph.specs.Views.{graph_of}
use Rattle.abs_tree.specs.Syntax.{ProgramTree}
use Rattle.circularity_test.specs.Distances.{AreNear, Leads}
use Rattle.circularity_test.specs.Network.{IsNetwork, led_to, waits_at}
use Rattle.circularity_test.specs.Routes.{AreWays, Follows, ends, goes, IsAway, IsFirst, IsNear, IsWayBack, Picks, Walked}
use Rattle.circularity_test.specs.declared.network.Network.{Network}
use Rattle.circularity_test.proofs.PickLemmas.{PicksEach, at_contains, picks_among, picks_each, picks_long, rises_at}
use Rattle.circularity_test.proofs.RouteLemmas.{ClosesBy, LinksTo, closer, follows_closes, follows_length, next_away, walk_of}
use Rattle.contract_terms.proofs.ChainLemmas.{contains_head, contains_tail, link_into_get}
use Rattle.contract_terms.proofs.PairOrderLemmas.{pair_order_total}
use Rattle.contract_terms.specs.Chains.{Closes, ClosesAt, chain_order}
use Rattle.contract_terms.specs.PairLinks.{IsLinked}
use Rattle.contract_terms.specs.Pairs.{pair_order}
use Rattle.contract_terms.specs.declared.pair.Mode.TheVariants.{Get}
use Rattle.contract_terms.specs.declared.pair.Pair.{Pair}

-- A chain that closes has indices.
record ByIndices (network : Network) (pairs : List Pair) (goal from : ℕ) (others : List Pair) : Type 0 where
  indices : List ℕ
  closes : ClosesBy network goal from indices
  picks : PicksEach pairs indices others

-- The pairs at indices that lead to the goal close a chain.
record ByPairs (program : ProgramTree) (pairs : List Pair) (get one : Pair) (indices : List ℕ) : Type 0 where
  others : List Pair
  closes : Closes program get one others
  picks : PicksEach pairs indices others

module _ (program : ProgramTree) (pairs : List Pair) (network : Network) (is : IsNetwork program pairs network) where
  -- each pair waits at a node
  entry_of : (index : ℕ) (pair : Pair) → slice_get pairs index ≡ Some pair
      → waits_at network index ≡ Some (get_or network.entries.items index 0)
  entry_of index pair there =
      let count = is.count in
      let within = slice_get_within pairs index pair there in
      slice_get-get_or network.entries.items index 0 (omega (arith, count, within))

  -- each index with a node has a pair
  pair_of : (index number : ℕ) → waits_at network index ≡ Some number
      → (pair : Pair) × (slice_get pairs index ≡ Some pair)
  pair_of index number waits =
      let count = is.count in
      let within = slice_get_within network.entries.items index number waits in
      ⊎_elim (λ one. (one.0, one.2)) (λ past. let over = past.0 in absurd (omega (arith, count, within, over)))
      (slice_get_cases pairs index).1

  -- a link of pairs of one component is one of their indices
  link_from : (from to : ℕ) (one other : Pair) → slice_get pairs from ≡ Some one → slice_get pairs to ≡ Some other
      → IsLinked program one other → is.component one ≡ is.component other → LinksTo network from to
  link_from from to one other here there linked same = record {
    number = get_or network.entries.items to 0;
    waits = entry_of to other there;
    leads = (is.linked from to (get_or network.entries.items to 0) one other here there (entry_of to other there)).1
        (linked, same);
  }

  -- and the other way round
  link_to : (from to : ℕ) (one other : Pair) → slice_get pairs from ≡ Some one → slice_get pairs to ≡ Some other
      → LinksTo network from to → IsLinked program one other
  link_to from to one other here there links =
      ((is.linked from to links.number one other here there links.waits).0 links.leads).0

  module _ (first goal : ℕ) (get : Pair) (gotten : slice_get pairs first ≡ Some get) (gets : get.mode ≡ Get)
      (waits : waits_at network first ≡ Some goal) where
    -- a chain that closes, by the indices of its pairs
    by_indices : (from : ℕ) (one : Pair) (others : List Pair) → slice_get pairs from ≡ Some one
        → ((pair : Pair) → Contains others pair → Contains pairs pair)
        → ((pair : Pair) → Contains (one ∷ others) pair → is.component pair ≡ is.component get)
        → Closes program get one others → ByIndices network pairs goal from others
    by_indices from one [] here among stays closes = record {
      indices = [];
      closes = (is.linked from first goal one get here gotten waits).1 (inr closes, stays one (contains_head one []));
      picks = tt;
    }
    by_indices from one (next ∷ others) here among stays closes =
        let there = among next (contains_head next others) in
        let at = at_contains pairs next there in
        let same : is.component one ≡ is.component next =
        stays one (contains_head one (next ∷ others))
        ∙ sym (stays next (contains_tail one (next ∷ others) next (contains_head next others))) in
        let rest = by_indices there.0 next others at
        (λ pair inside. among pair (contains_tail next others pair inside))
        (λ pair inside. stays pair (contains_tail one (next ∷ others) pair inside)) closes.1 in
        record {
          indices = there.0 ∷ rest.indices;
          closes = (link_from from there.0 one next here at closes.0 same, rest.closes);
          picks = (at, rest.picks);
        }

    -- a way that closes, by the pairs at its indices
    by_pairs : (from : ℕ) (one : Pair) (indices : List ℕ) → slice_get pairs from ≡ Some one
        → ClosesBy network goal from indices → ByPairs program pairs get one indices
    by_pairs from one [] here closes = record {
      others = [];
      closes = link_into_get program one get gets ((is.linked from first goal one get here gotten waits).0 closes).0;
      picks = tt;
    }
    by_pairs from one (next ∷ indices) here closes =
        let pair = pair_of next closes.0.number closes.0.waits in
        let rest = by_pairs next pair.0 indices pair.1 closes.1 in
        record {
          others = pair.0 ∷ rest.others;
          closes = (link_to from next one pair.0 here pair.1 closes.0, rest.closes);
          picks = (pair.1, rest.picks);
        }

-- chains that begin with equal pairs
equal_first : (one other : Pair) (others those : List Pair) → one ≡ other
    → is_le (slice_cmp pair_order others those) ≡ true
    → is_le (slice_cmp pair_order (one ∷ others) (other ∷ those)) ≡ true
equal_first one other others those same later =
    subst (λ it. is_le (ordering_then (pair_order one it) (slice_cmp pair_order others those)) ≡ true) same
    (subst (λ it. is_le (ordering_then it (slice_cmp pair_order others those)) ≡ true)
    (sym (tied_itself pair_order_total one)) later)

-- chains of which one begins with an earlier pair
less_first : (one other : Pair) (others those : List Pair) → pair_order one other ≡ Less
    → is_le (slice_cmp pair_order (one ∷ others) (other ∷ those)) ≡ true
less_first one other others those less =
    subst (λ it. is_le (ordering_then it (slice_cmp pair_order others those)) ≡ true) (sym less) refl

-- a chain that is no longer than another, and comes no later if it is as long
no_later : (one other : List Pair) → length one ≤ length other
    → (length one ≡ length other → is_le (slice_cmp pair_order one other) ≡ true) → is_le (chain_order one other) ≡ true
no_later one other most later =
    by (nat_cmp (length one) (length other))
    (ranked (length one) (length other) (nat_cmp (length one) (length other)) refl)
  where
    by : (order : Ordering)
        → MatchOrdering order (length one < length other) (length one ≡ length other) (length other < length one)
        → is_le (ordering_then order (slice_cmp pair_order one other)) ≡ true
    by Less below = refl
    by Equal same = later same
    by Greater above = absurd (omega (arith, most, above))

module _ (network : Network) (goal : ℕ) (starts : List ℕ) (far : ℕ → Option ℕ)
    (ways : AreWays network goal starts far) where
  module _ (pairs : List Pair) (rises : IsStrictlySortedBy pair_order pairs) where
    -- no way of the same length comes before the one that follows
    follows_first : (last left : ℕ) (others : List ℕ) → IsAway network goal far last left
        → Follows network far last left others → (those : List ℕ) → ClosesBy network goal last those
        → length those ≡ left → (chain other : List Pair) → PicksEach pairs others chain
        → PicksEach pairs those other → is_le (slice_cmp pair_order chain other) ≡ true
    follows_first last left others away (ends at) [] closes long [] [] picks picked = refl
    follows_first last left others away (ends at) [] closes long [] (second ∷ after) picks picked = absurd picked
    follows_first last left others away (ends at) those closes long (one ∷ later) other picks picked = absurd picks
    follows_first last left others away (ends at) (index ∷ indices) closes long [] other picks picked =
        absurd (omega (arith, long))
    follows_first last left others away (goes at less next rest first follows) [] closes long chain other picks picked =
        absurd (omega (arith, long))
    follows_first last left others away (goes at less next rest first follows) (index ∷ indices) closes long []
        other picks picked =
        absurd picks
    follows_first last left others away (goes at less next rest first follows) (index ∷ indices) closes long
        (one ∷ later) [] picks picked =
        absurd picked
    follows_first last left others away (goes at less next rest first follows) (index ∷ indices) closes long
        (one ∷ later) (second ∷ after) picks picked =
        let shorter : length indices ≡ less = omega (arith, long) in
        let steps = closer network goal starts far ways last less index indices away closes.0 closes.1 shorter in
        ⊎_elim
        (λ same. equal_first one second later after
        (same_Some one second (sym picks.0 ∙ ap (slice_get pairs) same ∙ picked.0))
        (follows_first next less rest (next_away network goal starts far ways last less next away first.0) follows
        indices (subst (λ it. ClosesBy network goal it indices) (sym same) closes.1) shorter later after picks.1
        picked.1))
        (λ below. less_first one second later after
        (rises_at pair_order pairs rises next index one second below picks.0 picked.0))
        (eq-or-lt_of_le (first.1 index steps))

  -- the least distance of the nodes to which a pair leads is how far that is from the goal
  pub away_first : (first distance : ℕ) → starts ≡ led_to network first → IsFirst (IsNear far starts) (Some distance)
      → IsAway network goal far first distance
  away_first first distance same found = record {
    near = subst (λ nodes. IsNear far nodes distance) same found.0;
    least = λ node count inside leads.
        by node count (subst (λ nodes. Contains nodes node) (sym same) inside) leads
        (nat_le count ways.near.bound) refl;
  }
    where
      by : (node count : ℕ) → Contains starts node → Leads (graph_of network.before.items) goal node count
          → (test : Bool) → nat_le count ways.near.bound ≡ test → distance ≤ count
      by node count inside leads true test =
          let it = ways.near.near node count leads (grind (arith, nat_tests)) in
          let most = it.1 in
          let least = found.1 it.0 (record { node = node; inside = inside; is = it.2 }) in
          omega (arith, most, least)
      by node count inside leads false test =
          let bounded = ways.near.within found.0.node distance found.0.is in
          grind (arith, nat_tests)

module _ (program : ProgramTree) (pairs : List Pair) (network : Network) (is : IsNetwork program pairs network)
    (first goal : ℕ) (get : Pair) (gotten : slice_get pairs first ≡ Some get) (gets : get.mode ≡ Get)
    (waits : waits_at network first ≡ Some goal) (starts : List ℕ) (same : starts ≡ led_to network first)
    (far : ℕ → Option ℕ) (near : AreNear (graph_of network.before.items) goal starts far) where
  -- the distances are those of the network
  pub ways_of : AreWays network goal starts far
  ways_of = record { members = is.members; before = is.before; near = near }

  -- the indices of a chain that leads back
  indices_back : (chain : List Pair) → (closes : ClosesAt program pairs get chain)
      → ByIndices network pairs goal first closes.others
  indices_back chain closes =
      by_indices program pairs network is first goal get gotten gets waits first get closes.others gotten
      (λ pair inside. closes.among pair (subst (λ list. Contains list pair) (sym closes.starts)
      (contains_tail get closes.others pair inside)))
      (λ pair inside. is.keeps get chain closes pair (subst (λ list. Contains list pair) (sym closes.starts) inside))
      closes.closes

  -- no chain leads back where no distance was found
  pub none_back : IsFirst (IsNear far starts) None → IsWayBack program pairs get None
  none_back none chain closes =
      let indices = indices_back chain closes in
      let walk = walk_of network goal first indices.indices is.before indices.closes in
      let found = near.enough (record {
        node = walk.node;
        inside = subst (λ nodes. Contains nodes walk.node) (sym same) walk.inside;
        length = length indices.indices;
        leads = walk.leads;
      }) in
      none found.1 (record { node = found.0; inside = found.2; is = found.3 })

  -- what was found is the way back
  pub way_is_back : IsStrictlySortedBy pair_order pairs → (distance : ℕ)
      → IsFirst (IsNear far starts) (Some distance) → (indices : Vec ℕ Global)
      → Walked network far first distance indices.items → IsWayBack program pairs get (Some indices)
  way_is_back rises distance found indices walked =
      let away = away_first network goal starts far ways_of first distance same found in
      let closes = follows_closes network goal starts far ways_of first distance walked.others away walked.follows in
      let chain =
      by_pairs program pairs network is first goal get gotten gets waits first get walked.others gotten closes in
      let long = picks_long pairs walked.others chain.others chain.picks
      ∙ follows_length network far first distance walked.others walked.follows in (
        get ∷ chain.others,
        subst (λ list. Picks pairs list (get ∷ chain.others)) (sym walked.starts)
            (picks_each pairs (first ∷ walked.others) (get ∷ chain.others) (gotten, chain.picks)),
        record {
          closes = record {
            others = chain.others;
            starts = refl;
            among = picks_among pairs (first ∷ walked.others) (get ∷ chain.others) (gotten, chain.picks);
            closes = chain.closes;
          };
          least = λ other back.
              let those = indices_back other back in
              let walk = walk_of network goal first those.indices is.before those.closes in
              let most = away.least walk.node (length those.indices) walk.inside walk.leads in
              let longer = picks_long pairs those.indices back.others those.picks in
              subst (λ list. is_le (chain_order (get ∷ chain.others) list) ≡ true) (sym back.starts)
              (no_later (get ∷ chain.others) (get ∷ back.others) (omega (arith, long, most, longer))
              (λ as_long. equal_first get get chain.others back.others refl
              (follows_first network goal starts far ways_of pairs rises first distance walked.others away
              walked.follows
              those.indices those.closes (omega (arith, long, longer, as_long)) chain.others back.others chain.picks
              those.picks)));
        },
      )
