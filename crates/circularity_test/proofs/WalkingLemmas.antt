-- The walk over the facts that a slot holds something, from the last to the first.
--
--   `stand`                                    how far a walk is from the first fact
--   `adds_pair`, `adds_no_pair`                what a fact gives
--   `walk_begins`, `walk_at`, `walk_turns`, `walk_falls`, `walk_ends`      the walk: its start, a turn, its end
use Rattle.std.proofs.Common.{◌≡◌, ◌∙◌, ◌⊎◌, inl, inr, ⊎_elim, ℕ, suc, ◌<◌, ◌≤◌, List, [], ◌∷◌, ◌++◌, length, Some, None, sym, ap, subst, arith, eq-or-lt_of_le, leb, true, false}
use Rattle.std.specs.Prelude.{Option, slice_get}
use Rattle.std.proofs.lemmas.Bool.Decides.{leb_tells}
use Rattle.std.proofs.lemmas.Option.{none-some, same_Some, slice_get_within}
use Rattle.circularity_test.proofs.AddingLemmas.{adds_as, adds_none, adds_one, adds_then}
use Rattle.circularity_test.specs.Adding.{Adds}
use Rattle.circularity_test.specs.Finding.{FutureHeld, HeldFrom, IsPairBy, IsPairOf, WalkedTo, task_in}
use Rattle.circularity_test.specs.declared.finding.Waiting.{Waiting}
use Rattle.contract_terms.specs.declared.fact.Atom.{Atom}
use Rattle.contract_terms.specs.declared.fact.Atom.TheVariants.{Object, Future}
use Rattle.contract_terms.specs.declared.fact.Fact.{Fact}
use Rattle.contract_terms.specs.declared.fact.Fact.TheVariants.{Holds}
use Rattle.contract_terms.specs.declared.pair.Pair.{Pair}
use Rattle.name_bounding.specs.declared.kind.Kind.{Kind}
use Rattle.saturation.proofs.ImageLemmas.{contains_at, at_contains}
use Rattle.saturation.specs.Keys.{IsLatest, IsOfSlot}

-- how far a walk is from the first fact
abbrev pub stand : Option ℕ → ℕ
stand None = 0
stand (Some index) = suc index

-- a fact of a slot that has a task says that the slot holds its future
task_held : (holder : Kind) (slot : ℕ) (one : Fact) (call : ℕ) (task : Kind) → IsOfSlot holder slot one
    → task_in one ≡ Some (call, task) → one ≡ Holds holder slot (Future call task)
task_held holder slot one call task own is = own.1 ∙ ap (Holds holder slot) (by_atom own.0 (sym (ap task_in own.1) ∙
    is))
  where
    by_atom : (atom : Atom) → task_in (Holds holder slot atom) ≡ Some (call, task) → atom ≡ Future call task
    by_atom (Object sign) none = absurd (none-some _ none)
    by_atom (Future place callee) some = ap (λ it. Future it.0 it.1) (same_Some (place, callee) (call, task) some)

-- pairs with the same parts are the same
same_parts : (one other : Pair) → one.place ≡ other.place → one.call ≡ other.call → one.mode ≡ other.mode
    → one.source ≡ other.source → one.target ≡ other.target → one ≡ other
same_parts one other places calls modes sources targets =
    ap (λ place. record one { place = place }) places
    ∙ (ap (λ call. record one { place = other.place; call = call }) calls
    ∙ (ap (λ mode. record one { place = other.place; call = other.call; mode = mode }) modes
    ∙ (ap (λ source. record other { source = source; target = one.target }) sources
    ∙ ap (λ target. record other { target = target }) targets)))

module _ (waiting : Waiting) where
  -- the pair of a fact was added
  pub adds_pair : {before now : List Pair} (fact : Fact) (added : Pair) → IsPairOf waiting fact added
      → now ≡ before ++ added ∷ [] → Adds (IsPairOf waiting fact) before now
  adds_pair fact added it is = adds_one added is it (λ pair other.
      let tasks = same_Some (added.call, added.target) (pair.call, pair.target) (sym it.task_is ∙ other.task_is) in
      same_parts added pair (it.place_is ∙ sym other.place_is) (ap (λ task. task.0) tasks)
      (it.mode_is ∙ sym other.mode_is) (it.source_is ∙ sym other.source_is) (ap (λ task. task.1) tasks))

  -- a fact without a future gives none
  pub adds_no_pair : {before now : List Pair} (fact : Fact) → task_in fact ≡ None → now ≡ before
      → Adds (IsPairOf waiting fact) before now
  adds_no_pair fact none same = adds_none same (λ pair it. none-some _ (sym none ∙ it.task_is))

  -- the pair of a fact of a slot is one by the slot
  pair_by_slot : (slot : ℕ) (fact : Fact) → IsOfSlot waiting.kind.now slot fact → (pair : Pair)
      → IsPairOf waiting fact pair → IsPairBy waiting slot fact pair
  pair_by_slot slot fact own pair it = record {
    place_is = it.place_is;
    mode_is = it.mode_is;
    source_is = it.source_is;
    fact_is = task_held waiting.kind.now slot fact pair.call pair.target own it.task_is;
  }

  pair_of_slot : (slot : ℕ) (fact : Fact) (pair : Pair) → IsPairBy waiting slot fact pair → IsPairOf waiting fact pair
  pair_of_slot slot fact pair it = record {
    place_is = it.place_is;
    mode_is = it.mode_is;
    source_is = it.source_is;
    task_is = ap task_in it.fact_is;
  }

-- the walk goes on toward the first fact
pub walk_falls : (facts : List Fact) (kind : Kind) (slot index : ℕ) (following : Option ℕ)
    → IsLatest (IsOfSlot kind slot) facts index following → stand following < stand (Some index)
walk_falls facts kind slot index None none = omega arith
walk_falls facts kind slot index (Some earlier) last = let below = last.0 in omega (arith, below)

module _ (facts : List Fact) (waiting : Waiting) (slot : ℕ) where
  -- the fact of a turn
  pub walk_at : (index : ℕ) (before now : List Pair) → WalkedTo facts waiting slot (Some index) before now
      → (one : Fact) × (slice_get facts index ≡ Some one) × IsOfSlot waiting.kind.now slot one
  walk_at index before now walked = walked.latest.1

  -- at its start it is at the last fact
  pub walk_begins : (next : Option ℕ) (before now : List Pair) → now ≡ before
      → IsLatest (IsOfSlot waiting.kind.now slot) facts (length facts) next
      → WalkedTo facts waiting slot next before now
  walk_begins next before now same latest = record {
    bound = length facts;
    latest = latest;
    added = adds_none same (λ pair held.
        let within = slice_get_within facts held.index held.fact held.there in
        let from = held.from in
        omega (arith, within, from));
  }

  -- the pairs by facts from an index on are those by the fact there, and those by facts from a later one on, between
  -- which there is none of the slot
  pairs_from : (index bound : ℕ) (one : Fact) → slice_get facts index ≡ Some one → index < bound
      → ((at : ℕ) (it : Fact) → index < at → at < bound → slice_get facts at ≡ Some it
      → IsOfSlot waiting.kind.now slot it → ⊥)
      → (pair : Pair) → HeldFrom facts waiting slot index pair
      → HeldFrom facts waiting slot bound pair ⊎ IsPairBy waiting slot one pair
  pairs_from index bound one there below none pair held = by_bound (leb_tells bound held.index)
    where
      by_index : (index ≡ held.index) ⊎ (index < held.index) → held.index < bound → IsPairBy waiting slot one pair
      by_index (inr later) before = absurd (none held.index held.fact later before held.there
          (Future pair.call pair.target, held.pair_by.fact_is))
      by_index (inl same) before = subst (λ it. IsPairBy waiting slot it pair)
          (same_Some held.fact one (sym held.there ∙ (ap (slice_get facts) (sym same) ∙ there))) held.pair_by

      by_bound : ((leb bound held.index ≡ true) × (bound ≤ held.index))
          ⊎ ((leb bound held.index ≡ false) × (held.index < bound))
          → HeldFrom facts waiting slot bound pair ⊎ IsPairBy waiting slot one pair
      by_bound (inl from) = inl (record {
        index = held.index;
        from = from.1;
        fact = held.fact;
        there = held.there;
        pair_by = held.pair_by;
      })
      by_bound (inr before) = inr (by_index (eq-or-lt_of_le held.from) before.1)

  -- one turn
  pub walk_turns : (index : ℕ) (following : Option ℕ) (before between now : List Pair)
      → WalkedTo facts waiting slot (Some index) before between
      → ((kind : Kind) (at : ℕ) (atom : Atom) → slice_get facts index ≡ Some (Holds kind at atom)
      → IsLatest (IsOfSlot kind at) facts index following)
      → (one : Fact) → slice_get facts index ≡ Some one → Adds (IsPairOf waiting one) between now
      → WalkedTo facts waiting slot following before now
  walk_turns index following before between now walked later one there step =
      let own = subst (IsOfSlot waiting.kind.now slot)
      (same_Some walked.latest.1.0 one (sym walked.latest.1.1 ∙ there)) walked.latest.1.2 in
      record {
        bound = index;
        latest = later waiting.kind.now slot own.0 (there ∙ ap Some own.1);
        added = adds_as (adds_then walked.added
            (adds_as step (pair_by_slot waiting slot one own) (pair_of_slot waiting slot one)))
            (λ pair is. ⊎_elim
            (λ held. record {
              index = held.index;
              from = let before_it = walked.latest.0 in let from = held.from in omega (arith, before_it, from);
              fact = held.fact;
              there = held.there;
              pair_by = held.pair_by;
            })
            (λ here. record { index = index; from = omega arith; fact = one; there = there; pair_by = here }) is)
            (λ pair held. pairs_from index walked.bound one there walked.latest.0 walked.latest.2 pair held);
      }

  -- at its end all pairs were added
  pub walk_ends : (before now : List Pair) → WalkedTo facts waiting slot None before now
      → Adds (FutureHeld facts waiting slot) before now
  walk_ends before now walked = adds_as walked.added
      (λ pair held. record {
        fact = held.fact;
        known = at_contains facts held.index held.fact held.there;
        pair_by = held.pair_by;
      })
      (λ pair held.
      let there = contains_at facts held.fact held.known in
      record {
        index = held.known.0;
        from = reached held.known.0 held.fact there (Future pair.call pair.target, held.pair_by.fact_is);
        fact = held.fact;
        there = there;
        pair_by = held.pair_by;
      })
    where
      reached : (index : ℕ) (one : Fact) → slice_get facts index ≡ Some one
          → IsOfSlot waiting.kind.now slot one → walked.bound ≤ index
      reached index one there is = ⊎_elim (λ from. from.1)
          (λ below. absurd (walked.latest index one below.1 there is)) (leb_tells walked.bound index)
