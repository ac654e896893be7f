-- Links, steps and closed chains.
--
--   `link_into_get`, `link_into_await`     what a link into a `get` is, and what one into an `await` is
--   `contains_head`, `contains_tail`       what a list contains
--   `chain_is_circular`                    a chain that leads back to its first pair is circular
--   `Turned`, `turned`                     a circular chain leads back to each pair into which a step of it is held
use Rattle.std.proofs.Common.{◌≡◌, ◌⊎◌, inl, inr, ⊎_elim, ℕ, List, [], ◌∷◌, ◌++◌, Contains, refl, sym, ap, subst, arith}
use Rattle.std.proofs.lemmas.List.Elements.{Contains-append_right}
use Rattle.list_facts.proofs.AllLemmas.{Contains-head_or_tail}
use Rattle.abs_tree.specs.Syntax.{ProgramTree}
use Rattle.contract_terms.specs.Chains.{steps_from, steps_of, AreAmong, IsCircular, Closes, ClosesAt}
use Rattle.contract_terms.specs.PairLinks.{IsReachedByCalls, itself, by_calls, Continues, IsHeld, IsLinked}
use Rattle.contract_terms.specs.declared.pair.Mode.TheVariants.{Get, Await}
use Rattle.contract_terms.specs.declared.pair.Pair.{Pair}
use Rattle.name_bounding.specs.Names.{cog_of}
use Rattle.name_bounding.specs.declared.kind.Kind.{Kind}

-- calls on `this` stay in the cog
same_cog : (program : ProgramTree) (from to : Kind) → IsReachedByCalls program from to → cog_of to ≡ cog_of from
same_cog program from to (itself kind) = refl
same_cog program from to (by_calls sign one other class member reached begins ends leads) = refl

pub link_into_get : (program : ProgramTree) (one other : Pair) → other.mode ≡ Get → IsLinked program one other
    → IsHeld one other
link_into_get program one other gets (inl continues) = (gets, same_cog program one.target other.source continues)
link_into_get program one other gets (inr held) = held

pub link_into_await : (program : ProgramTree) (one other : Pair) → other.mode ≡ Await → IsLinked program one other
    → Continues program one other
link_into_await program one other awaits (inl continues) = continues
link_into_await program one other awaits (inr held) = absurd (cc)

pub contains_head : {A : Type 0} (first : A) (others : List A) → Contains (first ∷ others) first
contains_head first others = (0, omega arith, refl)

pub contains_tail : {A : Type 0} (first : A) (others : List A) (one : A) → Contains others one
    → Contains (first ∷ others) one
contains_tail first others one there = Contains-append_right (first ∷ []) others one there

-- each step of a chain that leads to a goal is a link
closes_linked : (program : ProgramTree) (goal one : Pair) (others : List Pair) → Closes program goal one others
    → (from to : Pair) → Contains (steps_from goal one others) (from, to) → IsLinked program from to
closes_linked program goal one [] closes from to step = ⊎_elim
    (λ same. subst (λ pair. IsLinked program pair.0 pair.1) same (inr closes))
    (λ none. absurd (omega (arith, none.1)))
    (Contains-head_or_tail (one, goal) [] (from, to) step)
closes_linked program goal one (next ∷ others) closes from to step = ⊎_elim
    (λ same. subst (λ pair. IsLinked program pair.0 pair.1) same closes.0)
    (λ later. closes_linked program goal next others closes.1 from to later)
    (Contains-head_or_tail (one, next) (steps_from goal next others) (from, to) step)

-- A step into a pair is held.
record HeldInto (steps : List (Pair × Pair)) (to : Pair) : Type 0 where
  from : Pair
  step : Contains steps (from, to)
  held : IsHeld from to

-- the last step of a chain that leads to a goal is held
closes_held : (program : ProgramTree) (goal one : Pair) (others : List Pair) → Closes program goal one others
    → HeldInto (steps_from goal one others) goal
closes_held program goal one [] closes = record { from = one; step = contains_head (one, goal) []; held = closes }
closes_held program goal one (next ∷ others) closes =
    let later = closes_held program goal next others closes.1 in
    record {
      from = later.from;
      step = contains_tail (one, next) (steps_from goal next others) (later.from, goal) later.step;
      held = later.held;
    }

pub chain_is_circular : (program : ProgramTree) (pairs : List Pair) (first : Pair) (chain : List Pair)
    → ClosesAt program pairs first chain → IsCircular program pairs chain
chain_is_circular program pairs first chain closes =
    subst (IsCircular program pairs) (sym closes.starts)
    (let held = closes_held program first first closes.others closes.closes in
    record {
      among = λ pair there. closes.among pair (subst (λ it. Contains it pair) (sym closes.starts) there);
      linked = closes_linked program first first closes.others closes.closes;
      one = held.from;
      next = first;
      step = held.step;
      held = held.held;
    })

-- From a pair a chain of pairs in a list leads to a goal.
record Way (program : ProgramTree) (pairs : List Pair) (goal from : Pair) : Type 0 where
  others : List Pair
  among : AreAmong pairs (from ∷ others)
  closes : Closes program goal from others

-- a list has a pair and some others, so it has all of these
among_cons : (pairs : List Pair) (first : Pair) (others : List Pair) → Contains pairs first → AreAmong pairs others
    → AreAmong pairs (first ∷ others)
among_cons pairs first others there among pair inside = ⊎_elim
    (λ same. subst (Contains pairs) same there)
    (λ later. among pair later)
    (Contains-head_or_tail first others pair inside)

-- a step further back
longer : (program : ProgramTree) (pairs : List Pair) (goal one next : Pair) → Contains pairs one
    → IsLinked program one next → Way program pairs goal next → Way program pairs goal one
longer program pairs goal one next there linked way = record {
  others = next ∷ way.others;
  among = among_cons pairs one (next ∷ way.others) there way.among;
  closes = (linked, way.closes);
}

-- the steps of a chain lead to where the way of its end leads
joined : (program : ProgramTree) (pairs : List Pair) (goal first one : Pair) (others : List Pair)
    → AreAmong pairs (one ∷ others)
    → ((from to : Pair) → Contains (steps_from first one others) (from, to) → IsLinked program from to)
    → Way program pairs goal first → Way program pairs goal one
joined program pairs goal first one [] among linked way =
    longer program pairs goal one first (among one (contains_head one []))
    (linked one first (contains_head (one, first) [])) way
joined program pairs goal first one (next ∷ others) among linked way =
    longer program pairs goal one next (among one (contains_head one (next ∷ others)))
    (linked one next (contains_head (one, next) (steps_from first next others)))
    (joined program pairs goal first next others
    (λ pair there. among pair (contains_tail one (next ∷ others) pair there))
    (λ from to step. linked from to (contains_tail (one, next) (steps_from first next others) (from, to) step)) way)

-- a held link is a way
held_way : (program : ProgramTree) (pairs : List Pair) (goal one : Pair) → Contains pairs one → IsHeld one goal
    → Way program pairs goal one
held_way program pairs goal one there held = record {
  others = [];
  among = among_cons pairs one [] there (λ pair none. absurd (omega (arith, none.1)));
  closes = held;
}

-- If a step after the first ones is held, a way leads from its end back to there.
turned_from : (program : ProgramTree) (pairs : List Pair) (first one : Pair) (others : List Pair)
    → ((goal : Pair) → Way program pairs goal one → Way program pairs goal first)
    → AreAmong pairs (one ∷ others)
    → ((from to : Pair) → Contains (steps_from first one others) (from, to) → IsLinked program from to)
    → (from to : Pair) → Contains (steps_from first one others) (from, to) → IsHeld from to → Way program pairs to to
turned_from program pairs first one [] before among linked from to step held = ⊎_elim
    (λ same. subst (λ pair. IsHeld pair.0 pair.1 → Way program pairs pair.1 pair.1) same
    (λ is_held. before first (held_way program pairs first one (among one (contains_head one [])) is_held)) held)
    (λ none. absurd (omega (arith, none.1)))
    (Contains-head_or_tail (one, first) [] (from, to) step)
turned_from program pairs first one (next ∷ others) before among linked from to step held =
    let there = among one (contains_head one (next ∷ others)) in
    let rest : AreAmong pairs (next ∷ others) = λ pair inside. among pair (contains_tail one (next ∷ others) pair
    inside) in
    let further = λ (begin end : Pair) (it : Contains (steps_from first next others) (begin, end)).
    linked begin end (contains_tail (one, next) (steps_from first next others) (begin, end) it) in
    ⊎_elim
    (λ same. subst (λ pair. IsHeld pair.0 pair.1 → Way program pairs pair.1 pair.1) same
    (λ is_held. joined program pairs next first next others rest further
    (before next (held_way program pairs next one there is_held))) held)
    (λ later. turned_from program pairs first next others
    (λ goal way. before goal
    (longer program pairs goal one next there
    (linked one next (contains_head (one, next) (steps_from first next others))) way))
    rest further from to later held)
    (Contains-head_or_tail (one, next) (steps_from first next others) (from, to) step)

-- A chain leads back to a pair.
pub record Turned (program : ProgramTree) (pairs : List Pair) (first : Pair) : Type 0 where
  pub chain : List Pair
  pub closes : ClosesAt program pairs first chain

turned_way : (program : ProgramTree) (pairs : List Pair) (first : Pair) → Way program pairs first first
    → Turned program pairs first
turned_way program pairs first way = record {
  chain = first ∷ way.others;
  closes = record { others = way.others; starts = refl; among = way.among; closes = way.closes };
}

turned_list : (program : ProgramTree) (pairs chain : List Pair) → AreAmong pairs chain
    → ((from to : Pair) → Contains (steps_of chain) (from, to) → IsLinked program from to)
    → (from to : Pair) → Contains (steps_of chain) (from, to) → IsHeld from to → Turned program pairs to
turned_list program pairs [] among linked from to step held = absurd (omega (arith, step.1))
turned_list program pairs (first ∷ others) among linked from to step held =
    turned_way program pairs to
    (turned_from program pairs first first others (λ goal way. way) among linked from to step held)

pub turned : (program : ProgramTree) (pairs chain : List Pair) → IsCircular program pairs chain
    → (from to : Pair) → Contains (steps_of chain) (from, to) → IsHeld from to → Turned program pairs to
turned program pairs chain circular = turned_list program pairs chain circular.among circular.linked
