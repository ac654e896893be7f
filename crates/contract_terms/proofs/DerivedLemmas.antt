-- What rules ask for, over any rules and any predicate on facts.
--
--   `hold_map`                 facts that hold by one predicate hold by a weaker one
--   `derived_closed`           what is derived is closed
--   `derived_within`           what is derived is in each closed list
--   `handled_step`             one more fact is handled
--   `length_within`            a list without repeats is no longer than one that has its elements
--   `none_closed`              where more than so many facts are derived, no list of so many is closed
use Rattle.std.proofs.Common.{◌≡◌, ◌⊎◌, inl, inr, ⊎_elim, ℕ, suc, ◌≤◌, List, [], ◌∷◌, ◌++◌, length, Contains, All, refl, ap, subst, arith, ◌∙◌}
use Rattle.std.specs.Prelude.{get_or}
use Rattle.std.proofs.lemmas.List.{length-append}
use Rattle.std.proofs.lemmas.List.Elements.{All-head, All-tail, Contains-append_left, Contains-append_right, Contains-append_cases, Contains-push_cases}
use Rattle.list_facts.proofs.AllLemmas.{Contains-head_or_tail}
use Rattle.contract_terms.specs.Derived.{AllHold, AreDistinct, IsClosed, IsDerived, MoreThan, IsHandled}

-- facts that hold by one predicate hold by a weaker one
pub hold_map : {Fact : Type 0} (Holds Weaker : Fact → Type 0) → ((fact : Fact) → Holds fact → Weaker fact)
    → (facts : List Fact) → AllHold Holds facts → AllHold Weaker facts
hold_map Holds Weaker weaken [] hold = hold
hold_map Holds Weaker weaken (fact ∷ others) hold =
    (weaken fact hold.0, hold_map Holds Weaker weaken others hold.1)

-- facts that are all in a longer list hold there, if they all are among the facts of a shorter one or the last fact
data Split {Fact : Type 0} (done : List Fact) (last : Fact) (facts : List Fact) : Type 0 where
  earlier : AllHold (Contains done) facts → Split done last facts
  with_last : (before after : List Fact) → facts ≡ before ++ last ∷ after → Split done last facts

-- some facts of a list with one more fact all come before that, or it is one of them
split : {Fact : Type 0} (done : List Fact) (last : Fact) (facts : List Fact)
    → AllHold (Contains (done ++ last ∷ [])) facts → Split done last facts
split done last [] hold = earlier hold
split done last (fact ∷ others) hold =
    go (Contains-push_cases done last fact hold.0) (split done last others hold.1)
  where
    go : Contains done fact ⊎ (last ≡ fact) → Split done last others → Split done last (fact ∷ others)
    go (inl there) (earlier held) = earlier (there, held)
    go (inl there) (with_last before after is) = with_last (fact ∷ before) after (ap (λ list. fact ∷ list) is)
    go (inr same) others_split = with_last [] others (subst (λ one. one ∷ others ≡ last ∷ others) same refl)

module _ {Fact : Type 0} (Asks : List Fact → Fact → Type 0) where
  -- what is derived is closed
  pub derived_closed : IsClosed Asks (IsDerived Asks)
  derived_closed premises fact asks hold facts closed =
      closed premises fact asks
      (hold_map (IsDerived Asks) (Contains facts) (λ premise derived. derived facts closed) premises hold)

  -- If what rests on some facts is among others, and what rests on them and on one fact more is, then what rests on all
  -- of these is.
  pub handled_step : (done : List Fact) (last : Fact) (facts more : List Fact) → IsHandled Asks done facts
      → ((fact : Fact) → Contains facts fact → Contains more fact)
      → ((before after : List Fact) (fact : Fact) → Asks (before ++ last ∷ after) fact
      → AllHold (Contains (done ++ last ∷ [])) (before ++ last ∷ after) → Contains more fact)
      → IsHandled Asks (done ++ last ∷ []) more
  handled_step done last facts more old grows new premises fact asks hold = go (split done last premises hold)
    where
      go : Split done last premises → Contains more fact
      go (earlier held) = grows fact (old premises fact asks held)
      go (with_last before after is) =
          new before after fact (subst (λ list. Asks list fact) is asks)
          (subst (AllHold (Contains (done ++ last ∷ []))) is hold)

-- an element with those before it and those after it
record Placed {A : Type 0} (list : List A) (one : A) : Type 0 where
  before : List A
  after : List A
  is : list ≡ before ++ one ∷ after

placed : {A : Type 0} (list : List A) (one : A) → Contains list one → Placed list one
placed [] one there = absurd (omega (arith, there.1))
placed (first ∷ others) one there =
    ⊎_elim (λ same. record { before = []; after = others; is = ap (λ here. here ∷ others) same })
    (λ later. let rest = placed others one later in
    record { before = first ∷ rest.before; after = rest.after; is = ap (λ list. first ∷ list) rest.is })
    (Contains-head_or_tail first others one there)

-- the others of a list without repeats have none
later_distinct : {A : Type 0} (first : A) (others : List A) → AreDistinct (first ∷ others) → AreDistinct others
later_distinct first others distinct i j default before within =
    distinct (suc i) (suc j) default (omega (arith, before)) (omega (arith, within))

-- what is in a list and is not one of its elements is among those before and after that
other_place : {A : Type 0} (list : List A) (one other : A) (here : Placed list one) → Contains list other
    → (one ≡ other → ⊥) → Contains (here.before ++ here.after) other
other_place list one other here there differ =
    ⊎_elim (λ earlier. Contains-append_left here.before here.after other earlier)
    (λ rest. Contains-append_right here.before here.after other
    (⊎_elim (λ same. absurd (differ same)) (λ later. later) (Contains-head_or_tail one here.after other rest)))
    (Contains-append_cases here.before (one ∷ here.after) other
    (subst (λ all. Contains all other) here.is there))

-- a list without repeats is no longer than one that has its elements
pub length_within : {A : Type 0} (list other : List A) → AreDistinct list → All (Contains other) list
    → length list ≤ length other
length_within [] other distinct within = omega arith
length_within (first ∷ others) other distinct within =
    let here = placed other first (All-head (Contains other) first others within) in
    let rest = here.before ++ here.after in
    let later = All-tail (Contains other) first others within in
    let shorter = length_within others rest (later_distinct first others distinct)
    (λ k default below. other_place other first (get_or others k default) here (later k default below)
    (distinct 0 (suc k) default (omega arith) (omega (arith, below)))) in
    let long = ap length here.is ∙ length-append here.before (first ∷ here.after) in
    let short = length-append here.before here.after in
    omega (arith, shorter, long, short)

module _ {Fact : Type 0} (Asks : List Fact → Fact → Type 0) where
  -- where more than so many facts are derived, no list of so many is closed
  pub none_closed : (count : ℕ) → MoreThan Asks count → (facts : List Fact) → IsClosed Asks (Contains facts)
      → length facts ≤ count → ⊥
  none_closed count more facts closed few =
      let within = length_within more.facts facts more.distinct
      (λ k default below. more.derived k default below facts closed) in
      let long = more.more in
      omega (arith, within, long, few)
