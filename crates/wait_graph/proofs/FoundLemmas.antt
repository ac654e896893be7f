-- The round to which the steps of a function lead.
--
--   `StepsTo`                      a function leads to a number in one step
--   `LeastRound`                   a round to which steps lead, and which begins with its least number
--   `comes_round`                  from a number on which steps go on without end there is one
--   `one_round`                    and there is no other one
use Rattle.std.proofs.Common.{◌≡◌, ◌≤◌, ◌<◌, ◌+◌, ◌-◌, ℕ, zero, suc, Bool, true, false, nat_eq, ◌||◌, List, [], ◌∷◌, ◌++◌, length, Option, Some, None, refl, sym, ap, ◌∙◌, subst, arith, ⊎_elim}
use Rattle.std.specs.Prelude.{All, option_and_then}
use Rattle.std.specs.List.{AllByRecursion, IsDistinct, list_any}
use Rattle.std.specs.Cmp.{nat_eq_equiv}
use Rattle.std.proofs.lemmas.Bool.Decides.{nat_tests}
use Rattle.std.proofs.lemmas.List.{append_assoc, append-nil, length_push}
use Rattle.std.proofs.lemmas.List.Elements.{All-nil, All-cons, All-append, All-head, All-tail}
use Rattle.std.proofs.lemmas.List.Folds.{list_any-append}
use Rattle.std.proofs.lemmas.Map.Keys.{IsDistinct-push, IsDistinct-tail}
use Rattle.std.proofs.lemmas.Map.Steps.{length-le_from_distinct_below}
use Rattle.std.proofs.lemmas.Option.{none-some, same_Some}
use Rattle.wait_graph.proofs.RoundLemmas.{le_or_lt, least_of, leads_push, leads_split, turned}
use Rattle.wait_graph.specs.FirstWaits.{in_steps}
use Rattle.wait_graph.specs.Waits.{LeadsRound, GoesRound}

-- The function leads from the first number to the second one in a step.
abbrev pub StepsTo : (ℕ → Option ℕ) → ℕ → ℕ → Type 0
StepsTo next one other = next one ≡ Some other

-- A round to which steps lead from a number.
record Round (next : ℕ → Option ℕ) (start : ℕ) : Type 0 where
  first : ℕ
  others : List ℕ
  round : GoesRound (StepsTo next) (first ∷ others)
  steps : ℕ
  reached : in_steps next steps start ≡ Some first

-- One that begins with its least number.
pub record LeastRound (next : ℕ → Option ℕ) (start : ℕ) : Type 0 where
  pub first : ℕ
  pub others : List ℕ
  pub round : GoesRound (StepsTo next) (first ∷ others)
  pub least : All (λ other. first ≤ other) (first ∷ others)
  pub steps : ℕ
  pub reached : in_steps next steps start ≡ Some first

-- what is so of each number of two lists is so of each where they change places
all_turned : (P : ℕ → Type 0) (front back : List ℕ) → All P (front ++ back) → All P (back ++ front)
all_turned P [] back all = subst (All P) (sym (append-nil back)) all
all_turned P (first ∷ front) back all =
    let pushed : All P (front ++ (back ++ first ∷ [])) =
    subst (All P) (append_assoc front back (first ∷ []))
    (All-append P (front ++ back) (first ∷ []) (All-tail P first (front ++ back) all)
    (All-cons P first [] (All-head P first (front ++ back) all) (All-nil P))) in
    subst (All P) (append_assoc back (first ∷ []) front) (all_turned P front (back ++ first ∷ []) pushed)

module _ (next : ℕ → Option ℕ) where
  -- one step, and the rest of them
  step_on : (steps one other : ℕ) → next one ≡ Some other
      → in_steps next (suc steps) one ≡ in_steps next steps other
  step_on steps one other is = ap (option_and_then (in_steps next steps)) is

  -- further steps
  steps_on : (steps more one other : ℕ) → in_steps next steps one ≡ Some other
      → in_steps next (steps + more) one ≡ in_steps next more other
  steps_on zero more one other is =
      let same : 0 + more ≡ more = omega arith in
      ap (λ steps. in_steps next steps one) same ∙ ap (in_steps next more) (same_Some one other is)
  steps_on (suc steps) more one other is = by (next one) refl (steps_on steps more)
    where
      by : (found : Option ℕ) → next one ≡ found
          → ((some last : ℕ) → in_steps next steps some ≡ Some last
          → in_steps next (steps + more) some ≡ in_steps next more last)
          → in_steps next (suc steps + more) one ≡ in_steps next more other
      by None found on = absurd (none-some other (sym (ap (option_and_then (in_steps next steps)) found) ∙ is))
      by (Some middle) found on =
          let same : suc steps + more ≡ suc (steps + more) = omega arith in
          ap (λ all. in_steps next all one) same ∙ step_on (steps + more) one middle found ∙ on middle other (sym (step_on steps one middle found) ∙ is)

  -- a path is as many steps
  leads_steps : (goal one : ℕ) (others : List ℕ) → LeadsRound (StepsTo next) goal one others
      → in_steps next (suc (length others)) one ≡ Some goal
  leads_steps goal one [] leads = step_on 0 one goal leads
  leads_steps goal one (second ∷ others) leads =
      step_on (suc (length others)) one second leads.0 ∙ leads_steps goal second others leads.1

  -- the part of a path from one of its numbers on, to which its last step leads, is a round
  cut : (goal one : ℕ) (others : List ℕ) (here : Bool) → nat_eq goal one ≡ here
      → (here || list_any (nat_eq goal) others) ≡ true → IsDistinct nat_eq (one ∷ others)
      → LeadsRound (StepsTo next) goal one others → Round next one
  cut goal one others true is some distinct leads =
      let same : goal ≡ one = grind (arith, nat_tests) in
      record {
        first = one;
        others = others;
        round = (distinct, subst (λ number. LeadsRound (StepsTo next) number one others) same leads);
        steps = 0;
        reached = refl;
      }
  cut goal one [] false is some distinct leads = absurd cc
  cut goal one (second ∷ others) false is some distinct leads =
      let rest = cut goal second others (nat_eq goal second) refl some
      (IsDistinct-tail nat_eq one (second ∷ others) distinct) leads.1 in
      record {
        first = rest.first;
        others = rest.others;
        round = rest.round;
        steps = suc rest.steps;
        reached = step_on rest.steps one second leads.0 ∙ rest.reached;
      }

  -- a number of a list with one more is one of the list, or the one more
  within_push : (one other bound : ℕ) (numbers : List ℕ) → one < bound
      → ((number : ℕ) → list_any (nat_eq number) numbers ≡ true → number < bound)
      → (here : Bool) → list_any (nat_eq other) numbers ≡ here
      → (here || list_any (nat_eq other) (one ∷ [])) ≡ true → other < bound
  within_push one other bound numbers less below true is some = below other is
  within_push one other bound numbers less below false is some = by (nat_eq other one) refl some
    where
      by : (here : Bool) → nat_eq other one ≡ here → (false || (here || false)) ≡ true → other < bound
      by true same is_some =
          let equal : other ≡ one = grind (arith, nat_tests) in
          subst (λ number. number < bound) (sym equal) less
      by false same is_some = absurd cc

  module _ (Open : ℕ → Type 0) (bound : ℕ) (few : (one : ℕ) → Open one → one < bound)
      (go_on : (one : ℕ) → Open one → (other : ℕ) × (next one ≡ Some other) × Open other) where
    follow : (fuel goal one : ℕ) (others : List ℕ) → Open goal → LeadsRound (StepsTo next) goal one others
        → IsDistinct nat_eq (one ∷ others)
        → ((number : ℕ) → list_any (nat_eq number) (one ∷ others) ≡ true → number < bound)
        → bound < fuel + length (one ∷ others) → (here : Bool) → list_any (nat_eq goal) (one ∷ others) ≡ here
        → Round next one
    follow fuel goal one others going leads distinct below enough true is =
        cut goal one others (nat_eq goal one) refl is distinct leads
    follow zero goal one others going leads distinct below enough false is =
        absurd (omega (arith, enough, length-le_from_distinct_below (one ∷ others) bound distinct below))
    follow (suc fuel) goal one others going leads distinct below enough false is =
        let more = go_on goal going in
        follow fuel more.0 one (others ++ goal ∷ []) more.2
        (leads_push (StepsTo next) goal more.0 one others leads more.1)
        (IsDistinct-push nat_eq_equiv (one ∷ others) goal distinct is)
        (λ number some. within_push goal number bound (one ∷ others) (few goal going) below
        (list_any (nat_eq number) (one ∷ others)) refl
        (sym (list_any-append (nat_eq number) (one ∷ others) (goal ∷ [])) ∙ some))
        (omega (arith, enough, length_push others goal))
        (list_any (nat_eq more.0) (one ∷ (others ++ goal ∷ []))) refl

    -- steps that go on without end among so many numbers come round
    round_from : (one : ℕ) → Open one → Round next one
    unfolding IsDistinct
    round_from one going =
        let more = go_on one going in
        follow (suc bound) more.0 one [] more.2 more.1 (tt, tt)
        (λ number some. within_push one number bound [] (few one going) (λ other none. absurd cc) false refl some)
        (omega arith) (list_any (nat_eq more.0) (one ∷ [])) refl

  -- steps lead on within a round
  reached_at : (first : ℕ) (others front : List ℕ) (middle : ℕ) (back : List ℕ)
      → first ∷ others ≡ front ++ middle ∷ back → GoesRound (StepsTo next) (front ++ middle ∷ back)
      → (steps : ℕ) × (in_steps next steps first ≡ Some middle)
  reached_at first others [] middle back parts round = let same : first ≡ middle = cc in (0, ap Some same)
  reached_at first others (one ∷ front) middle back parts round =
      let same : first ≡ one = cc in (
        suc (length front),
        subst (λ number. in_steps next (suc (length front)) number ≡ Some middle) (sym same)
            (leads_steps middle one front (leads_split (StepsTo next) one middle one front back round.1).0),
      )

  -- a round may begin with its least number
  least_round : (start : ℕ) → Round next start → LeastRound next start
  least_round start found =
      let least = least_of found.first found.others in
      let round : GoesRound (StepsTo next) (least.front ++ least.number ∷ least.back) =
      subst (GoesRound (StepsTo next)) least.parts found.round in
      let on = reached_at found.first found.others least.front least.number least.back least.parts round in
      record {
        first = least.number;
        others = least.back ++ least.front;
        round = turned (StepsTo next) least.front least.number least.back round;
        least = all_turned (λ other. least.number ≤ other) least.front (least.number ∷ least.back)
            (subst (All (λ other. least.number ≤ other)) least.parts least.least);
        steps = found.steps + on.0;
        reached = steps_on found.steps on.0 start found.first found.reached ∙ on.1;
      }

  pub comes_round : (Open : ℕ → Type 0) (bound : ℕ) → ((one : ℕ) → Open one → one < bound)
      → ((one : ℕ) → Open one → (other : ℕ) × (next one ≡ Some other) × Open other)
      → (one : ℕ) → Open one → LeastRound next one
  comes_round Open bound few go_on one going = least_round one (round_from Open bound few go_on one going)

  -- what is so of each number of a round is so wherever steps lead from there
  walk_all : (P : ℕ → Type 0) (first : ℕ) (rest : List ℕ) → LeadsRound (StepsTo next) first first rest
      → All P (first ∷ rest) → (steps one : ℕ) (others : List ℕ) (goal : ℕ)
      → LeadsRound (StepsTo next) first one others → All P (one ∷ others) → in_steps next steps one ≡ Some goal
      → P goal
  walk_all P first rest round whole zero one others goal leads all is =
      subst P (same_Some one goal is) (All-head P one others all)
  walk_all P first rest round whole (suc steps) one [] goal leads all is =
      walk_all P first rest round whole steps first rest goal round whole (sym (step_on steps one first leads) ∙ is)
  walk_all P first rest round whole (suc steps) one (second ∷ others) goal leads all is =
      walk_all P first rest round whole steps second others goal leads.1 (All-tail P one (second ∷ others) all)
      (sym (step_on steps one second leads.0) ∙ is)

  -- from each number of a round steps lead to its first one
  reach_all : (first one : ℕ) (others : List ℕ) → LeadsRound (StepsTo next) first one others
      → All (λ number. (steps : ℕ) × (in_steps next steps number ≡ Some first)) (one ∷ others)
  reach_all first one [] leads =
      All-cons (λ number. (steps : ℕ) × (in_steps next steps number ≡ Some first)) one []
      (1, leads_steps first one [] leads)
      (All-nil (λ number. (steps : ℕ) × (in_steps next steps number ≡ Some first)))
  reach_all first one (second ∷ others) leads =
      All-cons (λ number. (steps : ℕ) × (in_steps next steps number ≡ Some first)) one (second ∷ others)
      (suc (length (second ∷ others)), leads_steps first one (second ∷ others) leads)
      (reach_all first second others leads.1)

  -- two paths from a number to another one, which is not on them, are the same
  same_path : (first one : ℕ) (some more : List ℕ) → LeadsRound (StepsTo next) first one some
      → LeadsRound (StepsTo next) first one more → AllByRecursion (λ other. nat_eq first other ≡ false) some
      → AllByRecursion (λ other. nat_eq first other ≡ false) more → some ≡ more
  same_path first one [] [] leads other absent free = refl
  same_path first one [] (second ∷ more) leads other absent free =
      let same : first ≡ second = same_Some first second (sym leads ∙ other.0) in
      let differs = free.0 in absurd (grind (arith, nat_tests))
  same_path first one (second ∷ some) [] leads other absent free =
      let same : first ≡ second = same_Some first second (sym other ∙ leads.0) in
      let differs = absent.0 in absurd (grind (arith, nat_tests))
  same_path first one (second ∷ some) (third ∷ more) leads other absent free =
      let same : second ≡ third = same_Some second third (sym leads.0 ∙ other.0) in
      ap (λ numbers. second ∷ numbers)
      (same_path first second some more leads.1
      (subst (λ number. LeadsRound (StepsTo next) first number more) (sym same) other.1) absent.1 free.1)
      ∙ ap (λ number. number ∷ more) same

  -- of two rounds that begin with their least number, to one of which the steps come first, both begin with the same
  same_first : (start : ℕ) (one other : LeastRound next start) (more : ℕ) → other.steps ≡ one.steps + more
      → one.first ≡ other.first
  same_first start one other more is =
      let ahead : in_steps next more one.first ≡ Some other.first =
      sym (steps_on one.steps more start one.first one.reached)
      ∙ (ap (λ steps. in_steps next steps start) (sym is) ∙ other.reached) in
      let below = walk_all (λ number. one.first ≤ number) one.first one.others one.round.1 one.least more one.first
      one.others other.first one.round.1 one.least ahead in
      let reach = reach_all one.first one.first one.others one.round.1 in
      let back = walk_all (λ number. (steps : ℕ) × (in_steps next steps number ≡ Some one.first)) one.first one.others
      one.round.1 reach more one.first one.others other.first one.round.1 reach ahead in
      let above = walk_all (λ number. other.first ≤ number) other.first other.others other.round.1 other.least back.0
      other.first other.others one.first other.round.1 other.least back.1 in
      omega (arith, below, above)

  firsts_agree : (start : ℕ) (one other : LeastRound next start) → one.first ≡ other.first
  firsts_agree start one other = ⊎_elim
      (λ (le : one.steps ≤ other.steps). same_first start one other (other.steps - one.steps) (omega (arith, le)))
      (λ (lt : other.steps < one.steps).
      sym (same_first start other one (one.steps - other.steps) (omega (arith, lt))))
      (le_or_lt one.steps other.steps)

  pub one_round : (start : ℕ) (one other : LeastRound next start)
      → one.first ∷ one.others ≡ other.first ∷ other.others
  unfolding IsDistinct
  one_round start one other =
      let same = firsts_agree start one other in
      let turned_other : GoesRound (StepsTo next) (one.first ∷ other.others) =
      subst (λ number. GoesRound (StepsTo next) (number ∷ other.others)) (sym same) other.round in
      ap (λ numbers. one.first ∷ numbers)
      (same_path one.first one.first one.others other.others one.round.1 turned_other.1 one.round.0.0
      turned_other.0.0)
      ∙ ap (λ number. number ∷ other.others) same
