-- Numbers that no part of a link lets fall: no chain leads back to a pair whose target has a greater one than where it
-- waits, and a report needs only the pairs of which both are the same.
--
--   `chain_level`              along a closed chain all numbers are the same
--   `climbing_ends`            no chain leads back to a pair that climbs
--   `climbing_free`            no circular chain has a `get` that climbs
--   `report_kept`              a report of the level pairs is the report of all
--   `continued_rises`          what continues step by step does not fall
use mathlib.Core.Logic.{∥∥₁_elim}
use Rattle.std.proofs.Common.{◌≡◌, ◌∙◌, inr, ⊎_elim, ◌≤◌, ℕ, Bool, true, false, cond, filter, List, [], ◌∷◌, ◌++◌, Contains, refl, sym, subst, eq-eqb, arith}
use Rattle.std.proofs.Math.Bridge.{le_prop}
use Rattle.list_facts.proofs.AllLemmas.{Contains-head_or_tail}
use Rattle.abs_tree.specs.Syntax.{ProgramTree}
use Rattle.circularity_test.specs.Numbers.{Numbers, AreRising, AwaitsAs, RiseByCalls, entry_number, number_by, Climbs, is_level, IsLevel}
use Rattle.contract_terms.proofs.ChainLemmas.{contains_head, contains_tail, link_into_get, link_into_await, turned}
use Rattle.contract_terms.specs.Chains.{steps_from, steps_of, AreAmong, IsCircular, Closes, ClosesAt, IsLeast, Reports}
use Rattle.contract_terms.specs.Chains.Reports.{done, passed, free, listed}
use Rattle.contract_terms.specs.OwnCalls.{IsReached}
use Rattle.contract_terms.specs.OwnCalls.IsReached.{itself as no_call, further}
use Rattle.contract_terms.specs.PairLinks.{Continues, IsLinked, IsReachedByCalls}
use Rattle.contract_terms.specs.PairLinks.IsReachedByCalls.{itself, by_calls}
use Rattle.contract_terms.specs.declared.pair.Mode.{Mode}
use Rattle.contract_terms.specs.declared.pair.Mode.TheVariants.{Get, Await}
use Rattle.contract_terms.specs.declared.pair.Pair.{Pair}
use Rattle.name_bounding.specs.declared.kind.Kind.{Kind}
use Rattle.name_bounding.specs.declared.kind.Sign.{Sign}

-- the pair to which a chain leads back is a `get`
closed_chain_gets : (program : ProgramTree) (goal one : Pair) (others : List Pair)
    → Closes program goal one others → goal.mode ≡ Get
closed_chain_gets program goal one [] closes = closes.0
closed_chain_gets program goal one (next ∷ others) closes = closed_chain_gets program goal next others closes.1

-- A step of a chain leads into a pair.
record StepInto (steps : List (Pair × Pair)) (to : Pair) : Type 0 where
  from : Pair
  step : Contains steps (from, to)

-- a step more before those that lead there
step_later : (first : Pair × Pair) (steps : List (Pair × Pair)) (to : Pair) → StepInto steps to
    → StepInto (first ∷ steps) to
step_later first steps to into =
    record { from = into.from; step = contains_tail first steps (into.from, to) into.step }

-- the last step of a closed list leads to its first pair
last_step : (first one : Pair) (others : List Pair) → StepInto (steps_from first one others) first
last_step first one [] = record { from = one; step = contains_head (one, first) [] }
last_step first one (next ∷ others) =
    step_later (one, next) (steps_from first next others) first (last_step first next others)

-- a step leads to each of the other pairs
step_to : (first one : Pair) (others : List Pair) (to : Pair) → Contains others to
    → StepInto (steps_from first one others) to
step_to first one [] to none = absurd (omega (arith, none.1))
step_to first one (next ∷ others) to there = ⊎_elim
    (λ same. subst (StepInto (steps_from first one (next ∷ others))) same
    (record { from = one; step = contains_head (one, next) (steps_from first next others) }))
    (λ later. step_later (one, next) (steps_from first next others) to (step_to first next others to later))
    (Contains-head_or_tail next others to there)

-- a step of a closed list leads to each pair of it
chain_step : (chain : List Pair) (to : Pair) → Contains chain to → StepInto (steps_of chain) to
chain_step [] to none = absurd (omega (arith, none.1))
chain_step (first ∷ others) to there = ⊎_elim
    (λ same. subst (StepInto (steps_from first first others)) same (last_step first first others))
    (step_to first first others to)
    (Contains-head_or_tail first others to there)

-- a list keeps what passes a test
kept_by : {A : Type 0} (test : A → Bool) (passes_it : Bool) (first : A) (rest : List A) (one : A)
    → test first ≡ passes_it → test one ≡ true → Contains (first ∷ rest) one
    → (Contains rest one → Contains (filter test rest) one)
    → Contains (cond passes_it (first ∷ filter test rest) (filter test rest)) one
kept_by test true first rest one is passes there later = ⊎_elim
    (λ same. subst (Contains (first ∷ filter test rest)) same (contains_head first (filter test rest)))
    (λ inside. contains_tail first (filter test rest) one (later inside))
    (Contains-head_or_tail first rest one there)
kept_by test false first rest one is passes there later = ⊎_elim
    (λ same. absurd (cc))
    later
    (Contains-head_or_tail first rest one there)

kept_there : {A : Type 0} (test : A → Bool) (list : List A) (one : A) → test one ≡ true → Contains list one
    → Contains (filter test list) one
kept_there test [] one passes there = there
kept_there test (first ∷ rest) one passes there =
    kept_by test (test first) first rest one refl passes there (kept_there test rest one passes)

-- what a list keeps was there
among_by : {A : Type 0} (test : A → Bool) (passes_it : Bool) (first : A) (rest : List A) (one : A)
    → Contains (cond passes_it (first ∷ filter test rest) (filter test rest)) one
    → (Contains (filter test rest) one → Contains rest one) → Contains (first ∷ rest) one
among_by test true first rest one there earlier = ⊎_elim
    (λ same. subst (Contains (first ∷ rest)) same (contains_head first rest))
    (λ inside. contains_tail first rest one (earlier inside))
    (Contains-head_or_tail first (filter test rest) one there)
among_by test false first rest one there earlier = contains_tail first rest one (earlier there)

kept_among : {A : Type 0} (test : A → Bool) (list : List A) (one : A) → Contains (filter test list) one
    → Contains list one
kept_among test [] one there = there
kept_among test (first ∷ rest) one there =
    among_by test (test first) first rest one there (kept_among test rest one)

module _ (program : ProgramTree) (pairs : List Pair) (numbers : Numbers) (rising : AreRising program pairs numbers)
  where
    -- a link leads to a place that is no lower than the target
    link_rises_by : (mode : Mode) (one next : Pair) → next.mode ≡ mode → Contains pairs one → Contains pairs next
        → IsLinked program one next → numbers.target one.target ≤ number_by numbers mode next.source
    link_rises_by Get one next gets here there linked =
        subst (λ name. numbers.target one.target ≤ numbers.cog name)
        (sym (link_into_get program one next gets linked).1) (rising.needs one here)
    link_rises_by Await one next awaits here there linked =
        rising.continues one next here there awaits (link_into_await program one next awaits linked)

    link_rises : (one next : Pair) → Contains pairs one → Contains pairs next → IsLinked program one next
        → numbers.target one.target ≤ entry_number numbers next
    link_rises one next = link_rises_by next.mode one next refl

    -- where a pair waits is no higher than its target
    pair_rises_by : (mode : Mode) (pair : Pair) → pair.mode ≡ mode → Contains pairs pair
        → number_by numbers mode pair.source ≤ numbers.target pair.target
    pair_rises_by Get pair gets there = rising.gets pair there gets
    pair_rises_by Await pair awaits there = rising.awaits pair there awaits

    pair_rises : (pair : Pair) → Contains pairs pair → entry_number numbers pair ≤ numbers.target pair.target
    pair_rises pair = pair_rises_by pair.mode pair refl

    -- a chain that leads back to a pair starts no higher than where this pair waits
    way_back_falls : (goal one : Pair) (others : List Pair) → goal.mode ≡ Get → Contains pairs goal
        → AreAmong pairs (one ∷ others) → Closes program goal one others
        → numbers.target one.target ≤ entry_number numbers goal
    way_back_falls goal one [] gets there among closes =
        link_rises one goal (among one (contains_head one [])) there (inr closes)
    way_back_falls goal one (next ∷ others) gets there among closes =
        let rest : AreAmong pairs (next ∷ others) =
        λ pair inside. among pair (contains_tail one (next ∷ others) pair inside) in
        let then : Contains pairs next = rest next (contains_head next others) in
        omega (
          arith,
          link_rises one next (among one (contains_head one (next ∷ others))) then closes.0,
          pair_rises next then,
          way_back_falls goal next others gets there rest closes.1,
        )

    -- the pairs after one that is as high as the goal are as high, too
    others_level : (goal one : Pair) (others : List Pair) → goal.mode ≡ Get → Contains pairs goal
        → AreAmong pairs (one ∷ others) → Closes program goal one others
        → entry_number numbers goal ≤ numbers.target one.target
        → (pair : Pair) → Contains others pair → IsLevel numbers (entry_number numbers goal) pair
    others_level goal one [] gets there among closes high pair none = absurd (omega (arith, none.1))
    others_level goal one (next ∷ others) gets there among closes high pair inside =
        let rest : AreAmong pairs (next ∷ others) =
        λ it within. among it (contains_tail one (next ∷ others) it within) in
        let then : Contains pairs next = rest next (contains_head next others) in
        let into : numbers.target one.target ≤ entry_number numbers next =
        link_rises one next (among one (contains_head one (next ∷ others))) then closes.0 in
        let up : entry_number numbers next ≤ numbers.target next.target = pair_rises next then in
        let down : numbers.target next.target ≤ entry_number numbers goal =
        way_back_falls goal next others gets there rest closes.1 in
        ⊎_elim
        (λ same. subst (IsLevel numbers (entry_number numbers goal)) same
        (record { waits = omega arith; target = omega arith }))
        (λ later. others_level goal next others gets there rest closes.1 (omega arith) pair later)
        (Contains-head_or_tail next others pair inside)

    -- along a list that leads back to its first pair all numbers are the same
    list_level : (first : Pair) (others : List Pair) → AreAmong pairs (first ∷ others)
        → Closes program first first others → (pair : Pair) → Contains (first ∷ others) pair
        → IsLevel numbers (entry_number numbers first) pair
    list_level first others among closes pair inside =
        let gets = closed_chain_gets program first first others closes in
        let there : Contains pairs first = among first (contains_head first others) in
        let high : entry_number numbers first ≤ numbers.target first.target = pair_rises first there in
        let low : numbers.target first.target ≤ entry_number numbers first =
        way_back_falls first first others gets there among closes in
        ⊎_elim
        (λ same. subst (IsLevel numbers (entry_number numbers first)) same
        (record { waits = refl; target = omega arith }))
        (others_level first first others gets there among closes high pair)
        (Contains-head_or_tail first others pair inside)

    -- along a closed chain all numbers are the same
    pub chain_level : (first : Pair) (chain : List Pair) → ClosesAt program pairs first chain → (pair : Pair)
        → Contains chain pair → IsLevel numbers (entry_number numbers first) pair
    chain_level first chain closes pair inside =
        list_level first closes.others (subst (AreAmong pairs) closes.starts closes.among) closes.closes pair
        (subst (λ it. Contains it pair) closes.starts inside)

    -- the pair to which a closed chain leads back is level
    first_level : (first : Pair) (chain : List Pair) → ClosesAt program pairs first chain
        → IsLevel numbers (entry_number numbers first) first
    first_level first chain closes = chain_level first chain closes first
        (subst (λ it. Contains it first) (sym closes.starts) (contains_head first closes.others))

    -- no chain leads back to a pair that climbs
    pub climbing_ends : (first : Pair) → Climbs numbers first → (chain : List Pair)
        → ClosesAt program pairs first chain → ⊥
    climbing_ends first climbs chain closes =
        let level = first_level first chain closes in
        omega (arith, climbs, level.target)

    -- no circular chain has a `get` that climbs
    pub climbing_free : (get : Pair) → get.mode ≡ Get → Climbs numbers get → (chain : List Pair)
        → IsCircular program pairs chain → Contains chain get → ⊥
    climbing_free get gets climbs chain circular there =
        let into = chain_step chain get there in
        let held = link_into_get program into.from get gets (circular.linked into.from get into.step) in
        let back = turned program pairs chain circular into.from get into.step held in
        climbing_ends get climbs back.chain back.closes

    -- a level pair passes the test
    passes : (number : ℕ) (pair : Pair) → IsLevel numbers number pair → is_level numbers pair ≡ true
    unfolding is_level
    passes number pair level = eq-eqb (entry_number numbers pair) (numbers.target pair.target) (level.waits ∙ sym level.target)

    -- a closed chain is one of level pairs
    closes_kept : (first : Pair) (chain : List Pair) → ClosesAt program pairs first chain
        → ClosesAt program (filter (is_level numbers) pairs) first chain
    closes_kept first chain closes = record {
      others = closes.others;
      starts = closes.starts;
      among = λ pair inside. kept_there (is_level numbers) pairs pair
          (passes (entry_number numbers first) pair (chain_level first chain closes pair inside))
          (closes.among pair inside);
      closes = closes.closes;
    }

    -- a closed chain of level pairs is one of all
    closes_all : (first : Pair) (chain : List Pair) → ClosesAt program (filter (is_level numbers) pairs) first chain
        → ClosesAt program pairs first chain
    closes_all first chain closes = record {
      others = closes.others;
      starts = closes.starts;
      among = λ pair inside. kept_among (is_level numbers) pairs pair (closes.among pair inside);
      closes = closes.closes;
    }

    -- along a closed chain of level pairs all numbers are the same
    pub component_kept : (first : Pair) (chain : List Pair)
        → ClosesAt program (filter (is_level numbers) pairs) first chain → (pair : Pair) → Contains chain pair
        → entry_number numbers pair ≡ entry_number numbers first
    component_kept first chain closes pair inside =
        (chain_level first chain (closes_all first chain closes) pair inside).waits

    -- the first chain of level pairs that leads back is the first one of all
    least_all : (first : Pair) (chain : List Pair) → IsLeast program (filter (is_level numbers) pairs) first chain
        → IsLeast program pairs first chain
    least_all first chain least = record {
      closes = closes_all first chain least.closes;
      least = λ other closes. least.least other (closes_kept first other closes);
    }

    -- one pair more, which is level or not
    report_more : (level : Bool) (pair : Pair) (rest earlier : List Pair) (chains : List (List Pair))
        → is_level numbers pair ≡ level
        → ((those : List Pair) (listed_ones : List (List Pair))
        → Reports program (filter (is_level numbers) pairs) (filter (is_level numbers) rest) those listed_ones
        → Reports program pairs rest those listed_ones)
        → Reports program (filter (is_level numbers) pairs)
        (cond level (pair ∷ filter (is_level numbers) rest) (filter (is_level numbers) rest)) earlier chains
        → Reports program pairs (pair ∷ rest) earlier chains
    report_more false pair rest earlier chains is later report =
        free pair rest earlier chains
        (λ chain closes. absurd
        (let level : is_level numbers pair ≡ true =
        passes (entry_number numbers pair) pair (first_level pair chain closes) in cc))
        (later earlier chains report)
    report_more true pair rest earlier chains is later (passed _ _ _ _ there report) =
        passed pair rest earlier chains there (later earlier chains report)
    report_more true pair rest earlier chains is later (free _ _ _ _ none report) =
        free pair rest earlier chains (λ chain closes. none chain (closes_kept pair chain closes))
        (later earlier chains report)
    report_more true pair rest earlier chains is later (listed _ _ _ chain more new least report) =
        listed pair rest earlier chain more new (least_all pair chain least)
        (later (earlier ++ chain) more report)

    -- a report of the level ones of some pairs is that of these pairs
    pub report_kept : (left earlier : List Pair) (chains : List (List Pair))
        → Reports program (filter (is_level numbers) pairs) (filter (is_level numbers) left) earlier chains
        → Reports program pairs left earlier chains
    report_kept [] earlier chains (done _) = done earlier
    report_kept (pair ∷ rest) earlier chains report =
        report_more (is_level numbers pair) pair rest earlier chains refl (report_kept rest) report

module _ (program : ProgramTree) (pairs : List Pair) (numbers : Numbers) (method_number : Sign → ℕ → ℕ → ℕ)
    (rising : RiseByCalls program pairs numbers method_number)
  where
    -- calls on `this` lead to no lower method
    calls_rise : (sign : Sign) → AwaitsAs pairs sign → (class one other : ℕ)
        → IsReached program.source class one other
        → method_number sign class one ≤ method_number sign class other
    calls_rise sign awaits class one other (no_call _) = omega arith
    calls_rise sign awaits class one other (further _ between _ reached call) =
        omega (
          arith,
          calls_rise sign awaits class one between reached,
          rising.calls sign awaits class between other call,
        )

    -- from a target to the source of an `await` that it reaches
    reached_rises : (one next : Pair) (from to : Kind) → Contains pairs one → Contains pairs next
        → next.mode ≡ Await → one.target ≡ from → next.source ≡ to → IsReachedByCalls program from to
        → numbers.target one.target ≤ numbers.running next.source
    reached_rises one next from to here there awaits from_is to_is (itself kind) =
        rising.itself one next here there awaits (to_is ∙ sym from_is)
    reached_rises one next from to here there awaits from_is to_is (by_calls sign method other class member reached
        begins ends leads) =
        let at_sign : AwaitsAs pairs sign =
        record { pair = next; there = there; awaits = awaits; method = other; source = to_is } in
        ∥∥₁_elim leads le_prop (λ way.
        omega (
          arith,
          rising.begins sign at_sign one here method class member from_is begins,
          calls_rise sign at_sign class member reached way,
          rising.ends next there awaits sign other class reached to_is ends,
        ))

    -- what continues step by step does not fall
    pub continued_rises : (one next : Pair) → Contains pairs one → Contains pairs next → next.mode ≡ Await
        → Continues program one next → numbers.target one.target ≤ numbers.running next.source
    continued_rises one next here there awaits continues =
        reached_rises one next one.target next.source here there awaits refl refl continues
