-- The first task of a list that rises, and the first above a number.
--
--   `first_of-is`              the first task
--   `first_above-is`           the first task above a number
use Rattle.std.proofs.Common.{◌≡◌, ℕ, ◌<◌, ◌≤◌, true, false, cond, ltb, Option, Some, None, List, [], ◌∷◌, refl, inl, inr, arith}
use Rattle.std.specs.Prelude.{IfSome, IfNone}
use Rattle.std.proofs.lemmas.Bool.{eq-eqb, eqb-true, or_cases, or_left, or_right, both_ways, ltb-true, ltb-false}
use Rattle.future_cells.specs.TaskSets.{has, Rises, IsFirstAfter}
use Rattle.future_cells.specs.TaskLists.{first_of, first_above}
use Rattle.future_cells.proofs.RisingLemmas.{Each-all}

-- The first task is in the list, and is the least; where there is none, the list is empty.
pub record IsFirst (tasks : List ℕ) (found : Option ℕ) : Type 0 where
  pub is_in : IfSome found (λ task. has tasks task ≡ true)
  pub least : IfSome found (λ task. (other : ℕ) → has tasks other ≡ true → task ≤ other)
  pub none : IfNone found (tasks ≡ [])

-- a task that is not below the first of a list that rises
no_less : (first : ℕ) (others : List ℕ) → Rises (first ∷ others) → (other : ℕ) → has (first ∷ others) other ≡ true → first ≤ other
no_less first others rises other is_in =
    elim (or_cases _ _ is_in) [
      | inl same ↦ let is : first ≡ other = eqb-true first other same in omega arith
      | inr later ↦ let over : first < other = Each-all (λ one. first < one) others rises.0 other later in omega arith
    ]

-- the first task of a list that rises
pub first_of-is : (tasks : List ℕ) → Rises tasks → IsFirst tasks (first_of None tasks)
first_of-is [] rises = record { is_in = tt; least = tt; none = refl }
first_of-is (first ∷ others) rises = record {
  is_in = or_left _ _ (eq-eqb first first refl);
  least = no_less first others rises;
  none = tt;
}

-- The first task above a number; where there is none, no task is above it.
pub record IsFirstAbove (tasks : List ℕ) (from : ℕ) (found : Option ℕ) : Type 0 where
  pub some : IfSome found (λ task. IsFirstAfter tasks from task)
  pub none : IfNone found ((other : ℕ) → has tasks other ≡ true → other ≤ from)

-- a first task that is not above a number changes nothing
passed : (from first : ℕ) (others : List ℕ) (found : Option ℕ) → first ≤ from → IsFirstAbove others from found
    → IsFirstAbove (first ∷ others) from found
passed from first others None past is = record {
  some = tt;
  none = λ other is_in. elim (or_cases _ _ is_in) [
    | inl same ↦ let reached : first ≡ other = eqb-true first other same in omega arith
    | inr later ↦ is.none other later
  ];
}
passed from first others (Some task) past is = record {
  some = record {
    is_in = or_right _ _ is.some.is_in;
    above = is.some.above;
    least = λ other is_in over. elim (or_cases _ _ is_in) [
      | inl same ↦ let reached : first ≡ other = eqb-true first other same in omega arith
      | inr later ↦ is.some.least other later over
    ];
  };
  none = tt;
}

-- the first task of a list that rises above a number
pub first_above-is : (from : ℕ) (tasks : List ℕ) → Rises tasks → IsFirstAbove tasks from (first_above from None tasks)
first_above-is from [] rises = record { some = tt; none = λ other is_in. absurd (both_ways false refl is_in) }
first_above-is from (first ∷ others) rises =
    elim (ltb from first) as (λ test. ltb from first ≡ test
    → IsFirstAbove (first ∷ others) from (cond test (Some first) (first_above from None others))) [
      | true ↦ λ is. record {
        some = record {
          is_in = or_left _ _ (eq-eqb first first refl);
          above = ltb-true from first is;
          least = λ other is_in over. no_less first others rises other is_in;
        };
        none = tt;
      }
      | false ↦ λ is. passed from first others _ (ltb-false from first is) (first_above-is from others rises.1)
    ] refl
