-- What computing gives for the examples on control: points, what is left, facts. The flow of the examples is one.
use Rattle.std.proofs.Common.{◌≡◌, ℕ, zero, suc, arith, None, Some, [], ◌∷◌, refl}
use Rattle.std.specs.Prelude.{slice_get}
use Rattle.abs_program.specs.Control.{Next, points, entry}
use Rattle.abs_program.specs.Flows.{Slots, IsFlow, facts, fact_after_one, LandsAt}
use Rattle.abs_program.specs.Left.{lefts, first_left, opened}
use Rattle.abs_tests.specs.ControlExamples.{all_slots, keeps_all, last_skip, skip_to, two_skips}

-- the flow says nothing where it could say too much
pub keeps_all_may : IsFlow keeps_all
keeps_all_may = record {
  first_branch = λ fact first second slot among. absurd cc;
  second_branch = λ fact first second slot among. absurd cc;
  enters_loop = λ fact body slot among. absurd cc;
  goes_back = λ fact body slot among. absurd cc;
  leaves_block = λ fact block slot among. absurd cc;
}

-- the first of two skips that begin with index 1 goes to the one with index 2
pub first_point : slice_get (points 1 two_skips None) 0 ≡ Some (skip_to 1 (Next (Some 2)))
unfolding points entry
first_point = refl

-- all of them is left at the first, and then the last
pub left_at_first : slice_get (lefts two_skips []) 0 ≡ Some (two_skips ∷ [])
unfolding lefts
left_at_first = refl

pub left_after_first : first_left (last_skip ∷ []) ≡ last_skip ∷ []
unfolding first_left opened
left_after_first = refl

-- before each of them all is said
pub all_is_said : facts keeps_all all_slots two_skips ≡ all_slots ∷ all_slots ∷ []
unfolding facts fact_after_one
all_is_said = refl

-- of two statements there is none with index 2, if the first has index 0
pub none_from_zero : LandsAt 0 (all_slots ∷ all_slots ∷ []) 2 all_slots → ⊥
none_from_zero lands = none_there lands.offset lands.said (omega (arith, lands.is)) lands.there
  where
    none_there : (offset : ℕ) (said : Slots) → 2 ≡ offset → slice_get (all_slots ∷ all_slots ∷ []) offset ≡ Some said → ⊥
    none_there zero said is there = absurd cc
    none_there (suc zero) said is there = absurd cc
    none_there (suc (suc offset)) said is there = absurd cc
