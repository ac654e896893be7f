use Rattle.std.proofs.Common.{Some, [], ◌∷◌, List, refl, ◌∙◌, subst, ap, arith}
use Rattle.std.specs.Prelude.{slice_get}
use Rattle.abs_program.specs.Control.{Next}
use Rattle.abs_program.specs.Flows.{Slots, Follows}
use Rattle.abs_program.specs.Left.{IsAt, lefts}
use Rattle.abs_program.specs.ProgramBodies.{OfMethod}
use Rattle.abs_tree.specs.Syntax.{Statements}
use Rattle.abs_tests.specs.ControlExamples.{all_slots, keeps_all, last_skip, later_body, program, skip, skip_to, two_skips}
use Rattle.abs_tests.proofs.ControlLemmas.{keeps_all_may, first_point, left_at_first, left_after_first, all_is_said, none_from_zero}
use Rattle.abs_tests.proofs.control.later_bodies_have_control.Goals as goal

pub returns : goal.returns
returns c =
    let here = skip_to 1 (Next (Some 2)) in
    let point = c.bodies_are_in_programs.ensures program later_body 0 (OfMethod 0 1 refl) (omega arith) in
    let steps = c.control_leaves_the_rest.ensures.steps 1 two_skips 0 here (two_skips ∷ []) first_point
    left_at_first in
    let follows = c.facts_follow_control.ensures.follow keeps_all keeps_all_may 1 two_skips all_slots 0 here all_slots
    first_point (ap (λ (all : List Slots). slice_get all 0) all_is_said) in
    record {
      found = refl;
      point = point;
      goes = point ∙ first_point;
      left = subst (IsAt 1 (lefts two_skips []) (Some 2)) left_after_first steps.1;
      lands = subst (λ (all : List Slots). Follows keeps_all 1 all all_slots (skip 1) (Next (Some 2))) all_is_said
          follows;
      from_zero = none_from_zero;
    }
