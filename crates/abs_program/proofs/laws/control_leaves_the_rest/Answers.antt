use Rattle.std.proofs.Common.{None, [], sym, ◌∙◌}
use Rattle.abs_program.proofs.LeftLemmas.{left_steps, left_starts, length-lefts}
use Rattle.abs_program.proofs.PointLemmas.{length-points}
use Rattle.abs_program.proofs.laws.control_leaves_the_rest.Goals as goal

pub returns : goal.returns
returns c = record {
  steps = left_steps;
  starts = left_starts;
  count = λ start body. length-lefts body [] ∙ sym (length-points start body None);
}
