use Rattle.abs_program.proofs.PreludeTypeLemmas.{prelude_is_alone, true_means, false_means, unit_means}
use Rattle.abs_program.proofs.laws.prelude_types_are_alone.Goals as goal

pub returns : goal.returns
returns c = record {
  alone = prelude_is_alone;
  true_is = true_means;
  false_is = false_means;
  unit_is = unit_means;
}
