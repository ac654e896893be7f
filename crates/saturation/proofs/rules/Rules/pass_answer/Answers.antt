use Rattle.std.proofs.Common.{refl}
use Rattle.saturation.proofs.HandlingLemmas.{passes_answer, passes_no_answer}
use Rattle.saturation.proofs.rules.Rules.pass_answer.Goals as goal

pub returns-in-Method : goal.returns-in-Method
returns-in-Method c = passes_answer c.in-Method.is c.pass_in_object.ensures

pub returns-in-Main : goal.returns-in-Main
returns-in-Main c = passes_no_answer c.in-Main.is refl
