-- A field with a sum as its index holds an atom.
use Rattle.saturation.proofs.StepLemmas.{adds_any}
use Rattle.saturation.proofs.rules.Rules.fill_sum.Goals as goal

pub returns-in-None : goal.returns-in-None
returns-in-None c = adds_any c.fail.ensures.adds c.fail.ensures.ended
