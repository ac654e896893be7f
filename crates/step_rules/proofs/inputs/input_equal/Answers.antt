use Rattle.std.proofs.Common.{[], sym, ap, ◌∙◌}
use Rattle.std.proofs.lemmas.Bool.{false≢true}
use Rattle.step_rules.specs.Inputs.{Input}
use Rattle.step_rules.proofs.inputs.input_equal.Goals as goal

pub returns-then-not-env_equal : goal.returns-then-not-env_equal
returns-then-not-env_equal c = (
  λ reported. absurd (false≢true reported),
  λ same. sym c.if-not-env_equal.true ∙ c.env_equal.ensures.1 (ap (λ (input : Input). input.scope) (same [])),
)
