use Rattle.std.proofs.Common.{ap, sym, Some, ◌∙◌}
use Rattle.std.proofs.lemmas.Option.{same_Some}
use Rattle.saturation.proofs.StepLemmas.{adds_by}
use Rattle.saturation.proofs.rules.Rules.pass_to_body.Goals as goal

pub returns-then-lets_in_param : goal.returns-then-lets_in_param
returns-then-lets_in_param c = adds_by c.hold_param.ensures (λ known fact given. ap Some (sym given.1))
    (λ known fact just. (sym c.lets_in_param.ensures ∙ c.if-lets_in_param.true, sym (same_Some _ _ just)))
