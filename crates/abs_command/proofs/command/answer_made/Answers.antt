use Rattle.std.proofs.Common.{◌∙◌, List, sym, subst, ℕ}
use Rattle.std.proofs.lemmas.Result.{IfOk-weaker, on_err_weaker}
use Rattle.abs_options.specs.Generated.{made_text}
use Rattle.abs_command.specs.Promises.{BytesIn}
use Rattle.abs_command.specs.Promises.Answer.{exhausted}
use Rattle.abs_command.specs.Promises.WrittenBefore.{nothing}
use Rattle.abs_command.proofs.PromiseLemmas.{promised}
use Rattle.abs_command.proofs.TakingLemmas.{text_made}
use Rattle.abs_command.proofs.command.answer_made.Goals as goal
use Rattle.list_facts.proofs.ResultLemmas.{OnErr-always}
use Rattle.list_facts.proofs.StreamLemmas.{Appends-nothing}

pub returns-clause-promises : goal.returns-clause-promises
returns-clause-promises g c = IfOk-weaker c.answer.result _ _ (λ ended answer words source asks is.
    promised words c.as_bytes.result.now source source _ _ ended
    (subst (λ (bytes : List ℕ). BytesIn words source source bytes ended.status)
    (sym (c.as_bytes.ensures ∙ c.in_ok-text.ensures))
    (text_made words source c.args.count ended.status (record { of_command = asks.of_command; is = is })))
    (answer words source source asks)) c.answer.ensures.answered

pub returns-clause-exhausted : goal.returns-clause-exhausted
returns-clause-exhausted g c = on_err_weaker c.answer.result (λ written words source asks is ended memory.
    promised words c.as_bytes.result.now source source _ _ ended
    (subst (λ (bytes : List ℕ). BytesIn words source source bytes ended.status)
    (sym (c.as_bytes.ensures ∙ c.in_ok-text.ensures))
    (text_made words source c.args.count ended.status (record { of_command = asks.of_command; is = is })))
    (exhausted memory (written words asks))) c.answer.ensures.exhausted

pub returns-in_err-text-clause-exhausted : goal.returns-in_err-text-clause-exhausted
returns-in_err-text-clause-exhausted g c = OnErr-always c.from_residual.result
    (λ words source asks is ended memory. promised words (made_text c.args.count) source source _ _ ended
    (text_made words source c.args.count ended.status (record { of_command = asks.of_command; is = is }))
    (exhausted memory (nothing (Appends-nothing _))))
