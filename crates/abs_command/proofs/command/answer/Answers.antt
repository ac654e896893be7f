use Rattle.std.proofs.Common.{ap, subst, arith, []}
use Rattle.std.specs.Prelude.{Some}
use Rattle.abs_tree.specs.SourceErrors.{HasCause}
use Rattle.abs_tree.specs.declared.source_error.SourceError.{SourceError}
use Rattle.abs_command.specs.Ways.CameTo.{oversized}
use Rattle.abs_command.specs.Sources.{FirstOffence}
use Rattle.abs_command.proofs.AnswerLemmas.{delivered}
use Rattle.abs_command.proofs.command.answer.Goals as goal
use Rattle.list_facts.proofs.StreamLemmas.{Appends-nothing}
use Rattle.std.proofs.lemmas.Result.{IfOk-weaker, on_err_weaker}

pub returns-then-bytes-gt-SOURCE_LIMIT-clause-answered : goal.returns-then-bytes-gt-SOURCE_LIMIT-clause-answered
returns-then-bytes-gt-SOURCE_LIMIT-clause-answered g c = λ words source source' asks.
    delivered words c.args.bytes.now source source' c.before_analysis-ended.result c.deliver.result _ _ _ []
    c.as_bytes.result.now _ _ _
    (oversized (record {
      named = asks.of_command;
      cause = omega arith;
      fields = c.before_analysis-ended.ensures.fields;
      status = ap Some c.before_analysis-ended.ensures.status;
      printed = c.as_bytes.ensures.value;
    })) (Appends-nothing _) c.deliver.ensures.delivered (λ rose. rose)

pub returns-in-Ok-clause-answered : goal.returns-in-Ok-clause-answered
returns-in-Ok-clause-answered g c = IfOk-weaker c.answer_program.result _ _
    (λ ended answer words source source' asks. answer words source source' asks
    (record { small = omega arith; read = c.in-Ok.ensures.found }))
    c.answer_program.ensures.answered

pub returns-in-Ok-clause-exhausted : goal.returns-in-Ok-clause-exhausted
returns-in-Ok-clause-exhausted g c = on_err_weaker c.answer_program.result
    (λ written words asks. written words asks (record { small = omega arith; read = c.in-Ok.ensures.found }))
    c.answer_program.ensures.exhausted

pub returns-in-Err-Refused-clause-answered : goal.returns-in-Err-Refused-clause-answered
returns-in-Err-Refused-clause-answered g c = IfOk-weaker c.refuse.result _ _
    (λ ended answer words source source' asks.
    answer words c.args.bytes.now source source' asks.of_command (omega arith)
    (subst (λ (e : SourceError). HasCause (FirstOffence c.args.bytes.now) e) c.in-Err-Refused.field-0-is
    c.in-Err-Refused.ensures.refused))
    c.refuse.ensures.answered
