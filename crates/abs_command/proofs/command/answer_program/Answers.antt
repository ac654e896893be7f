use Rattle.std.proofs.Common.{ap, []}
use Rattle.std.proofs.lemmas.Result.{IfOk-weaker, on_err_weaker}
use Rattle.std.specs.Prelude.{Some}
use Rattle.abs_program.specs.NamedViews.{program_tree}
use Rattle.abs_command.specs.Ways.CameTo.{overfull}
use Rattle.abs_command.proofs.AnswerLemmas.{delivered}
use Rattle.abs_command.proofs.AskedLemmas.{too_many_asked}
use Rattle.abs_command.proofs.command.answer_program.Goals as goal
use Rattle.list_facts.proofs.StreamLemmas.{Appends-nothing}

pub returns-in-Ok-clause-answered : goal.returns-in-Ok-clause-answered
returns-in-Ok-clause-answered g c = IfOk-weaker c.answer_analysed.result _ _
    (λ ended answer words before after asks accepted. answer words before after asks
    (record { accepted = accepted; few = c.in-Ok.ensures.few; findings = c.in-Ok.ensures.found }))
    c.answer_analysed.ensures.answered

pub returns-in-Ok-clause-exhausted : goal.returns-in-Ok-clause-exhausted
returns-in-Ok-clause-exhausted g c = on_err_weaker c.answer_analysed.result
    (λ written words asks accepted. written words asks
    (record { accepted = accepted; few = c.in-Ok.ensures.few; findings = c.in-Ok.ensures.found }))
    c.answer_analysed.ensures.exhausted

pub returns-in-Err-TooMany-clause-answered : goal.returns-in-Err-TooMany-clause-answered
returns-in-Err-TooMany-clause-answered g c = λ words before after asks accepted.
    let options = c.args.options.now in
    let program = program_tree c.args.program.now.checked.named in
    delivered words c.args.source.now before after c.before_analysis-ended.result c.deliver.result _ _ _ []
    c.as_bytes.result.now _ _ _
    (overfull (record {
      named = asks.of_command;
      program = program;
      accepted = accepted;
      cause = too_many_asked words options asks program (c.in-Err-TooMany.ensures.too_many c.in-Err-TooMany.field-0-is);
      fields = c.before_analysis-ended.ensures.fields;
      status = ap Some c.before_analysis-ended.ensures.status;
      printed = c.as_bytes.ensures.value;
    })) (Appends-nothing _) c.deliver.ensures.delivered (λ rose. rose)
