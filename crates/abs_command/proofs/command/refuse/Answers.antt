use Rattle.std.proofs.Common.{◌∙◌, ap, []}
use Rattle.std.specs.Prelude.{Some}
use Rattle.abs_command.specs.Ways.CameTo.{refused}
use Rattle.abs_command.proofs.AnswerLemmas.{delivered}
use Rattle.abs_command.proofs.command.refuse.Goals as goal
use Rattle.list_facts.proofs.StreamLemmas.{Appends-nothing}

pub returns-clause-answered : goal.returns-clause-answered
returns-clause-answered g c = λ words bytes source source' named small first.
    delivered words bytes source source' c.before_analysis-ended.result c.deliver.result _ _ _ [] c.as_bytes.result.now
    _ _ _
    (refused (record {
      named = named;
      small = small;
      first = c.args.refusal;
      refusal = first;
      fields = c.before_analysis-ended.ensures.fields;
      status = ap Some c.before_analysis-ended.ensures.status;
      printed = c.as_bytes.ensures ∙ c.in_ok-text.ensures;
    })) (Appends-nothing _) c.deliver.ensures.delivered (λ rose. rose)
