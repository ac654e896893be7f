use Rattle.std.proofs.Common.{◌∙◌, refl, ap, sym, subst, [], arith}
use Rattle.std.specs.Prelude.{Some, None}
use Rattle.abs_program.specs.NamedViews.{program_tree}
use Rattle.abs_program.specs.declared.named.Named.{Named}
use Rattle.abs_command.specs.Machine.{IsRun}
use Rattle.abs_command.specs.Promises.Answer.{prefix}
use Rattle.abs_command.specs.Statuses.{status_of_report}
use Rattle.abs_command.specs.Ways.CameTo.{checked, reported, ran}
use Rattle.abs_command.proofs.AnswerLemmas.{delivered}
use Rattle.abs_command.proofs.AskedLemmas.{report_asked, report_written, ran_asked}
use Rattle.abs_command.proofs.command.answer_analysed.Goals as goal
use Rattle.list_facts.proofs.ResultLemmas.{OnErr-always}
use Rattle.list_facts.proofs.StreamLemmas.{Appends-nothing}

pub returns-then-options-clause-answered : goal.returns-then-options-clause-answered
returns-then-options-clause-answered g c = λ words before after asks is.
    let of = c.analysed.ensures in
    delivered words c.args.source.now before after c.analysed.result c.deliver.result _ _ _ [] c.as_bytes.result.now _ _ _
    (checked (record {
      asked = sym asks.are.check ∙ c.if-options.true;
      report = report_asked c.findings_are_exact.ensures.chains words c.args.options.now c.args.source.now
          c.analysed.result (program_tree c.args.program.now.checked.named) c.args.analysis c.as_bytes.result.now asks is
          of.refusal of.facts of.pairs of.report of.history of.end (c.as_bytes.ensures ∙ c.in_ok-text.ensures);
      status = ap Some (of.status ∙ (c.status_of_analysis-status.ensures ∙ ap status_of_report (sym of.report)));
    })) (Appends-nothing _) c.deliver.ensures.delivered (λ rose. rose)

pub returns-in_default-clause-answered : goal.returns-in_default-clause-answered
returns-in_default-clause-answered g c = λ words before after asks is.
    let of = c.analysed-in_default.ensures in
    prefix None c.as_bytes-2.result.now
    (reported (record {
      asked = sym asks.are.check ∙ c.if-options.false;
      report = report_asked c.findings_are_exact.ensures.chains words c.args.options.now c.args.source.now
          c.analysed-in_default.result (program_tree c.args.program.now.checked.named) c.args.analysis
          c.as_bytes-2.result.now asks is of.refusal of.facts of.pairs of.report of.history of.end
          (c.as_bytes-2.ensures ∙ c.in_ok-text.ensures);
      status = refl;
    }))
    of.status c.in_default.ensures.prefix c.in_default.ensures.counted

pub returns-in_err-ran-clause-exhausted : goal.returns-in_err-ran-clause-exhausted
returns-in_err-ran-clause-exhausted g c = OnErr-always c.from_residual-in_err-ran.result (λ words asks is.
    report_written words c.args.options.now c.args.source.now (program_tree c.args.program.now.checked.named)
    c.args.analysis _ _ c.as_bytes-2.result.now asks is (c.as_bytes-2.ensures ∙ c.in_ok-text.ensures)
    c.in-Ok.ensures.whole)

pub returns-in_err-text-2-clause-exhausted : goal.returns-in_err-text-2-clause-exhausted
returns-in_err-text-2-clause-exhausted g c = OnErr-always c.from_residual-in_err-text-2.result (λ words asks is.
    report_written words c.args.options.now c.args.source.now (program_tree c.args.program.now.checked.named)
    c.args.analysis _ _ c.as_bytes-2.result.now asks is (c.as_bytes-2.ensures ∙ c.in_ok-text.ensures)
    c.in-Ok.ensures.whole)

pub returns-clause-answered : goal.returns-clause-answered
returns-clause-answered g c = λ words before after asks is.
    let of = c.ran.ensures in
    let run = c.in_ok-ran.ran in
    let options = c.args.options.now in
    let same = c.named.ensures.program ∙ ap (λ it. it.named) c.checked.ensures.program in
    let names = c.args.program.now.checked.named.symbols in
    let program = program_tree c.args.program.now.checked.named in
    let is_run : IsRun names program options.steps run =
    subst (λ (it : Named). IsRun it.symbols (program_tree it) options.steps run) same c.in_ok-ran.ensures in
    delivered words c.args.source.now before after c.ran.result c.deliver-2.result _ _ _ c.as_bytes-2.result.now
    c.as_bytes-3.result.now _ _ _
    (ran (ran_asked c.findings_are_exact.ensures.chains words options c.args.source.now c.ran.result program c.args.analysis
    names run c.as_bytes-2.result.now c.as_bytes-3.result.now asks c.if-options.false is is_run of.refusal of.facts of.pairs
    of.report of.history of.end (of.status names) (c.as_bytes-2.ensures ∙ c.in_ok-text.ensures)
    (c.as_bytes-3.ensures ∙ c.in_ok-text-2.ensures names))) c.in-Ok.ensures.whole c.deliver-2.ensures.delivered
    (λ rose room. let more = rose room in let kept = c.in-Ok.ensures.never_falls in omega arith)
