use Rattle.std.proofs.Common.{ap, sym, subst, refl, List, [], ℕ}
use Rattle.std.specs.Prelude.{Some, Err}
use Rattle.abs_command.specs.Promises.Answer.{whole, exhausted}
use Rattle.abs_command.specs.Ways.CameTo.{unread}
use Rattle.abs_command.specs.Statuses.{WasRead}
use Rattle.abs_command.specs.Taking.{TookWhole}
use Rattle.abs_command.specs.Words.{Names}
use Rattle.abs_command.proofs.PromiseLemmas.{promised}
use Rattle.abs_command.proofs.TakingLemmas.{read_whole, some_taken, read_in_part}
use Rattle.abs_command.proofs.command.answer_file.Goals as goal
use Rattle.list_facts.proofs.StreamLemmas.{Appends-nothing}
use Rattle.std.proofs.lemmas.Result.{IfOk-weaker, on_err_weaker}

pub returns-in-Ok-clause-promises : goal.returns-in-Ok-clause-promises
returns-in-Ok-clause-promises g c =
    let file = c.args.file.now in
    let took = subst (λ (bytes : List ℕ).
    TookWhole (g.S.Source.under c.args.source.now file) (g.S.Source.left c.take.new.source) bytes)
    (sym c.as_slice.ensures.value) c.in-Ok.ensures.took in
    IfOk-weaker c.answer.result _ _ (λ ended answer words asks is. promised words c.as_slice.result.now _ _ _ _ ended
    (read_whole words _ _ file c.as_slice.result.now ended.status (record { of_command = asks.of_command; is = is }) took
    c.in-Ok.ensures.missing c.in-Ok.ensures.same_names)
    (answer words _ _ asks)) c.answer.ensures.answered

pub returns-in-Ok-clause-exhausted : goal.returns-in-Ok-clause-exhausted
returns-in-Ok-clause-exhausted g c =
    let file = c.args.file.now in
    let took = subst (λ (bytes : List ℕ).
    TookWhole (g.S.Source.under c.args.source.now file) (g.S.Source.left c.take.new.source) bytes)
    (sym c.as_slice.ensures.value) c.in-Ok.ensures.took in
    on_err_weaker c.answer.result (λ written words asks is ended memory.
    promised words c.as_slice.result.now _ _ _ _ ended
    (read_whole words _ _ file c.as_slice.result.now ended.status (record { of_command = asks.of_command; is = is }) took
    c.in-Ok.ensures.missing c.in-Ok.ensures.same_names)
    (exhausted memory (written words asks))) c.answer.ensures.exhausted

pub returns-in-Err-Failed-clause-promises : goal.returns-in-Err-Failed-clause-promises
returns-in-Err-Failed-clause-promises g c = λ words asks is.
    let file = c.args.file.now in
    let named : Names words file = record { of_command = asks.of_command; is = is } in
    let part = some_taken (g.S.Source.under c.args.source.now file) (g.S.Source.left c.args.source.now)
    (g.S.Source.left c.take.new.source) c.in-Err-Failed.ensures.some in
    promised words part.bytes _ _ _ _ _
    (read_in_part words _ _ file _ named
    (λ read. subst WasRead c.before_analysis.ensures.status read) part c.in-Err-Failed.ensures.same_names)
    (whole [] (unread (record {
      file = file;
      named = named;
      cause = c.in-Err-Failed.ensures.failed (ap Err c.in-Err-Failed.field-0-is);
      fields = c.before_analysis.ensures.fields;
      status = ap Some c.before_analysis.ensures.status;
      printed = refl;
    })) (Appends-nothing _))
