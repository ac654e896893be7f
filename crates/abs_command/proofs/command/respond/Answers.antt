use Rattle.std.proofs.Common.{◌∙◌, ap, sym, []}
use Rattle.std.specs.Prelude.{Some, Err}
use Rattle.abs_options.specs.CommandLine.{spelled}
use Rattle.abs_command.specs.Promises.Answer.{exhausted}
use Rattle.abs_command.specs.Promises.WrittenBefore.{nothing}
use Rattle.abs_command.specs.Ways.CameTo.{misused}
use Rattle.abs_command.specs.Words.{AskFor}
use Rattle.abs_command.proofs.AnswerLemmas.{delivered}
use Rattle.abs_command.proofs.InputLemmas.{file_asked, count_asked}
use Rattle.abs_command.proofs.PromiseLemmas.{promised}
use Rattle.abs_command.proofs.TakingLemmas.{nothing_called, nothing_read, unread_text}
use Rattle.abs_command.proofs.command.respond.Goals as goal
use Rattle.list_facts.proofs.StreamLemmas.{Appends-nothing}
use Rattle.std.proofs.lemmas.Result.{IfOk-weaker, on_err_weaker}

pub returns-in-Err-Usage-clause-promises : goal.returns-in-Err-Usage-clause-promises
returns-in-Err-Usage-clause-promises g c =
    let none = c.in-Err-Usage.ensures.usage (ap Err c.in-Err-Usage.field-0-is) in
    promised _ [] _ _ _ _ _ (nothing_read _ _ _ none)
    (delivered _ [] _ _ c.before_analysis-ended.result c.deliver.result _ _ _ [] c.as_bytes.result.now _ _ _
    (misused (record {
      cause = none;
      fields = c.before_analysis-ended.ensures.fields;
      status = ap Some c.before_analysis-ended.ensures.status;
      printed = c.as_bytes.ensures.value;
    })) (Appends-nothing _) c.deliver.ensures.delivered (λ rose. rose))

pub returns-in-Err-Memory-clause-exhausted : goal.returns-in-Err-Memory-clause-exhausted
returns-in-Err-Memory-clause-exhausted g c = λ ended memory.
    promised _ (unread_text (spelled c.args.words.now)) _ _ _ _ ended (nothing_called _ _ _ memory)
    (exhausted memory (nothing (Appends-nothing _)))

pub returns-in-File-clause-promises : goal.returns-in-File-clause-promises
returns-in-File-clause-promises g c =
    let words = spelled c.args.words.now in
    let options = c.in-Ok.options in
    let asks : AskFor words options = record { of_command = c.in-Ok.ensures.of_command; are = c.in-Ok.ensures.options } in
    IfOk-weaker c.answer_file.result _ _ (λ ended promise. promise words asks
    (file_asked words options c.in-File.file asks c.in-File.is ∙ ap Some (sym c.as_str.ensures)))
    c.answer_file.ensures.promises

pub returns-in-File-clause-exhausted : goal.returns-in-File-clause-exhausted
returns-in-File-clause-exhausted g c =
    let words = spelled c.args.words.now in
    let options = c.in-Ok.options in
    let asks : AskFor words options = record { of_command = c.in-Ok.ensures.of_command; are = c.in-Ok.ensures.options } in
    on_err_weaker c.answer_file.result (λ promise. promise words asks
    (file_asked words options c.in-File.file asks c.in-File.is ∙ ap Some (sym c.as_str.ensures)))
    c.answer_file.ensures.exhausted

pub returns-clause-promises : goal.returns-clause-promises
returns-clause-promises g c =
    let words = spelled c.args.words.now in
    let options = c.in-Ok.options in
    let asks : AskFor words options = record { of_command = c.in-Ok.ensures.of_command; are = c.in-Ok.ensures.options } in
    IfOk-weaker c.answer_made.result _ _ (λ ended promise. promise words _ asks
    (count_asked words options c.in-Make.count asks c.in-Make.is)) c.answer_made.ensures.promises

pub returns-clause-exhausted : goal.returns-clause-exhausted
returns-clause-exhausted g c =
    let words = spelled c.args.words.now in
    let options = c.in-Ok.options in
    let asks : AskFor words options = record { of_command = c.in-Ok.ensures.of_command; are = c.in-Ok.ensures.options } in
    on_err_weaker c.answer_made.result (λ promise. promise words _ asks
    (count_asked words options c.in-Make.count asks c.in-Make.is)) c.answer_made.ensures.exhausted
