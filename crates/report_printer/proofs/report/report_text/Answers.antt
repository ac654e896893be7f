use Rattle.std.proofs.Common.{◌≡◌, [], Some, subst}
use Rattle.std.proofs.lemmas.Result.{IfOk-weaker}
use Rattle.abs_program.specs.NamedViews.{program_tree}
use Rattle.report_printer.proofs.WritingLemmas.{all_written}
use Rattle.report_printer.specs.Output.{Writes}
use Rattle.report_printer.specs.ReportTexts.{report_lines}
use Rattle.report_printer.proofs.report.report_text.Goals as goal

pub returns : goal.returns
returns c =
    let program = program_tree c.args.program.now.checked.named in
    let from_nothing = subst (λ before. Writes before
    (report_lines c.in_ok-lines.lines.source.now program c.args.report.now) c.report.new.out)
    c.new-out.ensures c.report.ensures in
    let of_source = subst (λ source. Writes (Some []) (report_lines source program c.args.report.now) c.report.new.out)
    c.in_ok-lines.ensures from_nothing in
    IfOk-weaker c.finish.result (λ text. c.report.new.out ≡ Some text)
    (λ text. text ≡ report_lines c.args.source.now program c.args.report.now)
    (λ text is. all_written of_source text is) c.finish.ensures
