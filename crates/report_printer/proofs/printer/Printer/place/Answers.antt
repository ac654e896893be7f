use Rattle.std.proofs.Common.{◌++◌, codes, decimal, subst}
use Rattle.report_printer.proofs.WritingLemmas.{then}
use Rattle.report_printer.specs.Output.{Writes}
use Rattle.report_printer.specs.ReportTexts.{place_text}
use Rattle.report_printer.specs.SourceLines.{source_place}
use Rattle.report_printer.proofs.printer.Printer.place.Goals as goal

pub returns : goal.returns
unfolding place_text
returns c =
    let out = c.args.out.now in
    let after = c.number-2.new.self in
    let place = source_place c.args.self.now.lines.now.source.now c.args.offset in
    subst (λ line. Writes out (decimal line ++ (codes ":" ++ decimal place.column)) after)
    c.place-place.ensures.line
    (subst (λ column. Writes out (decimal c.place-place.result.line ++ (codes ":" ++ decimal column)) after)
    c.place-place.ensures.column
    (then c.number.ensures (then c.push.ensures c.number-2.ensures)))
