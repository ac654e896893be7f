use Rattle.std.proofs.Common.{subst}
use Rattle.report_printer.proofs.WritingLemmas.{then}
use Rattle.report_printer.specs.Output.{Writes}
use Rattle.report_printer.specs.ReportTexts.{pair_lines}
use Rattle.report_printer.proofs.printer.Printer.pair.Goals as goal

pub returns : goal.returns
unfolding pair_lines
returns c =
    let link = subst (λ piece. Writes c.push-2.new.self piece c.push-3.new.self) c.link.ensures c.push-3.ensures in
    let line = subst (λ piece. Writes c.push-4.new.self piece c.push-5.new.self) c.quoted.ensures c.push-5.ensures in
    then c.push.ensures (then c.wait.ensures (then c.push-2.ensures (then link (then c.push-4.ensures
    (then line c.push-6.ensures)))))
