use Rattle.report_printer.proofs.WritingLemmas.{then}
use Rattle.report_printer.specs.ReportTexts.{chain_lines}
use Rattle.report_printer.proofs.printer.Printer.chain.Goals as goal

pub returns : goal.returns
unfolding chain_lines
returns c = then c.push.ensures (then c.number.ensures (then c.push-2.ensures (then c.number-2.ensures
    (then c.push-3.ensures c.steps.ensures))))
