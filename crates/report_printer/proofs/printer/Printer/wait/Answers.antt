use Rattle.std.proofs.Common.{subst}
use Rattle.report_printer.proofs.WritingLemmas.{then}
use Rattle.report_printer.specs.Output.{Writes}
use Rattle.report_printer.specs.ReportTexts.{wait_text}
use Rattle.report_printer.proofs.printer.Printer.wait.Goals as goal

pub returns : goal.returns
unfolding wait_text
returns c =
    let mode = subst (λ piece. Writes c.args.out.now piece c.push.new.self) c.mode.ensures c.push.ensures in
    then mode (then c.push-2.ensures (then c.place.ensures (then c.push-3.ensures (then c.kind.ensures
    (then c.push-4.ensures (then c.kind-2.ensures (then c.push-5.ensures c.place-2.ensures)))))))
