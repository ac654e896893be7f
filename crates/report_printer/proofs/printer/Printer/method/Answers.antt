use Rattle.std.proofs.Common.{subst}
use Rattle.report_printer.proofs.WritingLemmas.{then}
use Rattle.report_printer.specs.Output.{Writes}
use Rattle.report_printer.specs.ReportTexts.{cog_text, method_text}
use Rattle.report_printer.proofs.printer.Printer.method.Goals as goal

pub returns : goal.returns
unfolding method_text
returns c =
    let class = subst (λ piece. Writes c.args.out.now piece c.push.new.self) c.class.ensures c.push.ensures in
    let name = subst (λ piece. Writes c.push-2.new.self piece c.push-3.new.self) c.name.ensures c.push-3.ensures in
    let cog = subst (λ places. Writes c.push-5.new.self (cog_text c.args.self.now.lines.now.source.now places)
    c.cog.new.out) c.places.ensures c.cog.ensures in
    then class (then c.push-2.ensures (then name (then c.push-4.ensures (then c.place.ensures (then c.push-5.ensures
    (then cog c.push-6.ensures))))))
