use Rattle.std.proofs.Common.{◌∙◌, decimal, sym, subst}
use Rattle.abs_program.specs.NamedViews.{program_tree}
use Rattle.report_printer.proofs.LoopLemmas.{empty_report, some_report}
use Rattle.report_printer.proofs.WritingLemmas.{then}
use Rattle.report_printer.specs.Output.{Writes}
use Rattle.report_printer.proofs.printer.Printer.report.Goals as goal

pub returns-then-is_empty : goal.returns-then-is_empty
returns-then-is_empty c =
    subst (λ text. Writes c.args.out.now text c.push.new.self)
    (sym (empty_report c.args.self.now.lines.now.source.now
    (program_tree c.args.self.now.program.now.checked.named) c.args.report.now
    (sym c.is_empty.ensures ∙ c.if-is_empty.true))) c.push.ensures

pub returns-else-is_empty : goal.returns-else-is_empty
returns-else-is_empty c =
    let count = subst (λ number. Writes c.push-else-is_empty.new.self (decimal number) c.number.new.self)
    c.len.ensures c.number.ensures in
    subst (λ text. Writes c.args.out.now text c.chains.new.out)
    (sym (some_report c.args.self.now.lines.now.source.now
    (program_tree c.args.self.now.program.now.checked.named) c.args.report.now
    (sym c.is_empty.ensures ∙ c.if-is_empty.false)))
    (then c.push-else-is_empty.ensures (then count (then c.push-else-is_empty-2.ensures c.chains.ensures)))
