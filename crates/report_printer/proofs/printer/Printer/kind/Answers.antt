use Rattle.std.proofs.Common.{sym, subst}
use Rattle.abs_program.specs.NamedViews.{program_tree}
use Rattle.report_printer.specs.Output.{Writes}
use Rattle.report_printer.specs.ReportTexts.{kind_text}
use Rattle.report_printer.proofs.printer.Printer.kind.Goals as goal

pub returns-in-Main : goal.returns-in-Main
unfolding kind_text
returns-in-Main c =
    subst (λ kind. Writes c.args.out.now (kind_text c.args.self.now.lines.now.source.now
    (program_tree c.args.self.now.program.now.checked.named) kind) c.push.new.self) (sym c.in-Main.is) c.push.ensures

pub returns-in-Method : goal.returns-in-Method
unfolding kind_text
returns-in-Method c =
    subst (λ kind. Writes c.args.out.now (kind_text c.args.self.now.lines.now.source.now
    (program_tree c.args.self.now.program.now.checked.named) kind) c.method.new.out) (sym c.in-Method.is)
    c.method.ensures
