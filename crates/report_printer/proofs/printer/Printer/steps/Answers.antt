use Rattle.std.proofs.Common.{sym, subst}
use Rattle.abs_program.specs.NamedViews.{program_tree}
use Rattle.report_printer.proofs.LoopLemmas.{last_step, no_item, step_more}
use Rattle.report_printer.proofs.WritingLemmas.{nothing}
use Rattle.report_printer.specs.Output.{Writes}
use Rattle.report_printer.specs.ReportTexts.{steps_lines}
use Rattle.report_printer.proofs.printer.Printer.steps.Goals as goal

pub returns-in_default : goal.returns-in_default
unfolding steps_lines
returns-in_default c =
    subst (λ chain. Writes c.args.out.now (steps_lines c.args.self.now.lines.now.source.now
    (program_tree c.args.self.now.program.now.checked.named) chain) c.args.out.now)
    (sym (no_item c.args.chain.now c.in_default.ensures.cases)) (nothing c.args.out.now)

pub loop-next-init : goal.loop-next-init
loop-next-init c after rest = rest

pub loop-next-preserved : goal.loop-next-preserved
loop-next-preserved c after rest =
    c.loop-next.invariant after
    (step_more c.args.self.now.lines.now.source.now (program_tree c.args.self.now.program.now.checked.named)
    c.in-Some.first.now c.loop-next.pair.now c.next-item.result c.in-Some.others.now c.loop-next.next-index
    c.loop-next-test.true c.next-item.is c.pair.ensures rest)

pub returns : goal.returns
unfolding steps_lines
returns c =
    let bytes = c.args.self.now.lines.now.source.now in
    let program = program_tree c.args.self.now.program.now.checked.named in
    subst (λ chain. Writes c.args.out.now (steps_lines bytes program chain) c.pair-2.new.out)
    (sym c.in-Some.ensures.cases.0)
    (c.loop-next.invariant c.pair-2.new.out
    (last_step bytes program c.in-Some.first.now c.loop-next.pair.now c.in-Some.others.now c.loop-next.next-index
    c.loop-next-test.false c.pair-2.ensures))
