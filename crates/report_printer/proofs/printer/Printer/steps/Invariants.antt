use Rattle.std.proofs.Common.{ℕ, List, drop}
use Rattle.std.specs.Prelude.{Option}
use Rattle.abs_program.specs.NamedViews.{program_tree}
use Rattle.report_printer.proofs.LoopLemmas.{left_lines}
use Rattle.report_printer.specs.Output.{Writes}
use Rattle.report_printer.proofs.printer.Printer.steps.Given as goal

-- with the steps that are left, all are written
abbrev pub invariant-loop-next : goal.invariant-loop-next
invariant-loop-next l =
    let program = program_tree l.self.program.now.checked.named in
    (after : Option (List ℕ))
    → Writes l.out (left_lines l.self.lines.now.source.now program l.first l.pair (drop l.next-index l.others)) after
    → Writes l.initial.out (left_lines l.self.lines.now.source.now program l.first l.first l.others) after
