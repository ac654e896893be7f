use Rattle.std.proofs.Common.{ℕ, ◌+◌, List, drop}
use Rattle.std.specs.Prelude.{Option}
use Rattle.abs_program.specs.NamedViews.{program_tree}
use Rattle.report_printer.specs.Output.{Writes}
use Rattle.report_printer.specs.ReportTexts.{numbered_lines}
use Rattle.report_printer.proofs.printer.Printer.chains.Given as goal

-- with the chains that are left, all are written
abbrev pub invariant-loop-index : goal.invariant-loop-index
invariant-loop-index l =
    let lines = numbered_lines l.self.lines.now.source.now (program_tree l.self.program.now.checked.named) in
    (after : Option (List ℕ)) → Writes l.out (lines (l.index + 1) (drop l.index l.report)) after
    → Writes l.initial.out (lines 1 l.report) after
