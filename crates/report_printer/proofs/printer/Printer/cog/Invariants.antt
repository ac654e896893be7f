use Rattle.std.proofs.Common.{ℕ, List, ◌++◌, codes, drop}
use Rattle.std.specs.Prelude.{Option, flat_map}
use Rattle.report_printer.specs.Output.{Writes}
use Rattle.report_printer.specs.ReportTexts.{place_text}
use Rattle.report_printer.proofs.printer.Printer.cog.Given as goal

-- with the places that are left, all are written
abbrev pub invariant-loop-place : goal.invariant-loop-place
invariant-loop-place l =
    let text : ℕ → List ℕ = λ place. codes " " ++ place_text l.self.lines.now.source.now place in
    (after : Option (List ℕ)) → Writes l.out (flat_map text (drop l.place-index l.others)) after
    → Writes l.initial.out (flat_map text l.others) after
