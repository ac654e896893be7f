use Rattle.std.proofs.Common.{◌∙◌, arith, sym}
use Rattle.report_printer.proofs.LineLemmas.{clamped_line, quoted_between}
use Rattle.report_printer.proofs.source_lines.SourceLines.quoted.Goals as goal

pub returns : goal.returns
returns c =
    sym (clamped_line c.args.self.now.source.now c.args.offset c.min-at.result c.min-at.ensures
    ∙ quoted_between c.args.self.now.source.now c.feeds_before-feeds.result c.min-at.result c.start_after.result
    (omega (arith, c.min-at.ensures)) (sym c.feeds_before-feeds.ensures.count) c.start_after.ensures
    c.end_after.result c.end_after.ensures)
