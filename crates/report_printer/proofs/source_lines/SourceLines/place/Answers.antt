use Rattle.std.proofs.Common.{◌∙◌, ◌+◌, arith, ap, sym}
use Rattle.report_printer.proofs.FeedLemmas.{start_before}
use Rattle.report_printer.proofs.LineLemmas.{clamped_place, column_between, line_counts}
use Rattle.report_printer.proofs.source_lines.SourceLines.place.Goals as goal

pub overflow_sub-result : goal.overflow_sub-result
overflow_sub-result c =
    start_before c.args.self.now.source.now c.feeds_before-feeds.result c.start_after.result c.min-at.result
    c.start_after.ensures (omega (arith, c.min-at.ensures)) (sym c.feeds_before-feeds.ensures.count)

pub returns-clause-line : goal.returns-clause-line
returns-clause-line c =
    ap (λ count. count + 1) c.feeds_before-feeds.ensures.count
    ∙ sym (ap (λ place. place.line)
    (clamped_place c.args.self.now.source.now c.args.offset c.min-at.result c.min-at.ensures)
    ∙ line_counts c.args.self.now.source.now c.min-at.result)

pub returns-clause-column : goal.returns-clause-column
returns-clause-column c =
    sym (ap (λ place. place.column)
    (clamped_place c.args.self.now.source.now c.args.offset c.min-at.result c.min-at.ensures)
    ∙ column_between c.args.self.now.source.now c.feeds_before-feeds.result c.min-at.result c.start_after.result
    (omega (arith, c.min-at.ensures)) (sym c.feeds_before-feeds.ensures.count) c.start_after.ensures)
