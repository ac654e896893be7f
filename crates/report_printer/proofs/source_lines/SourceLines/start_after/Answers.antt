use Rattle.std.proofs.Common.{◌∙◌, ◌+◌, ◌-◌, arith, sym, subst}
use Rattle.std.proofs.lemmas.List.{get_or_default}
use Rattle.report_printer.proofs.FeedLemmas.{starts_there}
use Rattle.report_printer.specs.SourceSearch.{IsLineStart}
use Rattle.report_printer.proofs.source_lines.SourceLines.start_after.Goals as goal

pub overflow_add-result : goal.overflow_add-result
overflow_add-result c =
    let lines = c.args.self.now in
    let begins = starts_there lines.source.now lines.feeds.items lines.are_all c.args.feeds (omega arith) c.requires in
    let same = c.index.ensures
    ∙ get_or_default lines.feeds.items (c.args.feeds - 1) c.index.result.now 0 (omega (arith, c.requires)) in
    omega (arith, begins.within, same, lines.fits)

pub returns-else-feeds-eq0 : goal.returns-else-feeds-eq0
returns-else-feeds-eq0 c =
    let lines = c.args.self.now in
    subst (λ at. IsLineStart lines.source.now c.args.feeds (at + 1))
    (sym (c.index.ensures
    ∙ get_or_default lines.feeds.items (c.args.feeds - 1) c.index.result.now 0 (omega (arith, c.requires))))
    (starts_there lines.source.now lines.feeds.items lines.are_all c.args.feeds (omega arith) c.requires)
