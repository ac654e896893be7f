use Rattle.std.proofs.Common.{◌∙◌, arith, sym, subst}
use Rattle.std.proofs.lemmas.List.{get_or_default}
use Rattle.report_printer.proofs.FeedLemmas.{ends_there, ends_last}
use Rattle.report_printer.specs.SourceSearch.{IsLineEnd}
use Rattle.report_printer.proofs.source_lines.SourceLines.end_after.Goals as goal

pub returns-then-feeds-len : goal.returns-then-feeds-len
returns-then-feeds-len c =
    let lines = c.args.self.now in
    subst (IsLineEnd lines.source.now c.args.feeds)
    (sym (c.index.ensures ∙ get_or_default lines.feeds.items c.args.feeds c.index.result.now 0 (omega arith)))
    (ends_there lines.source.now lines.feeds.items lines.are_all c.args.feeds (omega arith))

pub returns-else-feeds-len : goal.returns-else-feeds-len
returns-else-feeds-len c =
    let lines = c.args.self.now in
    ends_last lines.source.now lines.feeds.items lines.are_all c.args.feeds c.requires (omega arith)
