use Rattle.std.proofs.Common.{◌∙◌, arith, ltb-false, ltb-true, nat_lt, rules}
use Rattle.std.proofs.lemmas.List.Sorted.{IsPartitionPoint-from_clause}
use Rattle.report_printer.proofs.FeedLemmas.{feeds_part, feeds_found}
use Rattle.report_printer.proofs.source_lines.SourceLines.feeds_before.Goals as goal

pub returns-clause-count : goal.returns-clause-count
returns-clause-count c =
    let source = c.args.self.now.source.now in
    let feeds = c.as_slice.result.now in
    let all = c.as_slice.ensures.value ∙ c.args.self.now.are_all in
    let point = IsPartitionPoint-from_clause (λ feed. nat_lt feed c.args.at) feeds c.partition_point.result
    c.partition_point.ensures.partitioned (feeds_part source feeds all c.args.at) (λ a r q k. search rules) in
    feeds_found source feeds all c.args.at c.partition_point.result c.requires c.partition_point.ensures.bound
    (λ index before. ltb-true _ _ (point.0 index 0 (omega arith) before))
    (λ index after inside. ltb-false _ _ (point.1 index 0 after inside))
