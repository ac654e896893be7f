use Rattle.std.proofs.Common.{◌≤◌, ◌∙◌, List, [], false, ap, replicate, subst, sym}
use Rattle.abs_program.specs.NamedViews.{program_tree}
use Rattle.circularity_test.proofs.MarkingLemmas.{report_begins, report_ends}
use Rattle.circularity_test.proofs.RisingLemmas.{component_kept, report_kept}
use Rattle.circularity_test.proofs.report.level_chains.Goals as goal
use Rattle.circularity_test.specs.Network.{KeepsComponent}
use Rattle.circularity_test.specs.Numbers.{entry_number}
use Rattle.circularity_test.specs.Reporting.{IsReported}
use Rattle.contract_terms.specs.Chains.{IsReport}
use Rattle.contract_terms.specs.declared.pair.Pair.{Pair}

pub loop-index-init : goal.loop-index-init
loop-index-init c network =
    subst (λ (report : List (List Pair)). IsReported (program_tree c.args.program.now.checked.named)
    c.args.level.now.pairs 0 c.in_ok-marked.marked.items report) (sym c.new-report.ensures)
    (report_begins (program_tree c.args.program.now.checked.named) c.args.level.now.pairs c.in_ok-marked.marked.items
    (c.in_ok-marked.ensures ∙ ap (λ count. replicate count false) c.len.ensures.count))

pub loop-index-preserved : goal.loop-index-preserved
loop-index-preserved c network =
    c.in_ok-list.ensures (program_tree c.args.program.now.checked.named) network c.len.ensures.rises
    (c.loop-index.invariant network)

pub returns : goal.returns
returns c pairs are =
    let program = program_tree c.args.program.now.checked.named in
    let keeps : KeepsComponent program c.args.level.now.pairs (entry_number are.numbers) =
    subst (λ list. KeepsComponent program list (entry_number are.numbers)) (sym are.pairs_are)
    (component_kept program pairs are.numbers are.rising) in
    let network = c.in_ok-network.ensures (entry_number are.numbers) are.components_are keeps in
    let report = report_ends program c.args.level.now.pairs c.loop-index.index c.loop-index.marked.items
    c.loop-index.report (subst (λ count. count ≤ c.loop-index.index) c.len-index-end.ensures.count
    c.loop-index-test.false) (c.loop-index.invariant network) in
    report_kept program pairs are.numbers are.rising pairs [] c.loop-index.report
    (subst (λ list. IsReport program list c.loop-index.report) are.pairs_are report)
