use Rattle.std.proofs.Common.{◌∙◌, sym}
use Rattle.contract_terms.specs.Views.{accepts_tree}
use Rattle.saturation.proofs.AddedLemmas.{added_both, added_reads, added_where, added_nowhere, ok_then}
use Rattle.saturation.proofs.uses.Uses.add_effect.Goals as goal
use Rattle.saturation.specs.Uses.{lets_in_something}

pub returns-then-is_open : goal.returns-then-is_open
returns-then-is_open c =
    let names = c.args.program.now.symbols in
    let accepts = accepts_tree names c.args.term.now.accepts in
    let open_is = c.lets_in-is_open.ensures names in
    let reads = added_reads c.args.body c.args.index (c.matters.ensures names accepts open_is) c.as_slice.ensures.value
    c.in_ok-add_reads_if.ensures in
    ok_then c.add_taken.result (λ taken. added_both reads
    (added_where (lets_in_something accepts) (sym open_is ∙ c.if-is_open.true) taken)) c.add_taken.ensures

pub returns-else-is_open : goal.returns-else-is_open
returns-else-is_open c =
    let names = c.args.program.now.symbols in
    let accepts = accepts_tree names c.args.term.now.accepts in
    let open_is = c.lets_in-is_open.ensures names in
    let reads = added_reads c.args.body c.args.index (c.matters.ensures names accepts open_is) c.as_slice.ensures.value
    c.in_ok-add_reads_if.ensures in
    added_both reads (added_nowhere (lets_in_something accepts) (sym open_is ∙ c.if-is_open.false))
