use Rattle.std.proofs.Common.{subst, sym}
use Rattle.abs_program.specs.NamedViews.{program_tree}
use Rattle.circularity_test.proofs.MarkingLemmas.{no_get_no_chain}
use Rattle.circularity_test.proofs.report.chains.Goals as goal
use Rattle.contract_terms.specs.Chains.{IsReport}

pub returns-then-never_gets : goal.returns-then-never_gets
returns-then-never_gets c =
    subst (IsReport (program_tree c.args.program.now.checked.named) c.args.list.now) (sym c.new.ensures)
    (no_get_no_chain (program_tree c.args.program.now.checked.named) c.args.list.now
    (c.never_gets.ensures c.if-never_gets.true))

pub returns : goal.returns
returns c = c.level_chains.ensures c.args.list.now c.in_ok-level.ensures
