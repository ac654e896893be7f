use Rattle.std.proofs.Common.{◌<◌, length, arith}
use Rattle.abs_program.specs.NamedViews.{program_tree}
use Rattle.report_printer.proofs.LoopLemmas.{chain_more, no_chain_left}
use Rattle.report_printer.proofs.printer.Printer.chains.Goals as goal

pub loop-index-init : goal.loop-index-init
loop-index-init c after rest = rest

pub loop-index-preserved : goal.loop-index-preserved
loop-index-preserved c after rest =
    let within : c.loop-index.index < length c.args.report.now
    = omega (arith, c.loop-index-test.true, c.len-index-end.ensures) in
    c.loop-index.invariant after
    (chain_more c.args.self.now.lines.now.source.now (program_tree c.args.self.now.program.now.checked.named)
    c.at.result.now c.args.report.now c.loop-index.index within c.at.ensures c.chain.ensures rest)

pub returns : goal.returns
returns c =
    c.loop-index.invariant c.loop-index.out
    (no_chain_left c.args.self.now.lines.now.source.now (program_tree c.args.self.now.program.now.checked.named)
    c.args.report.now c.loop-index.index (omega (arith, c.loop-index-test.false, c.len-index-end.ensures))
    c.loop-index.out)
