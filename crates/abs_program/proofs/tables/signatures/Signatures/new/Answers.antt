use Rattle.abs_program.proofs.SignatureLemmas.{signatures_start, signatures_step, signatures_done}
use Rattle.abs_program.proofs.tables.signatures.Signatures.new.Goals as goal

pub loop-index-init : goal.loop-index-init
loop-index-init c = signatures_start c.args.declarations.now (rw (← c.len.ensures) c.in_ok-rows.ensures)

pub loop-index-preserved : goal.loop-index-preserved
loop-index-preserved c =
    signatures_step c.index-declarations-index.result c.in_ok-in_32_bits.field-0 c.loop-index.invariant
    c.loop-index-test.true c.index-declarations-index.is c.in_ok-in_32_bits.ensures c.in_ok-add_declaration.ensures

pub returns : goal.returns
returns c = signatures_done _ c.loop-index.invariant c.loop-index-test.false
