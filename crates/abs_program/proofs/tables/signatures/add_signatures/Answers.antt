use Rattle.abs_program.proofs.SignatureLemmas.{has_row, among_start, among_step, among_done}
use Rattle.abs_program.proofs.tables.signatures.add_signatures.Goals as goal

pub loop-index-init : goal.loop-index-init
loop-index-init c = among_start c.args.symbols.now c.args.interface c.args.signatures.now c.args.rows.now.items

pub add_signature-requires : goal.add_signature-requires
add_signature-requires c =
    has_row c.args.symbols.now c.args.rows.now.items c.loop-index.rows.items _ c.number-number.result c.requires.rows
    c.loop-index.invariant.size c.number-number.ensures.number

pub loop-index-preserved : goal.loop-index-preserved
loop-index-preserved c =
    among_step c.index-signatures-index.result c.number-number.result
    (record { interface = c.args.interface; index = c.in_ok-index.index }) c.loop-index.invariant
    c.loop-index-test.true c.index-signatures-index.is c.number-number.ensures.number c.in_ok-index.ensures
    c.in_ok-add_signature.ensures

pub returns : goal.returns
returns c = among_done c.loop-index.invariant c.loop-index-test.false
