use Rattle.abs_program.proofs.MethodLemmas.{methods_start, methods_step, methods_done}
use Rattle.abs_program.proofs.tables.methods.Methods.new.Goals as goal

pub loop-index-init : goal.loop-index-init
loop-index-init c = methods_start c.args.symbols.now c.args.declarations.now c.new-indices.ensures.empty

pub loop-index-preserved : goal.loop-index-preserved
loop-index-preserved c =
    methods_step c.index-declarations-index.result c.in_ok-in_32_bits.field-0 c.loop-index.invariant
    c.loop-index-test.true c.index-declarations-index.is c.in_ok-in_32_bits.ensures c.in_ok-add_declaration.ensures

pub returns : goal.returns
returns c = methods_done _ c.loop-index.invariant c.loop-index-test.false
