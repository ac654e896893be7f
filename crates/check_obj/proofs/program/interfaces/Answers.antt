use Rattle.std.proofs.Common.{refl}
use Rattle.abs_types.specs.TypeOffences.{interface_offences, interface_offences_in}
use Rattle.check_fun.proofs.ContextLemmas.{stays_reflexive, stays_transitive}
use Rattle.check_obj.proofs.ProgramLemmas.{declarations_begin, declarations_end, declarations_next, own_declaration, rows_kept, several_kept}
use Rattle.check_obj.proofs.program.interfaces.Goals as goal

pub loop-index-init : goal.loop-index-init
loop-index-init c = (
  declarations_begin {offences_in = interface_offences_in} (λ declarations. record {
    none = λ index. refl;
    more = λ index first others. refl;
  }),
  stays_reflexive,
)

pub interface-requires-clause-rows : goal.interface-requires-clause-rows
interface-requires-clause-rows c = rows_kept c.loop-index.invariant.1.keeps c.requires

pub interface-requires-clause-several : goal.interface-requires-clause-several
interface-requires-clause-several c = several_kept c.loop-index.invariant.1.keeps c.in_ok-several.ensures

pub interface-requires-clause-there : goal.interface-requires-clause-there
interface-requires-clause-there c =
    own_declaration c.args.checker.now c.loop-index.checker c.loop-index.index c.in_ok-in_32_bits.field-0
    c.declaration-item.result c.deref-declaration-items.result.now c.loop-index.invariant.1.keeps c.loop-index-test.true
    c.declaration-item.is c.in_ok-in_32_bits.ensures c.deref-declaration-items.ensures.value

pub loop-index-preserved : goal.loop-index-preserved
loop-index-preserved c = (
  declarations_next {offences_in = interface_offences_in} c.in_ok-in_32_bits.field-0 c.declaration-item.result
      (λ declarations. record { none = λ index. refl; more = λ index first others. refl }) c.loop-index.invariant.0
      c.loop-index-test.true c.declaration-item.is c.in_ok-in_32_bits.ensures c.in_ok-interface.ensures.noted
      c.in_ok-interface.ensures.stays.keeps,
  stays_transitive c.loop-index.invariant.1 c.in_ok-interface.ensures.stays,
)

pub returns-clause-noted : goal.returns-clause-noted
unfolding interface_offences
returns-clause-noted c =
    declarations_end c.loop-index.invariant.0 c.loop-index-test.false c.deref-declaration-items.ensures.value
