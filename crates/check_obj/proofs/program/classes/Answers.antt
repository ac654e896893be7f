use Rattle.std.proofs.Common.{refl}
use Rattle.abs_types.specs.TypeOffences.{class_offences, class_offences_in}
use Rattle.check_obj.proofs.ProgramLemmas.{declarations_begin, declarations_end, declarations_next, own_declaration, rows_kept, slots_at}
use Rattle.check_obj.proofs.program.classes.Goals as goal

pub loop-index-init : goal.loop-index-init
loop-index-init c =
    declarations_begin {offences_in = class_offences_in} (λ declarations. record {
      none = λ index. refl;
      more = λ index first others. refl;
    })

pub class-requires-clause-rows : goal.class-requires-clause-rows
class-requires-clause-rows c = rows_kept c.loop-index.invariant.keeps c.requires

pub class-requires-clause-there : goal.class-requires-clause-there
class-requires-clause-there c =
    own_declaration c.args.checker.now c.loop-index.checker c.loop-index.index c.in_ok-in_32_bits.field-0
    c.declaration-item.result c.deref-declaration-items.result.now c.loop-index.invariant.keeps c.loop-index-test.true
    c.declaration-item.is c.in_ok-in_32_bits.ensures c.deref-declaration-items.ensures.value

pub class-requires-clause-slots : goal.class-requires-clause-slots
class-requires-clause-slots c =
    let program = c.args.checker.now.table.program.now in
    rw c.loop-index.invariant.keeps.program_is
    (slots_at program.symbols c.deref-declaration-items.result.now c.loop-index.index c.declaration-item.result
    (rw c.deref-declaration-items.ensures.value program.methods_have_slots) c.loop-index-test.true
    c.declaration-item.is)

pub loop-index-preserved : goal.loop-index-preserved
loop-index-preserved c =
    declarations_next {offences_in = class_offences_in} c.in_ok-in_32_bits.field-0 c.declaration-item.result
    (λ declarations. record { none = λ index. refl; more = λ index first others. refl }) c.loop-index.invariant
    c.loop-index-test.true c.declaration-item.is c.in_ok-in_32_bits.ensures c.in_ok-class.ensures.noted
    c.in_ok-class.ensures.keeps

pub returns-clause-noted : goal.returns-clause-noted
unfolding class_offences
returns-clause-noted c =
    declarations_end c.loop-index.invariant c.loop-index-test.false c.deref-declaration-items.ensures.value
