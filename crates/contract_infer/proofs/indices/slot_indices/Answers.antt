use Rattle.std.proofs.Common.{option_map, refl}
use Rattle.abs_types.specs.PlainTypes.{plain}
use Rattle.check_fun.proofs.SchemeLemmas.{so_far_next}
use Rattle.check_fun.specs.Contexts.{context_in}
use Rattle.contract_infer.proofs.IndexLemmas.{one_more_slot, slots_found, view_more}
use Rattle.contract_infer.specs.DeclaredTypes.{maybe_type}
use Rattle.contract_infer.proofs.indices.slot_indices.Goals as goal

pub loop-term-preserved : goal.loop-term-preserved
loop-term-preserved c =
    so_far_next c.loop-term.invariant c.in_ok-slot_index.ensures.first c.in_ok-slot_index.ensures.stays
    (λ context knows before. one_more_slot c.in_ok-slot_index.ensures.stays before
    (c.in_ok-slot_index.ensures.found context knows) c.in_ok-push.ensures.items
    (view_more (option_map plain) (maybe_type context.names) c.args.types.now c.loop-term.term-index
    c.term-item.result c.loop-term-test.true c.term-item.is))

pub returns-clause-found : goal.returns-clause-found
returns-clause-found c context knows =
    (slots_found c.args.types.now c.loop-term.invariant c.loop-term-test.false context knows).are

pub returns-clause-among : goal.returns-clause-among
returns-clause-among c =
    (slots_found c.args.types.now c.loop-term.invariant c.loop-term-test.false (context_in c.args.checker.now)
    (record { is = refl })).among
