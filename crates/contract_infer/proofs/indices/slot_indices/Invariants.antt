use Rattle.std.proofs.Common.{map, option_map, take}
use Rattle.abs_types.specs.PlainTypes.{plain}
use Rattle.check_fun.proofs.SchemeLemmas.{SoFar}
use Rattle.check_fun.specs.Contexts.{Context}
use Rattle.contract_infer.proofs.IndexLemmas.{FindSlots}
use Rattle.contract_infer.specs.DeclaredTypes.{maybe_types}
use Rattle.contract_infer.proofs.indices.slot_indices.Given as goal

-- the types so far were found
abbrev pub invariant-loop-term : goal.invariant-loop-term
invariant-loop-term l = SoFar l.fn.checker l.checker (λ (context : Context). FindSlots l.checker l.slots.items
    (map (option_map plain) (maybe_types context.names (take l.term-index l.types))))
