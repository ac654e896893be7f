use Rattle.std.proofs.Common.{map, take, Some}
use Rattle.abs_types.specs.PlainTypes.{plain}
use Rattle.check_fun.proofs.SchemeLemmas.{SoFar}
use Rattle.check_fun.specs.Contexts.{Context, FindsAll}
use Rattle.contract_infer.specs.DeclaredTypes.{type_trees_at}
use Rattle.contract_infer.proofs.indices.field_indices.Given as goal

-- the types so far were found
abbrev pub invariant-loop-term : goal.invariant-loop-term
invariant-loop-term l = SoFar l.fn.checker l.checker (λ (context : Context). FindsAll l.checker (Some l.fields.items)
    (Some (map plain (type_trees_at context.names (take l.term-index l.types)))))
