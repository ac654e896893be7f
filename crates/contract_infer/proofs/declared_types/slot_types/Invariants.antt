use Rattle.std.proofs.Common.{List, Some, map}
use Rattle.abs_tree.specs.Syntax.{Name, ParamTree}
use Rattle.abs_tree.specs.SyntaxViews.{param_tree}
use Rattle.contract_infer.proofs.AddLemmas.{AddedSoFar}
use Rattle.contract_infer.proofs.declared_types.slot_types.Given as goal

-- the types of the parameters so far were added
abbrev pub invariant-loop-param : goal.invariant-loop-param
invariant-loop-param l =
    (names : List Name)
    → AddedSoFar names (λ items. map (λ (param : ParamTree). Some param.type_of) (map (param_tree names) items))
    l.params l.param-index l.initial.slots l.slots
