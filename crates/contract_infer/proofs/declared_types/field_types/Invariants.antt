use Rattle.std.proofs.Common.{List, [], map}
use Rattle.abs_tree.specs.Syntax.{Name, ParamTree}
use Rattle.abs_tree.specs.SyntaxViews.{member_tree, param_tree}
use Rattle.contract_terms.specs.BodyContexts.{field_type_trees}
use Rattle.contract_infer.specs.DeclaredTypes.{type_trees_at}
use Rattle.list_facts.proofs.AddedLemmas.{AddedToSoFar}
use Rattle.contract_infer.proofs.declared_types.field_types.Given as goal

-- the types of the parameters so far were added
abbrev pub invariant-loop-param : goal.invariant-loop-param
invariant-loop-param l =
    (names : List Name)
    → AddedToSoFar (λ items. map (λ (param : ParamTree). param.type_of) (map (param_tree names) items)) [] l.params
    l.param-index (type_trees_at names l.found.items)

-- the types of the fields so far were added
abbrev pub invariant-loop-member : goal.invariant-loop-member
invariant-loop-member l =
    (names : List Name)
    → AddedToSoFar (λ items. field_type_trees (map (member_tree names) items))
    (type_trees_at names l.initial.found.items) l.members l.member-index (type_trees_at names l.found.items)
