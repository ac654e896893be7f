use Rattle.std.proofs.Common.{[], ◌∷◌, Bool, map, refl, sym, ap}
use Rattle.abs_program.specs.Holdings.{are_interfaces}
use Rattle.abs_tree.specs.SyntaxViews.{decl_tree}
use Rattle.abs_program.proofs.tables.holders.are_interfaces.Goals as goal
use Rattle.list_facts.proofs.AddedLemmas.{added_to_step, added_to_done}

pub loop-declaration-preserved : goal.loop-declaration-preserved
loop-declaration-preserved c = λ names.
    added_to_step c.declaration-item.result (c.is_interface.result ∷ []) (c.loop-declaration.invariant names)
    c.loop-declaration-test.true c.declaration-item.is c.in_ok-push.ensures.items
    (λ others. ap (λ (is : Bool). is ∷ are_interfaces (map (decl_tree names) others))
    (sym (c.is_interface.ensures names)))

pub returns : goal.returns
returns c = λ names. added_to_done (c.loop-declaration.invariant names) c.loop-declaration-test.false refl
