use Rattle.std.proofs.Common.{◌∙◌, [], ap, take}
use Rattle.abs_names.specs.Scopes.{body_scope}
use Rattle.abs_names.specs.TypeNames.{Around}
use Rattle.abs_names.specs.Visible.{Names}
use Rattle.abs_names.specs.declared.scope.Routine.TheVariants.{Main}
use Rattle.abs_names.proofs.BothLemmas.{around_both, spaces_noted}
use Rattle.abs_names.proofs.resolver.walk_after.Goals as goal

pub returns-clause-scope : goal.returns-clause-scope
returns-clause-scope c =
    let first_names = ap (λ (ns : Names). ns.before) c.in_ok-around.ensures.names in
    let after = ap (λ (ns : Names). ns.after) c.in_ok-next.ensures.names
    ∙ ap (λ (ns : Names). ns.after) c.in_ok-around.ensures.names in
    c.new-2.ensures.scope
    ∙ ap (λ (a : Around). body_scope a Main [] [])
    (around_both c.args.prelude.now c.args.source.now c.in_ok-around.ensures.around first_names
    (c.read.ensures.before ∙ ap (take c.args.readable) after) (c.read.ensures.around ∙ c.in_ok-next.ensures.around)
    c.in_ok-next.ensures.next c.in_ok-declarations.ensures.around)

pub returns-clause-first : goal.returns-clause-first
returns-clause-first c =
    let first_names = ap (λ (ns : Names). ns.before) c.in_ok-around.ensures.names in
    let after = ap (λ (ns : Names). ns.after) c.in_ok-next.ensures.names
    ∙ ap (λ (ns : Names). ns.after) c.in_ok-around.ensures.names in
    c.new-2.ensures.first
    ∙ spaces_noted c.args.prelude.now c.args.source.now c.in_ok-around.ensures.around first_names
    (c.read.ensures.before ∙ ap (take c.args.readable) after) (c.read.ensures.around ∙ c.in_ok-next.ensures.around)
    c.in_ok-next.ensures.next c.in_ok-next.ensures.noted c.in_ok-declarations.ensures.noted
