use Rattle.std.proofs.Common.{ap, ◌∙◌}
use Rattle.std.specs.declared.alloc.Global.{Global}
use Rattle.std.specs.declared.vec.Vec.{Vec}
use Rattle.abs_tree.specs.declared.syntax.expression.Expr.{Expr}
use Rattle.check_obj.proofs.right_sides.whole.Goals as goal
use Rattle.abs_tree.proofs.FormLemmas.{own_call_tree}

pub returns-in-OwnCall-clause-found : goal.returns-in-OwnCall-clause-found
returns-in-OwnCall-clause-found c context knows =
    let form = c.in-OwnCall in
    rw (own_call_tree context.names c.args.value.now form.place form.method form.arguments
    c.deref-in-OwnCall.result.now form.is
    (c.deref-in-OwnCall.ensures.value ∙ ap (λ (held : Vec Expr Global). held.items) c.deref.ensures))
    (c.own_call.ensures.found context knows)

pub returns-in-OwnCall-clause-noted : goal.returns-in-OwnCall-clause-noted
returns-in-OwnCall-clause-noted c context knows =
    let form = c.in-OwnCall in
    rw (own_call_tree context.names c.args.value.now form.place form.method form.arguments
    c.deref-in-OwnCall.result.now form.is
    (c.deref-in-OwnCall.ensures.value ∙ ap (λ (held : Vec Expr Global). held.items) c.deref.ensures))
    (c.own_call.ensures.noted context knows)
