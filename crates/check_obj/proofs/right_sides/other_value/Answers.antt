use Rattle.std.proofs.Common.{refl}
use Rattle.std.proofs.lemmas.Result.{IfOk-weaker}
use Rattle.abs_tree.specs.SyntaxViews.{expr_tree}
use Rattle.check_obj.proofs.SideLemmas.{found_there, no_call_known, other_type}
use Rattle.check_obj.proofs.right_sides.other_value.Goals as goal

pub returns-clause-found : goal.returns-clause-found
returns-clause-found c context knows =
    let other = no_call_known c.args.value.now knows c.requires in
    rw (other_type context.declarations context.frame (expr_tree context.names c.args.value.now) other).0
    (c.expression.ensures.found _ knows)

pub returns-clause-noted : goal.returns-clause-noted
returns-clause-noted c context knows =
    let other = no_call_known c.args.value.now knows c.requires in
    rw (other_type context.declarations context.frame (expr_tree context.names c.args.value.now) other).1
    (c.expression.ensures.noted _ knows)

pub returns-clause-there : goal.returns-clause-there
returns-clause-there c =
    IfOk-weaker c.expression.result _ _ found_there (c.expression.ensures.found _ (record { is = refl }))
