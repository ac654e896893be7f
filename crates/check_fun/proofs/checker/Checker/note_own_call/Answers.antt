use Rattle.abs_tree.specs.Names.{name_of}
use Rattle.abs_types.specs.ExpressionOffences.{this_lacks_method}
use Rattle.check_fun.proofs.OwnCallLemmas.{own_call_noted}
use Rattle.check_fun.proofs.checker.Checker.note_own_call.Goals as goal

pub returns-clause-noted : goal.returns-clause-noted
returns-clause-noted c context types knows finds =
    own_call_noted c.args.arguments
    (this_lacks_method context.declarations context.frame (name_of context.names c.args.method) c.args.count)
    c.args.place (c.this_has_method-has_method.ensures context knows) c.is_some.ensures finds c.note_if.ensures.noted
    c.note_if-2.ensures.noted
