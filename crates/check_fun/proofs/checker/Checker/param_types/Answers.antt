use Rattle.std.proofs.Common.{List, Some, map, subst}
use Rattle.std.proofs.lemmas.List.{take_all}
use Rattle.abs_tree.specs.SyntaxViews.{param_tree}
use Rattle.abs_tree.specs.declared.syntax.declaration.Param.{Param}
use Rattle.abs_types.specs.Schemes.{param_types}
use Rattle.check_fun.proofs.SchemeLemmas.{one_more_found, params_more, so_far_next}
use Rattle.check_fun.specs.Contexts.{FindsAll}
use Rattle.check_fun.proofs.checker.Checker.param_types.Goals as goal

pub loop-param-preserved : goal.loop-param-preserved
loop-param-preserved c =
    so_far_next c.loop-param.invariant c.written.ensures.first c.written.ensures.stays
    (λ context knows before. one_more_found c.written.ensures.stays before (c.in_ok-written.ensures.found context knows)
    c.in_ok-push.ensures.items
    (params_more context.names c.args.params.now c.loop-param.param-index c.param-item.result c.loop-param-test.true
    c.param-item.is))

pub returns-clause-found : goal.returns-clause-found
returns-clause-found c context knows =
    subst (λ (params : List Param). FindsAll c.loop-param.self (Some c.loop-param.found.items)
    (Some (param_types (map (param_tree context.names) params))))
    (take_all c.loop-param.param-index c.args.params.now c.loop-param-test.false)
    (c.loop-param.invariant.found context knows)
