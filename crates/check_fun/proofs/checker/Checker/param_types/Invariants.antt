use Rattle.std.proofs.Common.{Some, map, take}
use Rattle.abs_tree.specs.SyntaxViews.{param_tree}
use Rattle.abs_types.specs.Schemes.{param_types}
use Rattle.check_fun.proofs.SchemeLemmas.{SoFar}
use Rattle.check_fun.specs.Contexts.{Context, FindsAll}
use Rattle.check_fun.proofs.checker.Checker.param_types.Given as goal

abbrev pub invariant-loop-param : goal.invariant-loop-param
invariant-loop-param l = SoFar l.fn.self l.self (λ (context : Context). FindsAll l.self (Some l.found.items)
    (Some (param_types (map (param_tree context.names) (take l.param-index l.params)))))
