use Rattle.std.proofs.Common.{Some, take}
use Rattle.abs_tree.specs.SyntaxViews.{type_trees}
use Rattle.abs_types.specs.PlainTypes.{plains}
use Rattle.check_fun.proofs.SchemeLemmas.{SoFar}
use Rattle.check_fun.specs.Contexts.{Context, FindsAll}
use Rattle.check_fun.proofs.checker.Checker.all_written.Given as goal

abbrev pub invariant-loop-term : goal.invariant-loop-term
invariant-loop-term l = SoFar l.fn.self l.self (λ (context : Context). FindsAll l.self (Some l.found.items)
    (Some (plains (type_trees context.names (take l.term-index l.terms)))))
