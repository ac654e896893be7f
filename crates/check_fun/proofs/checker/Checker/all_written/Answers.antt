use Rattle.std.proofs.Common.{List, Some, subst}
use Rattle.std.proofs.lemmas.List.{take_all}
use Rattle.abs_tree.specs.SyntaxViews.{type_trees}
use Rattle.abs_tree.specs.declared.syntax.types.TypeTerm.{TypeTerm}
use Rattle.abs_types.specs.PlainTypes.{plains}
use Rattle.check_fun.proofs.SchemeLemmas.{one_more_found, so_far_next, terms_more}
use Rattle.check_fun.specs.Contexts.{FindsAll}
use Rattle.check_fun.proofs.checker.Checker.all_written.Goals as goal

pub loop-term-preserved : goal.loop-term-preserved
loop-term-preserved c =
    so_far_next c.loop-term.invariant c.written.ensures.first c.written.ensures.stays
    (λ context knows before. one_more_found c.written.ensures.stays before (c.in_ok-written.ensures.found context knows)
    c.in_ok-push.ensures.items
    (terms_more context.names c.args.terms.now c.loop-term.term-index c.term-item.result c.loop-term-test.true
    c.term-item.is))

pub returns-clause-found : goal.returns-clause-found
returns-clause-found c context knows =
    subst (λ (terms : List TypeTerm). FindsAll c.loop-term.self (Some c.loop-term.found.items)
    (Some (plains (type_trees context.names terms))))
    (take_all c.loop-term.term-index c.args.terms.now c.loop-term-test.false)
    (c.loop-term.invariant.found context knows)
