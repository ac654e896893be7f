use Rattle.std.proofs.Common.{refl}
use Rattle.abs_tree.specs.SyntaxViews.{expr_tree}
use Rattle.contract_infer.proofs.FoundReadsLemmas.{found_step, found_all}
use Rattle.contract_infer.proofs.reads.reads_of_initials.Goals as goal

pub loop-expr-preserved : goal.loop-expr-preserved
loop-expr-preserved c names =
    let expr = c.expr-item.result in
    found_step expr (expr_tree names expr.value) c.in_ok-reads_of.field-0 (c.loop-expr.invariant names)
    c.loop-expr-test.true c.expr-item.is (λ others. refl) (rw (← c.deref.ensures) (c.in_ok-reads_of.ensures names))
    c.in_ok-push.ensures.items

pub returns : goal.returns
returns c names = found_all (c.loop-expr.invariant names) c.loop-expr-test.false refl
