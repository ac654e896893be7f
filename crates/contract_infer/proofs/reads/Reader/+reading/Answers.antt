use Rattle.std.proofs.Common.{◌≡◌, ◌⊎◌, List, inl, inr, ap, ◌∙◌}
use Rattle.std.specs.declared.alloc.Global.{Global}
use Rattle.std.specs.declared.vec.Vec.{Vec}
use Rattle.abs_tree.proofs.SyntaxLemmas.{expr_tree-operators, expr_tree-own_call, expr_tree-apply}
use Rattle.abs_tree.proofs.SyntaxLemmas.{expr_tree-build, expr_tree-case}
use Rattle.abs_tree.specs.Syntax.{Name}
use Rattle.abs_tree.specs.SyntaxViews.{expr_tree, expr_trees}
use Rattle.abs_tree.specs.declared.place.Place.{Place}
use Rattle.abs_tree.specs.declared.symbol.Symbol.{Symbol}
use Rattle.abs_tree.specs.declared.syntax.expression.Expr as code
use Rattle.abs_tree.specs.declared.syntax.expression.Expr.{Expr}
use Rattle.abs_values.specs.References.{Reads, ReadsInAny, ReadsInOperand, ReadsInBranch}
use Rattle.contract_infer.proofs.CollectingLemmas.{Notes-both, noted_step, noted_all}
use Rattle.contract_infer.specs.Collecting.{Notes}
use Rattle.contract_infer.specs.declared.reads.Reader.{Reader}
use Rattle.contract_infer.proofs.reads.Reader.+reading.Goals as goal

pub both-returns : goal.both-returns
both-returns t c names = Notes-both (c.expression.ensures names) (c.expression-2.ensures names)

pub expressions-loop-expr-preserved : goal.expressions-loop-expr-preserved
unfolding ReadsInAny
expressions-loop-expr-preserved t c names =
    noted_step c.expr-item.result (λ location. Reads location (expr_tree names c.expr-item.result))
    (c.loop-expr.invariant names) c.loop-expr-test.true c.expr-item.is (λ others end notes. notes)
    (c.expression.ensures names)

pub expressions-returns : goal.expressions-returns
unfolding ReadsInAny
expressions-returns t c names =
    noted_all (c.loop-expr.invariant names) c.loop-expr-test.false (λ location is_read. is_read)

pub operators-loop-operand-preserved : goal.operators-loop-operand-preserved
unfolding ReadsInOperand
operators-loop-operand-preserved t c names =
    noted_step c.operand-item.result (λ location. Reads location (expr_tree names c.operand-item.result.right))
    (c.loop-operand.invariant names) c.loop-operand-test.true c.operand-item.is (λ others end notes. notes)
    (c.expression-in-loop-operand.ensures names)

pub operators-returns : goal.operators-returns
unfolding ReadsInOperand
operators-returns t c names =
    Notes-both (c.expression.ensures names)
    (noted_all (c.loop-operand.invariant names) c.loop-operand-test.false (λ location is_read. is_read))

pub case-loop-branch-preserved : goal.case-loop-branch-preserved
unfolding ReadsInBranch
case-loop-branch-preserved t c names =
    noted_step c.branch-item.result (λ location. Reads location (expr_tree names c.branch-item.result.value))
    (c.loop-branch.invariant names) c.loop-branch-test.true c.branch-item.is (λ others end notes. notes)
    (c.expression-in-loop-branch.ensures names)

pub case-returns : goal.case-returns
unfolding ReadsInBranch
case-returns t c names =
    Notes-both (c.expression.ensures names)
    (noted_all (c.loop-branch.invariant names) c.loop-branch-test.false (λ location is_read. is_read))

pub expression-returns-in-Variable : goal.expression-returns-in-Variable
unfolding Reads
expression-returns-in-Variable t c names = rw c.in-Variable.is (c.variable.ensures names)

pub expression-returns-in-Let : goal.expression-returns-in-Let
unfolding Reads
expression-returns-in-Let t c names =
    rw (c.in-Let.is, ← c.deref.ensures, ← c.deref-in-Let.ensures) (c.both.ensures names)

pub expression-returns-in-If : goal.expression-returns-in-If
unfolding Reads
expression-returns-in-If t c names =
    rw (c.in-If.is, ← c.deref-in-If.ensures, ← c.deref-in-If-2.ensures, ← c.deref-in-If-3.ensures)
    (Notes-both (c.expression.ensures names) (c.both-in-If.ensures names))

pub expression-returns-in-Operators : goal.expression-returns-in-Operators
unfolding Reads
expression-returns-in-Operators t c names =
    rw (
      ap (expr_tree names) c.in-Operators.is ∙ expr_tree-operators names _ c.in-Operators.first c.in-Operators.operands,
      ← c.deref-in-Operators.ensures,
      ← c.deref-in-Operators-2.ensures.value,
    ) (c.operators.ensures names)

pub expression-returns-in-Prefixed : goal.expression-returns-in-Prefixed
unfolding Reads
expression-returns-in-Prefixed t c names =
    rw (c.in-Prefixed.is, ← c.deref-in-Prefixed.ensures) (c.expression-in-Prefixed.ensures names)

pub expression-returns-in-Case : goal.expression-returns-in-Case
unfolding Reads
expression-returns-in-Case t c names =
    rw (
      ap (expr_tree names) c.in-Case.is ∙ expr_tree-case names _ c.in-Case.subject c.in-Case.branches,
      ← c.deref-in-Case.ensures,
      ← c.deref-in-Case-2.ensures.value,
    ) (c.case.ensures names)

pub expression-returns-in-OwnCall : goal.expression-returns-in-OwnCall
unfolding Reads
expression-returns-in-OwnCall t c names =
    rw (
      ap (expr_tree names) c.in-OwnCall.is ∙ expr_tree-own_call names _ _ c.in-OwnCall.arguments,
      ← c.deref-in-OwnCall.ensures,
      ← c.deref-in-OwnCall-2.ensures.value,
    ) (c.expressions.ensures names)

-- the application of a function or of a constructor reads what its arguments read
applied_reads : (names : List Name) {expr : Expr} (arguments : Vec Expr Global) {old new : Reader}
    → ((place : Place) × (function : Symbol) × (expr ≡ code.Apply place function arguments))
    ⊎ ((place : Place) × (constructor : Symbol) × (expr ≡ code.Build place constructor arguments))
    → Notes old new (λ location. ReadsInAny location (expr_trees names arguments.items))
    → Notes old new (λ location. Reads location (expr_tree names expr))
unfolding Reads
applied_reads names arguments (inl (place, function, is)) notes =
    rw (ap (expr_tree names) is ∙ expr_tree-apply names place function arguments) notes
applied_reads names arguments (inr (place, constructor, is)) notes =
    rw (ap (expr_tree names) is ∙ expr_tree-build names place constructor arguments) notes

pub expression-returns-in-Apply : goal.expression-returns-in-Apply
expression-returns-in-Apply t c names =
    applied_reads names c.in-Apply.arguments c.in-Apply.is
    (rw (← c.deref-in-Apply.ensures.value) (c.expressions-in-Apply.ensures names))
