use Rattle.std.proofs.Common.{◌<◌, ◌∙◌, ap, arith, length}
use Rattle.std.proofs.lemmas.Bool.Decides.{nat_tests}
use Rattle.abs_tree.specs.declared.syntax.expression.Expr.{Expr}
use Rattle.abs_tree.specs.Syntax.{OperatorsOf}
use Rattle.abs_tree.specs.SyntaxViews.{expr_tree, operand_trees}
use Rattle.abs_tree.proofs.SyntaxLemmas.{expr_tree-operators}
use Rattle.abs_parser.proofs.grammar.OperatorLemmas.{node_is}
use Rattle.abs_parser.proofs.operators.node.Goals as goal

pub returns : goal.returns
returns c names =
    let some : 0 < length c.args.operands.items = grind (arith, nat_tests, c.args.operands.ok.0) in
    expr_tree-operators names c.args.place c.in_ok-new.field-0 c.args.operands
    ∙ (ap (λ (first : Expr). OperatorsOf c.args.place (expr_tree names first) (operand_trees names c.args.operands.items))
    c.in_ok-new.ensures.ok
    ∙ node_is names c.args.place (expr_tree names c.args.first) c.args.operands.items some)
