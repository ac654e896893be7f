use Rattle.std.proofs.Common.{List, None, refl, ap}
use Rattle.abs_tree.specs.Syntax.{Name, ExprTrees, NextExpr, SideTree, GetOf, CallOf}
use Rattle.abs_tree.specs.Names.{name_of}
use Rattle.abs_tree.specs.declared.syntax.expression.Expr.{Expr}
use Rattle.abs_tree.specs.SyntaxViews.{expr_tree}
use Rattle.abs_parser.specs.TreesOf.{selected_in}
use Rattle.abs_parser.specs.Views.{spot}
use Rattle.abs_parser.proofs.reader.RightSideSteps.{named_call_found, found_same, get_found, refused_selected, selected_named}
use Rattle.abs_parser.proofs.reader.ResultLemmas.{passed_on}
use Rattle.abs_parser.proofs.reader.StepLemmas.{refused_inside}
use Rattle.abs_parser.proofs.right_sides.selected.Goals as goal

pub returns-in-Some : goal.returns-in-Some
returns-in-Some c = found_same (λ names.
    ap (λ (expr : Expr). GetOf c.args.place c.in-Some.token.place (expr_tree names expr)) c.in_ok-new.ensures.ok)
    (get_found c.args.depth c.args.symbols.now c.args.place c.args.first c.in-Some.ensures.found c.requires.depth)

pub returns-in_err-name : goal.returns-in_err-name
returns-in_err-name c =
    passed_on _ _ c.from_residual-in_err-name.result c.from_residual-in_err-name.ensures.1
    (refused_selected c.args.depth (spot c.args.from) _ c.in_default.ensures.other c.in_err-name.ensures.refused)

pub returns-in_err-arguments : goal.returns-in_err-arguments
returns-in_err-arguments c =
    passed_on _ _ c.from_residual-in_err-arguments.result c.from_residual-in_err-arguments.ensures.1
    (refused_inside (selected_named c.args.depth c.args.symbols.now c.in_ok-name.ensures.found c.requires.depth
    c.in_ok-method.ensures.names) _ c.in_err-arguments.ensures)

pub returns : goal.returns
returns c =
    let method = c.in_ok-method.ensures in
    let made : List Name → Name → ExprTrees
    → SideTree = λ names name arguments.
    CallOf c.args.place name (NextExpr (expr_tree names c.args.first) arguments) None in
    found_same (λ names. ap (λ (operands : ExprTrees). CallOf c.args.place (name_of names c.in_ok-method.method) operands None)
    (c.in_ok-operands_of.ensures names))
    (named_call_found c.args.symbols.now c.in_ok-method.method c.in_ok-arguments.arguments made
    (λ names. selected_in c.args.place (expr_tree names c.args.first))
    (selected_named c.args.depth c.args.symbols.now c.in_ok-name.ensures.found c.requires.depth method.names)
    method.symbol method.names c.in_ok-arguments.ensures (λ names inside. refl))
