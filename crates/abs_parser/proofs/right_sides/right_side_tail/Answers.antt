use Rattle.std.proofs.Common.{List, refl, ap, arith}
use Rattle.abs_tree.specs.Syntax.{Name, ExprTrees, NextExpr, SideTree, SendOf}
use Rattle.abs_tree.specs.Names.{name_of}
use Rattle.abs_tree.specs.SyntaxViews.{expr_tree}
use Rattle.abs_parser.specs.TreesOf.{tail_in}
use Rattle.abs_parser.specs.Views.{spot}
use Rattle.abs_parser.proofs.reader.RightSideSteps.{named_call_found, found_same, dot_begins, selected_found, send_begins, send_named, value_found}
use Rattle.abs_parser.proofs.reader.ResultLemmas.{parses_further, passed_on}
use Rattle.abs_parser.proofs.reader.StepLemmas.{refused_inside}
use Rattle.abs_parser.proofs.right_sides.right_side_tail.Goals as goal

pub returns-in_err-name : goal.returns-in_err-name
returns-in_err-name c =
    passed_on _ _ c.from_residual.result c.from_residual.ensures.1
    (refused_inside (send_begins c.args.depth c.args.symbols.now c.in-Some.ensures.found c.requires.depth) _
    c.in_err-name.ensures.refused)

pub arguments-requires-clause-names : goal.arguments-requires-clause-names
arguments-requires-clause-names c =
    let few = (send_named c.args.depth c.args.symbols.now c.in-Some.ensures.found c.in_ok-name.ensures.found
    c.requires.depth c.in_ok-method.ensures.names).few in
    omega arith

pub returns-in_err-arguments : goal.returns-in_err-arguments
returns-in_err-arguments c =
    let named = send_named c.args.depth c.args.symbols.now c.in-Some.ensures.found c.in_ok-name.ensures.found
    c.requires.depth c.in_ok-method.ensures.names in
    passed_on _ _ c.from_residual-in_err-arguments.result c.from_residual-in_err-arguments.ensures.1
    (refused_inside named _ c.in_err-arguments.ensures)

pub returns-in-Some : goal.returns-in-Some
returns-in-Some c =
    let method = c.in_ok-method.ensures in
    let made : List Name → Name → ExprTrees
    → SideTree = λ names name arguments. SendOf c.args.place name (NextExpr (expr_tree names c.args.first) arguments) in
    found_same (λ names. ap (λ (operands : ExprTrees). SendOf c.args.place (name_of names c.in_ok-method.method) operands)
    (c.in_ok-operands.ensures names))
    (named_call_found c.args.symbols.now c.in_ok-method.method c.in_ok-arguments.arguments made
    (λ names. tail_in c.args.place (expr_tree names c.args.first))
    (send_named c.args.depth c.args.symbols.now c.in-Some.ensures.found c.in_ok-name.ensures.found c.requires.depth
    method.names) method.symbol method.names c.in_ok-arguments.ensures (λ names inside. refl))

pub returns-in_default-accept : goal.returns-in_default-accept
returns-in_default-accept c =
    value_found c.args.depth c.args.symbols.now (spot c.args.from) c.args.place c.args.first c.in_ok-new.field-0.value
    c.in_ok-new.ensures.ok c.in_default.ensures.other c.in_default-accept.ensures.other

pub returns : goal.returns
returns c =
    parses_further _ _ c.selected.result
    (λ found. selected_found c.args.place c.args.first found.0 c.in-Some-accept.ensures.found c.requires.depth)
    (λ error. refused_inside (dot_begins c.args.depth c.args.symbols.now c.in-Some-accept.ensures.found
    c.requires.depth) error) c.selected.ensures
