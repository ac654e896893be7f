use Rattle.std.proofs.Common.{List, refl, ap, arith}
use Rattle.std.specs.declared.alloc.Global.{Global}
use Rattle.std.specs.declared.vec.Vec.{Vec}
use Rattle.abs_tree.specs.Syntax.{Name, ExprTrees, SideTree, NewOf}
use Rattle.abs_tree.specs.SyntaxViews.{expr_trees}
use Rattle.abs_tree.specs.Names.{name_of}
use Rattle.abs_tree.specs.declared.syntax.expression.Expr.{Expr}
use Rattle.abs_parser.specs.Productions.{Rhs}
use Rattle.abs_parser.specs.Readings.{One}
use Rattle.abs_parser.specs.TreesOf.{rhs_in}
use Rattle.abs_parser.specs.Views.{spot}
use Rattle.abs_parser.proofs.reader.RightSideSteps.{named_call_found, found_same, mode_found, new_opened, new_begins, new_named}
use Rattle.abs_parser.proofs.reader.KeywordSteps.{keyword_refused}
use Rattle.abs_parser.proofs.reader.ResultLemmas.{passed_on}
use Rattle.abs_parser.proofs.reader.StepLemmas.{refused_inside}
use Rattle.abs_parser.proofs.right_sides.new_object.Goals as goal

pub returns-in_err-token : goal.returns-in_err-token
returns-in_err-token c =
    passed_on _ _ c.from_residual.result c.from_residual.ensures.1
    (keyword_refused (One Rhs) c.args.depth (spot c.args.from) _ (new_opened c.args.depth) c.requires.begins
    c.in_err-token.ensures.refused)

pub returns-in_err-name : goal.returns-in_err-name
returns-in_err-name c =
    let begun = new_begins c.in_ok-token.ensures.found
    (c.in_ok-mode.ensures.found c.args.depth c.in_ok-token.ensures.within) c.in_ok-token.ensures.within in
    passed_on _ _ c.from_residual-in_err-name.result c.from_residual-in_err-name.ensures.1
    (refused_inside begun _ c.in_err-name.ensures.refused)

pub intern-requires : goal.intern-requires
intern-requires c =
    let few = (new_begins c.in_ok-token.ensures.found
    (c.in_ok-mode.ensures.found c.args.depth c.in_ok-token.ensures.within) c.in_ok-token.ensures.within).few in
    omega arith

pub arguments-requires-clause-names : goal.arguments-requires-clause-names
arguments-requires-clause-names c =
    let placed = c.in_ok-mode.ensures.found c.args.depth c.in_ok-token.ensures.within in
    let few = (new_named c.in_ok-token.ensures.found placed c.in_ok-name.ensures.found c.in_ok-token.ensures.within
    c.in_ok-class.ensures.names).few in
    omega arith

pub returns-in_err-arguments : goal.returns-in_err-arguments
returns-in_err-arguments c =
    let placed = c.in_ok-mode.ensures.found c.args.depth c.in_ok-token.ensures.within in
    passed_on _ _ c.from_residual-in_err-arguments.result c.from_residual-in_err-arguments.ensures.1
    (refused_inside (new_named c.in_ok-token.ensures.found placed c.in_ok-name.ensures.found
    c.in_ok-token.ensures.within c.in_ok-class.ensures.names) _ c.in_err-arguments.ensures)

pub returns : goal.returns
returns c =
    let placed = c.in_ok-mode.ensures.found c.args.depth c.in_ok-token.ensures.within in
    let class = c.in_ok-class.ensures in
    let made : List Name → Name → ExprTrees
    → SideTree = λ names. NewOf c.in_ok-token.token.place c.in_ok-mode.mode c.in_ok-name.name.place in
    found_same (λ names. ap (λ (arguments : Vec Expr Global).
    made names (name_of names c.in_ok-class.class) (expr_trees names arguments.items)) c.in_ok-new.ensures.ok)
    (named_call_found c.mode.new.symbols c.in_ok-class.class c.in_ok-arguments.arguments made (λ names. rhs_in)
    (new_named c.in_ok-token.ensures.found placed c.in_ok-name.ensures.found c.in_ok-token.ensures.within class.names)
    class.symbol class.names c.in_ok-arguments.ensures
    (λ names inside. rw (mode_found placed) refl))
