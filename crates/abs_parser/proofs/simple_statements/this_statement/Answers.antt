use Rattle.std.proofs.Common.{arith, refl}
use Rattle.abs_tree.specs.SyntaxViews.{statement as statement_tree}
use Rattle.abs_tree.specs.declared.syntax.expression.Expr as code_expr
use Rattle.abs_parser.specs.Productions.{Stmt}
use Rattle.abs_parser.specs.Readings.{One}
use Rattle.abs_parser.specs.Views.{spot}
use Rattle.abs_parser.proofs.reader.KeywordSteps.{keyword_refused}
use Rattle.abs_parser.proofs.reader.FirstSteps.{this_opened, alone_refused, alone_found, field_begins, field_named, field_found}
use Rattle.abs_parser.proofs.reader.ResultLemmas.{parses_further, passed_on}
use Rattle.abs_parser.proofs.reader.StepLemmas.{refused_inside}
use Rattle.abs_parser.proofs.simple_statements.this_statement.Goals as goal

pub returns-in_err-this-clause-parses : goal.returns-in_err-this-clause-parses
returns-in_err-this-clause-parses c =
    passed_on _ _ c.from_residual.result c.from_residual.ensures.1
    (keyword_refused (One Stmt) c.args.depth (spot c.args.from) _ (this_opened c.args.depth) c.requires.begins
    c.in_err-this.ensures.refused)

pub returns-in_err-side-clause-parses : goal.returns-in_err-side-clause-parses
returns-in_err-side-clause-parses c =
    passed_on _ _ c.from_residual-in_err-side.result c.from_residual-in_err-side.ensures.1
    (alone_refused c.args.depth _ c.in_ok-this.ensures.found c.in_ok-this.ensures.within c.in_default.ensures.other
    c.in_err-side.ensures)

pub returns-in_default-clause-parses : goal.returns-in_default-clause-parses
returns-in_default-clause-parses c =
    alone_found c.args.index c.in_ok-this.this.place (code_expr.This c.in_ok-this.this.place) c.in_ok-side.side
    c.in_ok-this.ensures.found c.in_ok-this.ensures.within
    c.in_default.ensures.other refl (λ names. refl) c.in_ok-side.ensures

pub returns-in_err-name-clause-parses : goal.returns-in_err-name-clause-parses
returns-in_err-name-clause-parses c =
    let begun = field_begins c.args.depth c.args.symbols.now c.in_ok-this.ensures.found c.in-Some.ensures.found
    c.in_ok-this.ensures.within in
    passed_on _ _ c.from_residual-in_err-name.result c.from_residual-in_err-name.ensures.1
    (refused_inside begun _ c.in_err-name.ensures.refused)

pub after_name-requires-clause-names : goal.after_name-requires-clause-names
after_name-requires-clause-names c =
    let named = field_named c.args.depth c.args.symbols.now c.in_ok-this.ensures.found c.in-Some.ensures.found
    c.in_ok-name.ensures.found c.in_ok-this.ensures.within
    c.in_ok-symbol.ensures.names in
    omega (arith, named.few)

pub returns-clause-parses : goal.returns-clause-parses
returns-clause-parses c =
    parses_further _ _ c.after_name.result (λ found.
    field_found c.args.index c.args.symbols.now c.in_ok-symbol.symbol (λ names. statement_tree names found.0)
    c.in_ok-this.ensures.found c.in-Some.ensures.found c.in_ok-name.ensures.found
    c.in_ok-this.ensures.within c.in_ok-symbol.ensures.symbol c.in_ok-symbol.ensures.names) (λ error. refused_inside
    (field_named c.args.depth c.args.symbols.now c.in_ok-this.ensures.found c.in-Some.ensures.found
    c.in_ok-name.ensures.found c.in_ok-this.ensures.within
    c.in_ok-symbol.ensures.names) error) c.after_name.ensures.parses
