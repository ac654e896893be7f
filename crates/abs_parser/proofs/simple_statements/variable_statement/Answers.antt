use Rattle.abs_tree.specs.SyntaxViews.{statement as statement_tree}
use Rattle.abs_parser.specs.Views.{spot}
use Rattle.abs_parser.proofs.reader.FirstSteps.{variable_refused, variable_begins, variable_found}
use Rattle.abs_parser.proofs.reader.ResultLemmas.{parses_further, passed_on}
use Rattle.abs_parser.proofs.reader.StepLemmas.{refused_inside}
use Rattle.abs_parser.proofs.simple_statements.variable_statement.Goals as goal

pub returns-in_err-name-clause-parses : goal.returns-in_err-name-clause-parses
returns-in_err-name-clause-parses c =
    passed_on _ _ c.from_residual.result c.from_residual.ensures.1
    (variable_refused c.args.depth (spot c.args.from) _ c.requires.begins c.in_err-name.ensures.refused)

pub returns-clause-parses : goal.returns-clause-parses
returns-clause-parses c =
    parses_further _ _ c.after_name.result (λ found.
    variable_found c.args.index c.args.symbols.now c.in_ok-symbol.symbol (λ names. statement_tree names found.0)
    c.in_ok-name.ensures.found c.in_ok-name.ensures.within
    c.in_ok-symbol.ensures.symbol c.in_ok-symbol.ensures.names) (λ error. refused_inside
    (variable_begins c.args.depth c.args.symbols.now c.in_ok-name.ensures.found c.in_ok-name.ensures.within
    c.in_ok-symbol.ensures.names) error)
    c.after_name.ensures.parses
