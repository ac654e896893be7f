use Rattle.std.proofs.Common.{arith}
use Rattle.abs_parser.specs.Views.{spot}
use Rattle.abs_parser.proofs.reader.LocalSteps.{local_begins, local_typed, local_named, local_found}
use Rattle.abs_parser.proofs.reader.ResultLemmas.{passed_on}
use Rattle.abs_parser.proofs.reader.FoundLemmas.{found_few}
use Rattle.abs_parser.proofs.reader.StepLemmas.{over_part, refused_inside}
use Rattle.abs_parser.proofs.simple_statements.variable_declaration.Goals as goal

pub returns-in_err-type_of-clause-parses : goal.returns-in_err-type_of-clause-parses
returns-in_err-type_of-clause-parses c =
    passed_on _ _ c.from_residual.result c.from_residual.ensures.1
    (refused_inside (local_begins c.args.depth c.args.symbols.now (spot c.args.from) c.requires.begins) _
    c.in_err-type_of.ensures)

pub returns-in_err-name-clause-parses : goal.returns-in_err-name-clause-parses
returns-in_err-name-clause-parses c =
    passed_on _ _ c.from_residual-in_err-name.result c.from_residual-in_err-name.ensures.1
    (refused_inside (local_typed c.requires.begins c.in_ok-type_of.ensures) _ c.in_err-name.ensures.refused)

pub intern-requires : goal.intern-requires
intern-requires c =
    let few = found_few c.in_ok-type_of.ensures in
    omega arith

pub initial-requires-clause-names : goal.initial-requires-clause-names
initial-requires-clause-names c =
    let few = (local_named c.requires.begins c.in_ok-type_of.ensures c.in_ok-name.ensures.found
    c.in_ok-intern.ensures.names c.in_ok-name.ensures.within).few in
    omega arith

pub returns-in_err-initial-clause-parses : goal.returns-in_err-initial-clause-parses
returns-in_err-initial-clause-parses c =
    let named = local_named c.requires.begins c.in_ok-type_of.ensures c.in_ok-name.ensures.found
    c.in_ok-intern.ensures.names c.in_ok-name.ensures.within in
    passed_on _ _ c.from_residual-in_err-initial.result c.from_residual-in_err-initial.ensures.1
    (refused_inside named _ c.in_err-initial.ensures)

pub returns-in_err-end-clause-parses : goal.returns-in_err-end-clause-parses
returns-in_err-end-clause-parses c =
    let named = local_named c.requires.begins c.in_ok-type_of.ensures c.in_ok-name.ensures.found
    c.in_ok-intern.ensures.names c.in_ok-name.ensures.within in
    passed_on _ _ c.from_residual-in_err-end.result c.from_residual-in_err-end.ensures.1
    (refused_inside (over_part named c.in_ok-initial.ensures) _ c.in_err-end.ensures.refused)

pub returns-clause-parses : goal.returns-clause-parses
returns-clause-parses c =
    local_found c.args.index c.in_ok-type_of.type_of c.in_ok-intern.field-0 c.in_ok-initial.initial c.requires.begins
    c.place.ensures c.in_ok-type_of.ensures c.in_ok-name.ensures.found
    c.in_ok-intern.ensures.symbol c.in_ok-intern.ensures.names c.in_ok-initial.ensures c.in_ok-end.ensures.found
    c.in_ok-name.ensures.within
