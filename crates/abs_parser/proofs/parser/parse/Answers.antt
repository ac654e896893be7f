use Rattle.std.proofs.Common.{[], sym, subst, ap, length, arith}
use Rattle.abs_tree.specs.Limits.{table_limit}
use Rattle.abs_tree.specs.SourceNumbers.{IsNumberedWhole}
use Rattle.abs_parser.proofs.sizes.NumberLemmas.{tree_is_numbered}
use Rattle.abs_parser.specs.Views.{spot}
use Rattle.abs_parser.proofs.reader.ResultLemmas.{error_passed_on}
use Rattle.abs_parser.proofs.reader.FoundLemmas.{found_few}
use Rattle.abs_parser.proofs.reader.StepLemmas.{refused_inside}
use Rattle.abs_parser.proofs.reader.WholeSteps.{program_begins, over_heading, over_import, over_declarations, over_block, heading_refused, import_refused, declarations_refused, block_refused, stops_from, ProgramFound, program_found, text_found, names_found, variables_found, bodies_found, fields_found, statements_found, few_at, few_tokens}
use Rattle.abs_parser.proofs.parser.parse.Goals as goal

pub returns-in_err-import_at-clause-refused : goal.returns-in_err-import_at-clause-refused
returns-in_err-import_at-clause-refused c =
    error_passed_on _ c.from_residual.result c.from_residual.ensures.1
    (stops_from _ c.new.ensures (heading_refused _ (program_begins [] _) c.in_err-import_at.ensures))

pub import_line-requires : goal.import_line-requires
import_line-requires c =
    let few = found_few c.in_ok-import_at.ensures in
    let names = ap length c.new-symbols.ensures in
    let tokens = few_at c.new.result in
    record { names = omega arith }

pub returns-in_err-first-clause-refused : goal.returns-in_err-first-clause-refused
returns-in_err-first-clause-refused c =
    let so = over_heading (program_begins _ _) c.in_ok-import_at.ensures in
    error_passed_on _ c.from_residual-in_err-first.result c.from_residual-in_err-first.ensures.1
    (stops_from _ c.new.ensures (import_refused _ so c.in_err-first.ensures))

pub declarations-requires-clause-names : goal.declarations-requires-clause-names
declarations-requires-clause-names c =
    let heading = found_few c.in_ok-import_at.ensures in
    let imported = found_few c.in_ok-first.ensures in
    let names = ap length c.new-symbols.ensures in
    let tokens = few_at c.new.result in
    omega arith

pub returns-in_err-declarations-clause-refused : goal.returns-in_err-declarations-clause-refused
returns-in_err-declarations-clause-refused c =
    let so = over_import (over_heading (program_begins _ _) c.in_ok-import_at.ensures) c.in_ok-first.ensures in
    error_passed_on _ c.from_residual-in_err-declarations.result c.from_residual-in_err-declarations.ensures.1
    (stops_from _ c.new.ensures (declarations_refused _ so c.in_err-declarations.ensures.refused))

pub block-requires-clause-names : goal.block-requires-clause-names
block-requires-clause-names c =
    let heading = found_few c.in_ok-import_at.ensures in
    let imported = found_few c.in_ok-first.ensures in
    let declarations = found_few c.in_ok-declarations.ensures.found in
    let names = ap length c.new-symbols.ensures in
    let tokens = few_at c.new.result in
    omega arith

pub returns-in_err-main-clause-refused : goal.returns-in_err-main-clause-refused
returns-in_err-main-clause-refused c =
    let so = over_declarations (over_import (over_heading (program_begins _ _) c.in_ok-import_at.ensures)
    c.in_ok-first.ensures) c.in_ok-declarations.ensures.found in
    error_passed_on _ c.from_residual-in_err-main.result c.from_residual-in_err-main.ensures.1
    (stops_from _ c.new.ensures (block_refused _ so c.in_err-main.ensures.parses))

pub returns-in_err-finish-clause-refused : goal.returns-in_err-finish-clause-refused
returns-in_err-finish-clause-refused c =
    let so = over_declarations (over_import (over_heading (program_begins _ _) c.in_ok-import_at.ensures)
    c.in_ok-first.ensures) c.in_ok-declarations.ensures.found in
    error_passed_on _ c.from_residual-in_err-finish.result c.from_residual-in_err-finish.ensures.1
    (stops_from _ c.new.ensures (refused_inside (over_block so c.in_ok-main.ensures.parses) _
    c.in_err-finish.ensures.refused))

pub invariant_of-result : goal.invariant_of-result
invariant_of-result c =
    let found = program_found c.in_ok-declarations.declarations.items c.in_ok-main.main c.new-symbols.ensures
    c.new.ensures c.in_ok-import_at.ensures
    c.in_ok-first.ensures c.in_ok-declarations.ensures.found c.in_ok-declarations.ensures.free
    c.in_ok-main.ensures.parses c.in_ok-finish.ensures.found in
    let tokens = few_tokens c.new.result c.new.ensures in
    let statements = statements_found (spot c.in_ok-declarations.main_at) (spot c.in_ok-main.end) c.block.new.symbols
    c.in_ok-declarations.declarations.items c.in_ok-main.main c.new.ensures c.in_ok-import_at.ensures
    c.in_ok-first.ensures c.in_ok-declarations.ensures.free c.in_ok-main.ensures.free c.in_ok-declarations.ensures.few
    c.in_ok-main.ensures.few in
    record {
      few_names = omega (arith, found.read.few);
      few_statements = omega (arith, statements);
      few_slots = bodies_found table_limit found (omega arith);
      few_fields = fields_found table_limit found (omega arith);
    }

-- the program that was found
found_program : (c : goal.After-result-1)
    → ProgramFound c.args.list.now c.block.new.symbols c.in_ok-declarations.declarations.items c.in_ok-main.main
found_program c =
    program_found c.in_ok-declarations.declarations.items c.in_ok-main.main c.new-symbols.ensures c.new.ensures
    c.in_ok-import_at.ensures c.in_ok-first.ensures
    c.in_ok-declarations.ensures.found c.in_ok-declarations.ensures.free c.in_ok-main.ensures.parses
    c.in_ok-finish.ensures.found

pub returns-clause-found : goal.returns-clause-found
returns-clause-found c = text_found (found_program c)

pub returns-clause-numbered : goal.returns-clause-numbered
returns-clause-numbered c =
    let found = text_found (found_program c) in
    subst IsNumberedWhole (sym found.is) (tree_is_numbered found.forest)

pub returns-clause-names : goal.returns-clause-names
returns-clause-names c = names_found (found_program c)

pub returns-clause-few_symbols : goal.returns-clause-few_symbols
returns-clause-few_symbols c = omega (arith, (found_program c).read.few, few_tokens c.new.result c.new.ensures)

pub returns-clause-few_statements : goal.returns-clause-few_statements
returns-clause-few_statements c =
    let statements = statements_found (spot c.in_ok-declarations.main_at) (spot c.in_ok-main.end) c.block.new.symbols
    c.in_ok-declarations.declarations.items c.in_ok-main.main c.new.ensures c.in_ok-import_at.ensures
    c.in_ok-first.ensures c.in_ok-declarations.ensures.free c.in_ok-main.ensures.free c.in_ok-declarations.ensures.few
    c.in_ok-main.ensures.few in
    omega (arith, few_tokens c.new.result c.new.ensures, statements)

pub returns-clause-few_variables : goal.returns-clause-few_variables
returns-clause-few_variables c = omega (arith, few_tokens c.new.result c.new.ensures, variables_found (found_program c))
