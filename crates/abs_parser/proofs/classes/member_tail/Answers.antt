use Rattle.std.proofs.Common.{arith}
use Rattle.abs_tree.specs.declared.syntax.declaration.Signature.{Signature}
use Rattle.abs_parser.specs.Views.{spot}
use Rattle.abs_parser.proofs.reader.MemberSteps.{value_opened, method_opened, refused_tail, tail_begun, field_found, field_with_value_found, method_read, method_found}
use Rattle.abs_parser.proofs.reader.ResultLemmas.{passed_on}
use Rattle.abs_parser.proofs.reader.FoundLemmas.{found_shorter, token_shorter}
use Rattle.abs_parser.proofs.reader.StepLemmas.{over_part, refused_inside}
use Rattle.abs_parser.proofs.classes.member_tail.Goals as goal

pub returns-in-Some-clause-parses : goal.returns-in-Some-clause-parses
returns-in-Some-clause-parses c =
    field_found c.args.index 0 c.args.symbols.now c.args.type_of c.args.name c.in-Some.ensures.found (omega arith)

pub returns-in_err-value-clause-parses : goal.returns-in_err-value-clause-parses
returns-in_err-value-clause-parses c =
    passed_on _ _ c.from_residual.result c.from_residual.ensures.1
    (refused_inside (tail_begun 0 c.args.symbols.now (value_opened 0) c.in-Some-accept.ensures.found (omega arith)) _
    c.in_err-value.ensures)

pub returns-in_err-end-clause-parses : goal.returns-in_err-end-clause-parses
returns-in_err-end-clause-parses c =
    let assigned = tail_begun 0 c.args.symbols.now (value_opened 0) c.in-Some-accept.ensures.found (omega arith) in
    passed_on _ _ c.from_residual-in_err-end.result c.from_residual-in_err-end.ensures.1
    (refused_inside (over_part assigned c.in_ok-value.ensures) _ c.in_err-end.ensures.refused)

pub returns-in-Some-accept-clause-parses : goal.returns-in-Some-accept-clause-parses
returns-in-Some-accept-clause-parses c =
    field_with_value_found c.args.index c.args.type_of c.args.name c.in_ok-new.field-0 c.in_ok-new.ensures.ok
    c.in-Some-accept.ensures.found c.in_ok-value.ensures
    c.in_ok-end.ensures.found (omega arith)

pub returns-in-Some-accept-clause-few : goal.returns-in-Some-accept-clause-few
returns-in-Some-accept-clause-few c =
    let equals = token_shorter c.in-Some-accept.ensures.found.takes in
    let value = found_shorter c.in_ok-value.ensures in
    let semicolon = token_shorter c.in_ok-end.ensures.found.takes in
    omega arith

pub returns-in_err-inside-clause-parses : goal.returns-in_err-inside-clause-parses
returns-in_err-inside-clause-parses c =
    passed_on _ _ c.from_residual-in_err-inside.result c.from_residual-in_err-inside.ensures.1
    (refused_tail 0 (spot c.args.from) _ c.in_default.ensures.other c.in_default-accept.ensures.other
    c.in_err-inside.ensures.refused)

pub returns-in_err-params-clause-parses : goal.returns-in_err-params-clause-parses
returns-in_err-params-clause-parses c =
    passed_on _ _ c.from_residual-in_err-params.result c.from_residual-in_err-params.ensures.1
    (refused_inside (tail_begun 0 c.args.symbols.now (method_opened 0) c.in_ok-inside.ensures.found (omega arith)) _
    c.in_err-params.ensures)

pub returns-in_err-block_at-clause-parses : goal.returns-in_err-block_at-clause-parses
returns-in_err-block_at-clause-parses c =
    let begun = tail_begun 0 c.args.symbols.now (method_opened 0) c.in_ok-inside.ensures.found (omega arith) in
    passed_on _ _ c.from_residual-in_err-block_at.result c.from_residual-in_err-block_at.ensures.1
    (refused_inside (over_part begun c.in_ok-params.ensures) _ c.in_err-block_at.ensures.refused)

pub block-requires-clause-names : goal.block-requires-clause-names
block-requires-clause-names c =
    let few = (method_read c.in_ok-inside.ensures.found c.in_ok-params.ensures c.in_ok-block_at.ensures.found
    (omega arith)).few in
    omega arith

pub block-requires-clause-few : goal.block-requires-clause-few
block-requires-clause-few c =
    let shorter = (method_read c.in_ok-inside.ensures.found c.in_ok-params.ensures c.in_ok-block_at.ensures.found
    (omega arith)).shorter in
    omega arith

pub returns-in_err-body-clause-parses : goal.returns-in_err-body-clause-parses
returns-in_err-body-clause-parses c =
    passed_on _ _ c.from_residual-in_err-body.result c.from_residual-in_err-body.ensures.1
    (refused_inside (method_read c.in_ok-inside.ensures.found c.in_ok-params.ensures c.in_ok-block_at.ensures.found
    (omega arith)) _ c.in_err-body.ensures.parses)

pub returns-clause-parses : goal.returns-clause-parses
returns-clause-parses c =
    let signature : Signature = record { result = c.args.type_of; name = c.args.name; params = c.in_ok-params.params }
    in
    method_found c.args.index signature c.in_ok-body.body c.in_ok-inside.ensures.found c.in_ok-params.ensures
    c.in_ok-block_at.ensures.found c.in_ok-body.ensures.parses (omega arith)

pub returns-clause-few : goal.returns-clause-few
returns-clause-few c =
    let shorter = (method_read c.in_ok-inside.ensures.found c.in_ok-params.ensures c.in_ok-block_at.ensures.found
    (omega arith)).shorter in
    let few = c.in_ok-body.ensures.few in
    omega arith
