use Rattle.std.proofs.Common.{arith}
use Rattle.std.proofs.lemmas.Result.{IfOk-weaker}
use Rattle.abs_parser.specs.Views.{spot}
use Rattle.abs_parser.proofs.reader.MemberSteps.{refused_type, member_typed, member_named, member_found}
use Rattle.abs_parser.proofs.reader.ResultLemmas.{parses_further, passed_on}
use Rattle.abs_parser.proofs.reader.FoundLemmas.{found_few}
use Rattle.abs_parser.proofs.reader.StepLemmas.{refused_inside}
use Rattle.abs_parser.proofs.classes.member.Goals as goal

pub returns-in_err-type_of-clause-parses : goal.returns-in_err-type_of-clause-parses
returns-in_err-type_of-clause-parses c =
    passed_on _ _ c.from_residual.result c.from_residual.ensures.1
    (refused_type 0 (spot c.args.from) _ c.in_err-type_of.ensures)

pub returns-in_err-name-clause-parses : goal.returns-in_err-name-clause-parses
returns-in_err-name-clause-parses c =
    passed_on _ _ c.from_residual-in_err-name.result c.from_residual-in_err-name.ensures.1
    (refused_inside (member_typed c.in_ok-type_of.ensures) _ c.in_err-name.ensures.refused)

pub intern-requires : goal.intern-requires
intern-requires c =
    let few = found_few c.in_ok-type_of.ensures in
    omega arith

pub member_tail-requires-clause-names : goal.member_tail-requires-clause-names
member_tail-requires-clause-names c =
    let few = (member_named c.in_ok-type_of.ensures c.in_ok-name.ensures.found c.in_ok-intern.ensures.names
    (omega arith)).few in
    omega arith

pub member_tail-requires-clause-few : goal.member_tail-requires-clause-few
member_tail-requires-clause-few c =
    let shorter = (member_named c.in_ok-type_of.ensures c.in_ok-name.ensures.found c.in_ok-intern.ensures.names
    (omega arith)).shorter in
    omega arith

pub returns-clause-parses : goal.returns-clause-parses
returns-clause-parses c =
    let name = c.in_ok-intern.ensures in
    let named = member_named c.in_ok-type_of.ensures c.in_ok-name.ensures.found name.names (omega arith) in
    parses_further _ _ c.member_tail.result
    (λ found. member_found c.args.index c.in_ok-type_of.type_of c.in_ok-intern.field-0 found.0 c.in_ok-type_of.ensures
    c.in_ok-name.ensures.found name.symbol name.names (omega arith))
    (λ error. refused_inside named error) c.member_tail.ensures.parses

pub returns-clause-few : goal.returns-clause-few
returns-clause-few c =
    let shorter = (member_named c.in_ok-type_of.ensures c.in_ok-name.ensures.found c.in_ok-intern.ensures.names
    (omega arith)).shorter in
    IfOk-weaker c.member_tail.result _ _ (λ found few. omega arith) c.member_tail.ensures.few
