use Rattle.std.proofs.Common.{true, false}
use Rattle.abs_tree.specs.declared.syntax.statement.Test.{Test}
use Rattle.abs_parser.specs.Views.{spot}
use Rattle.abs_parser.proofs.reader.ResultLemmas.{passed_on}
use Rattle.abs_parser.proofs.reader.GuardSteps.{test_refused, question_found, question_left_out, test_found}
use Rattle.abs_parser.proofs.guards.test.Goals as goal

pub returns-in_err-value : goal.returns-in_err-value
returns-in_err-value c =
    passed_on _ _ c.from_residual.result c.from_residual.ensures.1
    (test_refused c.args.depth (spot c.args.from) _ c.in_err-value.ensures)

pub returns-in_default : goal.returns-in_default
returns-in_default c =
    let test : Test = record { place = c.place-place.result; value = c.in_ok-value-2.value; asks = false } in
    test_found test c.place-place.ensures c.in_ok-value-2.ensures.ok c.in_ok-value.ensures
    (question_left_out c.args.depth _ (spot c.in_ok-value.after) c.in_default.ensures.other)

pub returns : goal.returns
returns c =
    let test : Test = record { place = c.place-place.result; value = c.in_ok-value-2.value; asks = true } in
    test_found test c.place-place.ensures c.in_ok-value-2.ensures.ok c.in_ok-value.ensures
    (question_found c.args.depth _ c.in-Some.ensures.found c.requires.depth)
