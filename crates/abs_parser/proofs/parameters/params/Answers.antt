use Rattle.std.proofs.Common.{arith}
use Rattle.abs_parser.specs.Views.{spot}
use Rattle.abs_parser.proofs.reader.ListSteps.{first_so_far, next_so_far, all_so_far, refused_first, refused_next}
use Rattle.abs_parser.proofs.reader.ParameterSteps.{list_of_params, trees_of_params, param_in_front}
use Rattle.abs_parser.proofs.reader.ResultLemmas.{passed_on}
use Rattle.abs_parser.proofs.reader.FoundLemmas.{token_shorter, found_shorter}
use Rattle.abs_parser.proofs.parameters.params.Goals as goal

pub returns-in_err-first : goal.returns-in_err-first
returns-in_err-first c =
    passed_on _ _ c.from_residual.result c.from_residual.ensures.1
    (refused_first list_of_params 0 (spot c.args.from) _ c.in_err-first.ensures)

pub loop-after-init : goal.loop-after-init
loop-after-init c = record {
  read = first_so_far list_of_params trees_of_params c.in_ok-params.ensures.items
      (param_in_front c.in_ok-first.first c.in_ok-first.ensures);
}

pub param-requires-in-Some : goal.param-requires-in-Some
param-requires-in-Some c =
    let few = c.loop-after.invariant.read.read.few in
    let comma = token_shorter c.in-Some.ensures.found.takes in
    omega arith

pub returns-in_err-next : goal.returns-in_err-next
returns-in_err-next c =
    passed_on _ _ c.from_residual-in_err-next.result c.from_residual-in_err-next.ensures.1
    (refused_next c.loop-after.invariant.read c.in-Some.ensures.found (omega arith) _ c.in_err-next.ensures)

pub loop-after-smaller : goal.loop-after-smaller
loop-after-smaller c =
    let comma = token_shorter c.in-Some.ensures.found.takes in
    let param = found_shorter c.in_ok-next.ensures in
    omega arith

pub loop-after-preserved : goal.loop-after-preserved
loop-after-preserved c = record {
  read = next_so_far c.loop-after.invariant.read c.in_ok-push.ensures.items c.in-Some.ensures.found (omega arith)
      (param_in_front c.in_ok-next.next c.in_ok-next.ensures);
}

pub returns : goal.returns
returns c = all_so_far c.loop-after.invariant.read c.in_default.ensures.other
