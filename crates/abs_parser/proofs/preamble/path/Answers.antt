use Rattle.std.proofs.Common.{arith}
use Rattle.abs_parser.specs.Views.{spot}
use Rattle.abs_parser.proofs.reader.PreambleSteps.{refused_path, path_begins, refused_dot_name, path_goes_on, path_found}
use Rattle.abs_parser.proofs.reader.ResultLemmas.{passed_on}
use Rattle.abs_parser.proofs.reader.FoundLemmas.{token_shorter}
use Rattle.abs_parser.proofs.preamble.path.Goals as goal

pub returns-in_err-first : goal.returns-in_err-first
returns-in_err-first c =
    passed_on _ _ c.from_residual.result c.from_residual.ensures.1
    (refused_path (spot c.args.from) _ c.in_err-first.ensures.refused)

pub loop-name_at-init : goal.loop-name_at-init
loop-name_at-init c = record { read = path_begins c.in_ok-first.ensures.found c.in_ok-intern.ensures.names }

pub returns-in_err-name : goal.returns-in_err-name
returns-in_err-name c =
    passed_on _ _ c.from_residual-in_err-name.result c.from_residual-in_err-name.ensures.1
    (refused_dot_name _ c.loop-name_at.invariant.read c.in-Some.ensures.found c.in_err-name.ensures.refused)

pub intern-requires-in-Some : goal.intern-requires-in-Some
intern-requires-in-Some c = let few = c.loop-name_at.invariant.read.read.few in omega arith

pub loop-name_at-smaller : goal.loop-name_at-smaller
loop-name_at-smaller c =
    let dot = token_shorter c.in-Some.ensures.found.takes in
    let name = token_shorter c.in_ok-name.ensures.found.takes in
    omega arith

pub loop-name_at-preserved : goal.loop-name_at-preserved
loop-name_at-preserved c = record {
  read =
      path_goes_on c.loop-name_at.invariant.read c.in-Some.ensures.found c.in_ok-name.ensures.found
      c.in_ok-intern-2.ensures.names;
}

pub returns : goal.returns
returns c = path_found c.loop-name_at.invariant.read c.in_default.ensures.other
