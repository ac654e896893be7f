use Rattle.std.proofs.Common.{arith}
use Rattle.abs_parser.specs.Views.{spot}
use Rattle.abs_parser.proofs.reader.NameListSteps.{first_name_so_far, next_name_so_far, refused_next_name, all_names_found}
use Rattle.abs_parser.proofs.reader.ResultLemmas.{passed_on}
use Rattle.abs_parser.proofs.reader.FoundLemmas.{token_shorter}
use Rattle.abs_parser.proofs.names.more_names.Goals as goal

pub loop-name_at-init : goal.loop-name_at-init
loop-name_at-init c = record {
  read =
      first_name_so_far c.args.symbols.now (spot c.args.from) c.args.first c.in_ok-listed.ensures.items;
}

pub returns-in_err-name : goal.returns-in_err-name
returns-in_err-name c =
    passed_on _ _ c.from_residual-in_err-name.result c.from_residual-in_err-name.ensures.1
    (refused_next_name 0 _ c.loop-name_at.invariant.read c.in-Some.ensures.found (omega arith)
    c.in_err-name.ensures.refused)

pub intern-requires : goal.intern-requires
intern-requires c = let few = c.loop-name_at.invariant.read.few in omega arith

pub loop-name_at-smaller : goal.loop-name_at-smaller
loop-name_at-smaller c =
    let comma = token_shorter c.in-Some.ensures.found.takes in
    let name = token_shorter c.in_ok-name.ensures.found.takes in
    omega arith

pub loop-name_at-preserved : goal.loop-name_at-preserved
loop-name_at-preserved c = record {
  read = next_name_so_far c.in_ok-name-2.name c.loop-name_at.invariant.read c.in_ok-push.ensures.items
      c.in-Some.ensures.found c.in_ok-name.ensures.found c.in_ok-name-2.ensures.symbol
      c.in_ok-name-2.ensures.names;
}

pub returns : goal.returns
returns c = all_names_found 0 c.loop-name_at.invariant.read c.in_default.ensures.other (omega arith)
