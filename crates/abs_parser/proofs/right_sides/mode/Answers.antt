use Rattle.abs_parser.specs.Views.{spot}
use Rattle.abs_parser.proofs.reader.RightSideSteps.{cog_found, local_found, plain_found}
use Rattle.abs_parser.proofs.right_sides.mode.Goals as goal

pub returns-in-Some : goal.returns-in-Some
returns-in-Some c = record { found = λ depth within. cog_found depth c.args.symbols.now c.in-Some.ensures.found within }

pub returns-in-Some-accept_name : goal.returns-in-Some-accept_name
returns-in-Some-accept_name c =
    record {
      found = λ depth within.
          local_found depth c.args.symbols.now c.in-Some-accept_name.ensures.found c.in_ok-intern.ensures.names within;
    }

pub returns : goal.returns
returns c = record {
  found = λ depth within.
      plain_found depth c.args.symbols.now (spot c.args.from) c.in_default.ensures.other
      c.in_default-accept_name.ensures.other;
}
