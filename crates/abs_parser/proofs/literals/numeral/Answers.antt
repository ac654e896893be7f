use Rattle.std.proofs.Common.{rules}
use Rattle.abs_parser.proofs.grammar.DigitLemmas.{numeral_of}
use Rattle.abs_parser.proofs.literals.numeral.Goals as goal
use Rattle.list_facts.proofs.DigitLemmas.{IsUtf8-digits}

pub unreachable-requires : goal.unreachable-requires
unreachable-requires c =
    let numeral = numeral_of c.requires.number in
    search (rules, c.parse.ensures.value, numeral)

pub unreachable-requires-in-Err : goal.unreachable-requires-in-Err
unreachable-requires-in-Err c = c.in-Err.ensures.cases.0 (IsUtf8-digits c.args.digits.now c.requires.number.digits)
