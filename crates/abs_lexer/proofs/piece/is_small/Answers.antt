use Rattle.std.proofs.Common.{◌∙◌, arith}
use Rattle.abs_lexer.proofs.piece.is_small.Goals as goal
use Rattle.list_facts.proofs.DigitLemmas.{IsUtf8-digits, parses_small, few_are_small}

pub returns-then-digits-le-SURELY_SMALL : goal.returns-then-digits-le-SURELY_SMALL
returns-then-digits-le-SURELY_SMALL c = few_are_small c.args.digits.now c.requires.digits (omega arith)

pub returns-in-Ok : goal.returns-in-Ok
returns-in-Ok c =
    let parses = rw c.in-Ok.ensures.cases.0 at c.parse.ensures.value.0 in
    c.is_ok.ensures.value ∙ parses_small c.args.digits.now c.parse.result c.requires.digits c.requires.some parses

pub returns-in-Err : goal.returns-in-Err
returns-in-Err c = absurd (c.in-Err.ensures.cases.0 (IsUtf8-digits c.args.digits.now c.requires.digits))
