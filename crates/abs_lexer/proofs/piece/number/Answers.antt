use Rattle.std.specs.Char.{is_ascii_digit}
use Rattle.abs_lexer.proofs.piece.number.Goals as goal
use Rattle.list_facts.proofs.PrefixLemmas.{run_passes}

pub is_small-requires-clause-digits : goal.is_small-requires-clause-digits
is_small-requires-clause-digits c =
    rw (c.split_at.ensures.front, c.digits.ensures.count) (run_passes is_ascii_digit c.args.bytes.now)
