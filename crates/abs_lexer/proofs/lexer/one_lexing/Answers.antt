use Rattle.abs_lexer.proofs.LawLemmas.{one_lexing}
use Rattle.abs_lexer.proofs.lexer.one_lexing.Goals as goal

pub returns : goal.returns
returns c = one_lexing
