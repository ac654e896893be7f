use Rattle.abs_lexer.proofs.SpanLemmas.{block_end_is}
use Rattle.abs_lexer.proofs.span.block.Goals as goal

pub returns-clause-count : goal.returns-clause-count
returns-clause-count c = block_end_is c.args.bytes.now c.find.result c.find.ensures
