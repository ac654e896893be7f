use Rattle.abs_parser.proofs.stop.OutcomeLemmas.{each_text}
use Rattle.abs_parser.proofs.laws.one_outcome.Goals as goal

pub returns : goal.returns
returns c = each_text
