use Rattle.abs_names.proofs.NewestLemmas.{newest_declaration}
use Rattle.abs_names.proofs.laws.newest_declaration.Goals as goal

pub returns : goal.returns
returns c = newest_declaration
