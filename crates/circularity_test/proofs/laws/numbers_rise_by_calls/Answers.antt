use Rattle.circularity_test.proofs.RisingLemmas.{continued_rises}
use Rattle.circularity_test.proofs.laws.numbers_rise_by_calls.Goals as goal

pub returns : goal.returns
returns c = continued_rises
