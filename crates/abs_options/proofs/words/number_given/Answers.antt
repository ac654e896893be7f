-- The getter reads by `u64`'s own `FromStr`.
use Rattle.std.specs.Str.Parse.{ExplainsUnsignedError, HasUnsignedDigitsIfOk, ParsesUnsigned}
use Rattle.abs_options.proofs.GetterLemmas.{number-read}
use Rattle.abs_options.proofs.words.number_given.Goals as goal

pub returns : goal.returns
returns c = λ words most are is. number-read words c.args.matches.now are _
    (λ text r. ParsesUnsigned 64 10 text r × ExplainsUnsignedError 10 text r × HasUnsignedDigitsIfOk text r) c.args.name.now most
    c.get_one.result is (λ text r gives. gives.0) c.get_one.ensures.none c.get_one.ensures.value
