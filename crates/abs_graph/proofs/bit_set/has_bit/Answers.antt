use Rattle.std.proofs.Common.{sym, arith}
use Rattle.std.proofs.lemmas.Grind.{common_steps}
use Rattle.std.proofs.lemmas.Option.{gets}
use Rattle.abs_graph.proofs.BitSetLemmas.{word_has-read, word_has-past}
use Rattle.abs_graph.proofs.bit_set.has_bit.Goals as goal

pub returns-in-Some : goal.returns-in-Some
returns-in-Some c =
    word_has-read c.args.words.now c.args.number c.in-Some.word.now (grind (arith, common_steps, gets))

pub returns-in-None : goal.returns-in-None
returns-in-None c =
    sym (word_has-past c.args.words.now c.args.number (grind (arith, common_steps, gets)))
