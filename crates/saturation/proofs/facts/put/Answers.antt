-- A fact that is inserted goes last, or was there.
use Rattle.std.proofs.lemmas.Result.{IfOk-at_ok}
use Rattle.saturation.proofs.KeyLemmas.{put_is}
use Rattle.saturation.proofs.facts.put.Goals as goal

pub returns : goal.returns
returns c =
    put_is c.args.facts.now.keys c.insert.new.self.keys c.args.fact c.unwrap.result
    (IfOk-at_ok _ c.unwrap.ensures c.insert.ensures.added) (IfOk-at_ok _ c.unwrap.ensures c.insert.ensures.keys)
