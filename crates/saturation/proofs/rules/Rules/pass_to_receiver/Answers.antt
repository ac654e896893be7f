use Rattle.saturation.proofs.PassLemmas.{no_receiver, receiver_passed}
use Rattle.saturation.proofs.rules.Rules.pass_to_receiver.Goals as goal

pub returns-in-Some : goal.returns-in-Some
returns-in-Some c =
    receiver_passed _ _ _ _ c.args.receiver.now c.args.argument c.args.atom.now c.in-Some.sign.now
    c.in-Some.ensures.found.0 c.in-Some.ensures.found.1 c.called.result c.called.ensures c.pass.ensures

pub returns-in-None : goal.returns-in-None
returns-in-None c =
    no_receiver _ _ _ _ c.args.receiver.now c.args.argument c.args.atom.now c.in-None.ensures.none c.args.derivation.now
