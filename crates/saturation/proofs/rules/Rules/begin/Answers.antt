-- The initial values of a new object are gone through.
use Rattle.saturation.specs.RuleViews.{program_of, terms_of}
use Rattle.saturation.proofs.MadeLemmas.{object_kept, object_put, object_was_there}
use Rattle.saturation.proofs.MakeLemmas.{makes_again, makes_ended, makes_new}
use Rattle.saturation.proofs.StepLemmas.{adds_nothing}
use Rattle.std.proofs.Common.{refl}
use Rattle.saturation.proofs.rules.Rules.begin.Goals as goal

pub returns-then-added : goal.returns-then-added
returns-then-added c =
    let own = c.args.self.now in
    makes_new (program_of own) (terms_of own) own.depth c.args.sign.now c.args.class
    (object_put c.args.made.now.keys c.insert.new.self.keys c.copied.result c.args.sign.now c.args.class c.in-Ok.added
    c.copied.ensures c.in-Ok.ensures.added c.in-Ok.ensures.keys c.if-added.true) c.begin_all.ensures

pub returns-else-added : goal.returns-else-added
returns-else-added c =
    let own = c.args.self.now in
    let made = c.args.made.now.keys in
    let now = c.insert.new.self.keys in
    makes_again (program_of own) (terms_of own) own.depth c.args.sign.now c.args.class
    (object_kept made now c.copied.result c.args.sign.now c.args.class c.in-Ok.added c.copied.ensures
    c.in-Ok.ensures.added c.in-Ok.ensures.keys c.if-added.false)
    (object_was_there made now c.copied.result c.args.sign.now c.args.class c.in-Ok.added c.copied.ensures
    c.in-Ok.ensures.added c.in-Ok.ensures.keys c.if-added.false) (adds_nothing _ _ refl)

pub returns-in-Err : goal.returns-in-Err
returns-in-Err c =
    let own = c.args.self.now in
    makes_ended (program_of own) (terms_of own) own.depth c.in-Err.ensures.err c.fail.ensures.adds c.fail.ensures.ended
