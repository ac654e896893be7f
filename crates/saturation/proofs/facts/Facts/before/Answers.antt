-- The link of a fact gives the latest one before it with a key that it has.
use Rattle.std.proofs.Common.{subst, take}
use Rattle.saturation.proofs.LinkLemmas.{found_of, latest_own, latest_future, link_read}
use Rattle.saturation.specs.Keys.{IsOf}
use Rattle.saturation.specs.Links.{AreLinks}
use Rattle.saturation.proofs.facts.Facts.before.Goals as goal

pub returns-in-Future : goal.returns-in-Future
returns-in-Future c =
    let links = c.self.inside.earlier.items in
    let linked = subst (λ facts. AreLinks facts links) c.self.view_is c.self.invariant.links_are in
    let found = found_of c.args.self.now c.args.index (IsOf c.args.key.now) c.requires in
    let link = c.index-earlier.result.now in
    latest_future (take c.args.index c.args.self.now) found.0 c.args.key.now c.in-Future.field-0 link
    (link_read c.args.self.now links c.args.index link found.0 linked c.index-earlier.ensures found.1) found.2
    c.in-Future.is

pub returns-in_default : goal.returns-in_default
returns-in_default c =
    let links = c.self.inside.earlier.items in
    let linked = subst (λ facts. AreLinks facts links) c.self.view_is c.self.invariant.links_are in
    let found = found_of c.args.self.now c.args.index (IsOf c.args.key.now) c.requires in
    let link = c.index-earlier.result.now in
    latest_own (take c.args.index c.args.self.now) found.0 c.args.key.now link
    (link_read c.args.self.now links c.args.index link found.0 linked c.index-earlier.ensures found.1) found.2
    c.in_default.not-Future
