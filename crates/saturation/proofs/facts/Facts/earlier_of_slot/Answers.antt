-- The link of a fact gives the latest one before it with its key.
use Rattle.std.proofs.Common.{ap, subst}
use Rattle.contract_terms.specs.declared.fact.Fact.TheVariants.{Holds}
use Rattle.saturation.proofs.LatestLemmas.{latest_of_slot, latest_with_key}
use Rattle.saturation.proofs.LinkLemmas.{link_read}
use Rattle.saturation.specs.Links.{AreLinks}
use Rattle.saturation.specs.declared.key.Key.TheVariants as key
use Rattle.saturation.proofs.facts.Facts.earlier_of_slot.Goals as goal

pub returns : goal.returns
returns c kind slot atom there =
    let links = c.self.inside.earlier.items in
    let linked = subst (λ facts. AreLinks facts links) c.self.view_is c.self.invariant.links_are in
    latest_of_slot kind slot c.args.self.now c.args.index c.index.result.now.same_key
    (latest_with_key c.args.self.now (key.Slot kind slot) c.args.index c.index.result.now.same_key
    (ap (λ link. link.same_key)
    (link_read c.args.self.now links c.args.index c.index.result.now (Holds kind slot atom) linked c.index.ensures
    there)))
