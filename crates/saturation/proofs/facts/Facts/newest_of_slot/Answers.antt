-- The newest fact with the key of a slot is the latest of all of that slot.
use Rattle.std.proofs.Common.{length, ap, ◌∙◌}
use Rattle.saturation.proofs.LatestLemmas.{latest_of_all, latest_of_slot}
use Rattle.saturation.specs.Links.{has_key, latest}
use Rattle.saturation.specs.declared.key.Key.TheVariants as key
use Rattle.saturation.proofs.facts.Facts.newest_of_slot.Goals as goal

pub returns : goal.returns
returns c =
    latest_of_slot c.args.kind.now c.args.slot c.args.self.now (length c.args.self.now) c.newest.result
    (latest_of_all c.args.self.now (key.Slot c.args.kind.now c.args.slot) c.newest.result
    (c.newest.ensures ∙ ap (λ kind. latest (has_key (key.Slot kind c.args.slot)) c.args.self.now) c.copied.ensures))
