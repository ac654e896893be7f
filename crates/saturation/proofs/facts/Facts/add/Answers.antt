-- A fact that is added is found by its keys.
use Rattle.std.proofs.Common.{ap, sym, ◌∙◌, [], ◌∷◌, ◌++◌, if◌then◌else◌, is_ok}
use Rattle.std.specs.Option.{option_copied}
use Rattle.saturation.proofs.LinkLemmas.{linked_kept, linked_push}
use Rattle.saturation.proofs.facts.Facts.add.Goals as goal

pub invariant_of-self-then-put : goal.invariant_of-self-then-put
invariant_of-self-then-put c =
    let was = c.self.inside in
    let room = c.make_room.new in
    linked_push room.facts.keys c.put.new.facts.keys c.args.fact c.unwrap.result.now c.len-index.result room.newest
    c.link-links.new.newest room.earlier.items c.push.new.self.items c.link-links.result
    (linked_kept was.facts.keys room.facts.keys was.newest room.newest was.earlier.items room.earlier.items
    c.self.invariant c.make_room.ensures.facts c.make_room.ensures.newest c.make_room.ensures.earlier)
    c.if-put.ensures c.len-index.ensures.len (sym c.get_index.ensures.key ∙ ap option_copied c.unwrap.ensures)
    c.link-links.ensures.links c.link-links.ensures.newest
    (c.push.ensures.items
    ∙ ap (λ pushed. if is_ok pushed then room.earlier.items ++ c.link-links.result ∷ [] else room.earlier.items)
    c.unwrap-then-put.ensures)
