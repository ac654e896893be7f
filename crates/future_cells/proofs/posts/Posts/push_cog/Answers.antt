use Rattle.future_cells.proofs.PostLemmas.{AreFiled-more}
use Rattle.future_cells.proofs.posts.Posts.push_cog.Goals as goal

pub invariant_of-self : goal.invariant_of-self
invariant_of-self c =
    rw (c.push_reserved.ensures.items, c.new.ensures)
    (AreFiled-more c.self.inside.items.items c.self.inside.goers.items c.self.inside.waiters.items c.self.invariant)
