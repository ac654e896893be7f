use Rattle.std.proofs.Common.{◌≡◌, length, refl, sym, ap, ◌∙◌, arith, rules}
use Rattle.std.proofs.lemmas.Option.{slice_get_read}
use Rattle.future_cells.proofs.ItemLemmas.{set-found, take-written}
use Rattle.future_cells.proofs.PostLemmas.{AreFiled-goers, AreFiled-waiters, AreFiled-changed}
use Rattle.future_cells.specs.Posts.{goes_by, waits_by}
use Rattle.future_cells.proofs.posts.Posts.stand.Goals as goal

pub change-requires-clause-goers : goal.change-requires-clause-goers
change-requires-clause-goers c =
    let items = c.self.inside.items.items in
    let there = rw (← c.self.view_is) at c.requires.there in
    let is = slice_get_read items (length items) c.args.task c.index.result.now refl there c.index.ensures in
    rw c.deref_mut.ensures.value
    (λ cog. AreFiled-goers items c.self.inside.goers.items c.self.inside.waiters.items c.self.invariant cog c.args.task
    ∙ ap (goes_by cog) is)

pub change-requires-clause-waiters : goal.change-requires-clause-waiters
change-requires-clause-waiters c =
    let items = c.self.inside.items.items in
    let there = rw (← c.self.view_is) at c.requires.there in
    let is = slice_get_read items (length items) c.args.task c.index.result.now refl there c.index.ensures in
    rw c.deref_mut-then-ne.ensures.value
    (λ future. AreFiled-waiters items c.self.inside.goers.items c.self.inside.waiters.items c.self.invariant future
    c.args.task
    ∙ ap (waits_by future) is)

pub change-requires-clause-cog_there : goal.change-requires-clause-cog_there
change-requires-clause-cog_there c =
    let items = c.self.inside.items.items in
    let there = rw (← c.self.view_is) at c.requires.there in
    let is = slice_get_read items (length items) c.args.task c.index.result.now refl there c.index.ensures in
    rw c.deref_mut.ensures.value (c.self.invariant.cogs_there c.args.task c.index.result.now is)

pub invariant_of-self : goal.invariant_of-self
invariant_of-self c =
    let items = c.self.inside.items.items in
    let goers = c.self.inside.goers.items in
    let waiters = c.self.inside.waiters.items in
    let there = rw (← c.self.view_is) at c.requires.there in
    let is = slice_get_read items (length items) c.args.task c.index.result.now refl there c.index.ensures in
    let goers_is = c.deref_mut.ensures.value in
    let waiters_is = c.deref_mut-then-ne.ensures.value in
    let goers_long = rw goers_is at c.change.ensures.goers_length in
    let waiters_long = rw waiters_is at c.change.ensures.waiters_length in
    let go = rw goers_is at c.change.ensures.goers in
    let wait = rw waiters_is at c.change.ensures.waiters in
    let future_there = rw (← c.self.view_is) at c.requires.future_there in
    let goers_now = take-written c.change.new.goers goers c.self.inside.goers.len goers_long (omega arith) in
    let waiters_now = take-written c.change.new.waiters waiters c.self.inside.waiters.len waiters_long (omega arith) in
    rw (goers_now, waiters_now)
    (AreFiled-changed items goers waiters c.change.new.goers c.change.new.waiters c.args.task c.index.result.now
    (record { cog = c.index.result.now.cog; standing = c.args.standing }) c.self.invariant is
    (c.self.invariant.cogs_there c.args.task c.index.result.now is) future_there goers_long waiters_long go wait)

pub returns-then-ne-clause-posts : goal.returns-then-ne-clause-posts
returns-then-ne-clause-posts c =
    let items = c.self.inside.items.items in
    let there = rw (← c.self.view_is) at c.requires.there in
    let is = slice_get_read items (length items) c.args.task c.index.result.now refl there c.index.ensures in
    rw (← c.self.view_is, is) refl

pub returns-else-ne-clause-posts : goal.returns-else-ne-clause-posts
returns-else-ne-clause-posts c =
    let items = c.self.inside.items.items in
    let there = rw (← c.self.view_is) at c.requires.there in
    let is = slice_get_read items (length items) c.args.task c.index.result.now refl there c.index.ensures in
    let same : c.index.result.now.standing ≡ c.args.standing = search rules in
    rw (← c.self.view_is, is, ← same) (sym (set-found items c.args.task c.index.result.now is))
