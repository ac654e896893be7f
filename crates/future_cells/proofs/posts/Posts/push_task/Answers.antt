use Rattle.std.proofs.Common.{◌≡◌, ◌≤◌, length, ap, ◌∙◌, arith}
use Rattle.std.proofs.lemmas.Option.{slice_get_past}
use Rattle.future_cells.proofs.ItemLemmas.{take-written}
use Rattle.future_cells.proofs.SetLemmas.{has_at-push}
use Rattle.future_cells.proofs.PostLemmas.{AreFiled-goers, AreFiled-waiters, AreFiled-added}
use Rattle.future_cells.specs.Posts.{goes_by, waits_by}
use Rattle.future_cells.proofs.posts.Posts.push_task.Goals as goal

pub enter-requires-clause-goers : goal.enter-requires-clause-goers
enter-requires-clause-goers c =
    let items = c.self.inside.items.items in
    let task = c.len-task.result in
    let past : length c.self.inside.items.items ≤ c.len-task.result = omega arith in
    rw c.deref_mut.ensures.value
    (λ cog. AreFiled-goers items c.self.inside.goers.items c.self.inside.waiters.items c.self.invariant cog task
    ∙ ap (goes_by cog) (slice_get_past items task past))

pub enter-requires-clause-waiters : goal.enter-requires-clause-waiters
enter-requires-clause-waiters c =
    let items = c.self.inside.items.items in
    let waiters = c.self.inside.waiters.items in
    let task = c.len-task.result in
    let past : length c.self.inside.items.items ≤ c.len-task.result = omega arith in
    rw (c.deref_mut-2.ensures.value, c.push_reserved.ensures.items, c.new.ensures)
    (λ future. has_at-push waiters future task
    ∙ (AreFiled-waiters items c.self.inside.goers.items waiters c.self.invariant future task
    ∙ ap (waits_by future) (slice_get_past items task past)))

pub invariant_of-self : goal.invariant_of-self
invariant_of-self c =
    let items = c.self.inside.items.items in
    let goers = c.self.inside.goers.items in
    let waiters = c.self.inside.waiters.items in
    let task_is : c.len-task.result ≡ length c.self.inside.items.items = omega arith in
    let goers_is = c.deref_mut.ensures.value in
    let waiters_is = c.deref_mut-2.ensures.value in
    let waiters_new = rw c.new.ensures at c.push_reserved.ensures.items in
    let goers_long = rw goers_is at c.enter.ensures.goers_length in
    let waiters_long = rw waiters_is at c.enter.ensures.waiters_length in
    let waiters_longer = rw waiters_new at waiters_long in
    let go = rw (goers_is, task_is) at c.enter.ensures.goers in
    let wait = rw (waiters_is, waiters_new, task_is) at c.enter.ensures.waiters in
    let there = rw (← c.self.view_is) at c.requires.cog in
    let goers_now = take-written c.enter.new.goers goers c.self.inside.goers.len goers_long (omega arith) in
    let waiters_now = take-written c.enter.new.waiters c.push_reserved.new.self.items c.push_reserved.new.self.len
    waiters_long (omega arith) in
    rw (goers_now, waiters_now, c.push_reserved-2.ensures.items)
    (AreFiled-added items goers waiters c.enter.new.goers c.enter.new.waiters c.args.cog c.self.invariant there
    goers_long waiters_longer go wait)
