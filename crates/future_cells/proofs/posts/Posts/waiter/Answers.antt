use Rattle.std.proofs.Common.{length, List, ℕ, refl, sym, ap, ◌∙◌}
use Rattle.std.proofs.lemmas.Option.{slice_get_read}
use Rattle.future_cells.specs.TaskSets.{has}
use Rattle.future_cells.proofs.ItemLemmas.{IfNone-then}
use Rattle.future_cells.proofs.posts.Posts.waiter.Goals as goal

pub returns-clause-none : goal.returns-clause-none
returns-clause-none c =
    let waiters = c.self.inside.waiters.items in
    let there = rw (← c.self.view_is, ← c.self.invariant.waiters_for_each) at c.requires in
    let set = slice_get_read waiters (length waiters) c.args.future c.index.result.now refl there c.index.ensures in
    rw (← c.self.view_is)
    (IfNone-then c.first.result c.first.ensures.none
    (λ none task. sym (c.self.invariant.waiters_are c.args.future c.index.result.now set task)
    ∙ ap (λ (tasks : List ℕ). has tasks task) none))
