use Rattle.std.proofs.Common.{sym, ◌∙◌, ap}
use Rattle.future_cells.proofs.SearchLemmas.{has-able_tasks}
use Rattle.future_cells.specs.Ready.{KeptReady}
use Rattle.future_cells.specs.TaskSets.{has}
use Rattle.future_cells.proofs.ready.Ready.contains.Goals as goal

pub returns : goal.returns
returns c =
    let kept = c.self.inside in
    rw (← c.deref.ensures.value) c.has_event.ensures
    ∙ sym (has-able_tasks kept.posts.posts kept.holders.items c.args.task)
    ∙ ap (λ (ready : KeptReady). has ready.tasks c.args.task) c.self.view_is
