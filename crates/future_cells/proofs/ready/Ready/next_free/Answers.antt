use Rattle.std.proofs.Common.{sym, ◌∙◌}
use Rattle.std.proofs.lemmas.Option.{IfSome_then}
use Rattle.future_cells.proofs.ItemLemmas.{IfNone-then}
use Rattle.future_cells.proofs.SearchLemmas.{IsFirstOf-same, is_free_able-is, seated-first, seated-none}
use Rattle.future_cells.proofs.ready.Ready.next_free.Goals as goal

pub returns-then-from-self-clause-some : goal.returns-then-from-self-clause-some
returns-then-from-self-clause-some c =
    let kept = c.self.inside in
    IfSome_then c.next_seated.result c.next_seated.ensures.some (λ task first.
    IsFirstOf-same _ _ c.args.from task (is_free_able-is _ _ _ _ _ c.self.view_is c.args.busy.now)
    (seated-first kept.posts.posts kept.holders.items c.args.from kept.candidates.seats
    (rw c.if-from-self.true c.self.invariant.0) c.args.busy.now task first))

pub returns-then-from-self-clause-none : goal.returns-then-from-self-clause-none
returns-then-from-self-clause-none c =
    let kept = c.self.inside in
    IfNone-then c.next_seated.result c.next_seated.ensures.none (λ none task.
    sym (is_free_able-is _ _ _ _ _ c.self.view_is c.args.busy.now task)
    ∙ seated-none kept.posts.posts kept.holders.items kept.last kept.candidates.seats c.self.invariant.0
    c.args.busy.now none task)

pub returns-else-from-self-clause-some : goal.returns-else-from-self-clause-some
returns-else-from-self-clause-some c =
    IfSome_then c.next_by_index.result c.next_by_index.ensures.some (λ task first.
    IsFirstOf-same _ _ c.args.from task
    (λ other. rw c.deref.ensures.value (is_free_able-is _ _ _ _ _ c.self.view_is c.args.busy.now other)) first)

pub returns-else-from-self-clause-none : goal.returns-else-from-self-clause-none
returns-else-from-self-clause-none c =
    IfNone-then c.next_by_index.result c.next_by_index.ensures.none (λ none task.
    sym (is_free_able-is _ _ _ _ _ c.self.view_is c.args.busy.now task) ∙ rw (← c.deref.ensures.value) (none task))
