use Rattle.std.proofs.Common.{sym, ◌∙◌}
use Rattle.std.proofs.lemmas.Option.{IfSome_then}
use Rattle.future_cells.proofs.ItemLemmas.{IfNone-then}
use Rattle.future_cells.proofs.SearchLemmas.{IsFirstOf-same, has-none, is_free_able-no_entries}
use Rattle.future_cells.proofs.ready.Ready.next.Goals as goal

pub returns-clause-some : goal.returns-clause-some
returns-clause-some c =
    IfSome_then c.next_free.result c.next_free.ensures.some (λ task first.
    IsFirstOf-same _ _ c.args.from task (is_free_able-no_entries _ _ _ _ _ c.self.view_is) first)

pub returns-clause-none : goal.returns-clause-none
returns-clause-none c =
    IfNone-then c.next_free.result c.next_free.ensures.none (λ none.
    has-none _ (λ task. sym (is_free_able-no_entries _ _ _ _ _ c.self.view_is task) ∙ none task))
