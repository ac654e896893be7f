use Rattle.std.proofs.Common.{refl}
use Rattle.std.proofs.lemmas.Option.{IfSome_then}
use Rattle.config_state.specs.ConfigViews.{configuration}
use Rattle.future_cells.proofs.ItemLemmas.{IfNone-then}
use Rattle.future_cells.proofs.OrderLemmas.{next_in_code, none_of_ready}
use Rattle.future_cells.proofs.order.next_after.Goals as goal
use Rattle.run_history.specs.Turns.{Continues}

pub returns-then-goes_on-clause-some : goal.returns-then-goes_on-clause-some
returns-then-goes_on-clause-some c program names tasks_are =
    Continues c.args.last refl (c.if-goes_on.ensures program names tasks_are)

pub returns-clause-some : goal.returns-clause-some
returns-clause-some c program names tasks_are =
    IfSome_then c.next.result c.next.ensures.some (λ task first.
    next_in_code program names c.args.config.now c.args.ready.now c.args.last task tasks_are c.requires.there
    (c.if-goes_on.ensures program names tasks_are) first)

pub returns-clause-none : goal.returns-clause-none
returns-clause-none c program names tasks_are =
    IfNone-then c.next.result c.next.ensures.none (λ none some.
    none_of_ready program (configuration names c.args.config.now) c.args.ready.now tasks_are none some)
