use Rattle.abs_program.specs.NamedViews.{program_tree}
use Rattle.config_state.specs.ConfigViews.{configuration}
use Rattle.config_state.specs.Views.{frame_state, task_state}
use Rattle.step_rules.proofs.BlockedLemmas.{open_await_by}
use Rattle.step_rules.proofs.enabled.waited_at_await.Goals as goal

pub returns-in-Some-Await : goal.returns-in-Some-Await
returns-in-Some-Await c =
    let names = c.args.program.now.symbols in
    let found = c.first_open.ensures names in
    open_await_by (program_tree c.args.program.now) (configuration names c.args.config.now)
    (task_state names c.args.cell.now) (frame_state names c.in-Some.frame.now) (c.in-Some.ensures names)
    c.in-Some-Await.names.items c.first_open.result (rw c.in-Some-Await.field-0-is at c.in-Some-Await.ensures)
    (rw c.as_slice.ensures.value at found)
