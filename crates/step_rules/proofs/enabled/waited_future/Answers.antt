use Rattle.abs_program.specs.NamedViews.{program_tree}
use Rattle.config_state.specs.ConfigViews.{configuration}
use Rattle.config_state.specs.Views.{task_state}
use Rattle.step_rules.proofs.BlockedLemmas.{task_found, waits_at_get, waits_at_await, waits_there, never_waits_there}
use Rattle.step_rules.proofs.enabled.waited_future.Goals as goal

pub returns-in-Running : goal.returns-in-Running
returns-in-Running c =
    let names = c.args.program.now.symbols in
    let program = program_tree c.args.program.now in
    let config = configuration names c.args.config.now in
    let task = task_state names c.at-cell.result.now in
    let there = task_found names c.args.config.now c.args.task c.at-cell.result.now c.at-cell.ensures in
    let found = c.waited_at_get.result in
    let waits = waits_at_get program config c.args.task task there found c.in-Running.is c.waited_at_get.ensures in
    record {
      some = waits_there program config c.args.task task there found waits;
      none = never_waits_there program config c.args.task task there found waits;
    }

pub returns-in-Awaiting : goal.returns-in-Awaiting
returns-in-Awaiting c =
    let names = c.args.program.now.symbols in
    let program = program_tree c.args.program.now in
    let config = configuration names c.args.config.now in
    let task = task_state names c.at-cell.result.now in
    let there = task_found names c.args.config.now c.args.task c.at-cell.result.now c.at-cell.ensures in
    let found = c.waited_at_await.result in
    let waits = waits_at_await program config c.args.task task there found c.in-Awaiting.is c.waited_at_await.ensures in
    record {
      some = waits_there program config c.args.task task there found waits;
      none = never_waits_there program config c.args.task task there found waits;
    }
