use Rattle.std.proofs.Common.{◌<◌, length, IsSome, IfSome}
use Rattle.abs_program.specs.NamedViews.{program_tree}
use Rattle.config_state.specs.ConfigViews.{configuration}
use Rattle.step_rules.specs.Events.{event_of}
use Rattle.show_run.proofs.ready_sets.greatest_with_event.Given as goal

-- the task that was found is there, and has an event
abbrev pub invariant-loop-task : goal.invariant-loop-task
invariant-loop-task l = record {
  there : IfSome l.greatest (λ task. task < length l.config.tasks);
  has_step : IfSome l.greatest (λ task.
      IsSome (event_of (program_tree l.program) (configuration l.program.symbols l.config) task));
}
