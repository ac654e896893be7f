use Rattle.std.proofs.Common.{◌≡◌, None, arith, sym, ◌∙◌, subst}
use Rattle.abs_program.specs.NamedViews.{program_tree}
use Rattle.config_state.specs.ConfigViews.{configuration}
use Rattle.run_history.proofs.ReplayLemmas.{run_of_none, replayed_more, no_step, no_task, illegal_at}
use Rattle.run_history.proofs.replays.replay.Goals as goal
use Rattle.run_history.proofs.replays.replay.Goals.{then-task-len-via-then-task-len, then-task-len-via-else-task-len+then-not-has_step}
use Rattle.run_history.specs.Replays.{IsFirstIllegal}
use Rattle.step_rules.specs.Events.{event_of}

pub loop-index-init : goal.loop-index-init
loop-index-init c = record {
  leads = run_of_none _ _ _ c.in_ok-config.ensures.is_first c.new.ensures.items;
  of_program = c.in_ok-config.ensures.of_program;
}

pub returns-then-task-len-clause-illegal : goal.returns-then-task-len-clause-illegal
returns-then-task-len-clause-illegal c = λ index is.
    let program = program_tree c.args.program.now in
    let names = c.args.program.now.symbols in
    let none : event_of program (configuration names c.loop-index.config) c.at-task.result ≡ None =
    elim c.then-task-len.branch [
      | then-task-len-via-then-task-len w ↦ no_task program names c.loop-index.config c.at-task.result
          (omega (arith, w.if-task-len.true, c.len.ensures.is))
      | then-task-len-via-else-task-len+then-not-has_step w ↦ no_step _ w.has_step.result w.has_step.ensures
          w.if-not-has_step.true
    ] in
    let same : c.loop-index.index ≡ index = cc in
    subst (IsFirstIllegal program c.args.history.now.tasks) same
    (illegal_at program c.args.history.now.tasks c.loop-index.index c.at-task.result _ c.at-task.ensures
    c.loop-index.invariant.leads none)

pub loop-index-preserved : goal.loop-index-preserved
loop-index-preserved c = record {
  leads = replayed_more _ _ _ _ _ _ _ c.at-task.ensures c.loop-index.invariant.leads
      (sym c.has_step.ensures ∙ c.if-not-has_step.false) c.in_ok-step.ensures.config
      c.in_ok-step.ensures.lines;
  of_program = c.step.ensures.of_program;
}
