use mathlib.Core.Logic.{∥∥₁_elim}
use Rattle.std.proofs.Common.{rules, drop, refl, sym, ◌∙◌}
use Rattle.std.proofs.Math.Bool.{Bool-set}
use Rattle.std.proofs.lemmas.Result.{IfOk-weaker}
use Rattle.abs_values.specs.Results.{results_tree, result_tree}
use Rattle.abs_program.specs.NamedViews.{program_tree}
use Rattle.config_state.specs.ConfigViews.{configuration}
use Rattle.config_state.specs.Views.{frame_state, task_state}
use Rattle.config_state.specs.declared.task.State.TheVariants.{Ready}
use Rattle.step_rules.proofs.BlockedLemmas.{task_found}
use Rattle.step_rules.proofs.HasStepLemmas.{some_outcome}
use Rattle.step_rules.proofs.PlanningLemmas.{frames_by, change_ended, ended_by, change_by_its_state, change_awaiting, change_running, plan_there}
use Rattle.step_rules.proofs.planning.plan_of.Goals as goal
use Rattle.list_facts.proofs.ResultLemmas.{OnErr-both}
use Rattle.list_facts.proofs.OptionLemmas.{option_map-none}

pub returns-in_default-clause-plan : goal.returns-in_default-clause-plan
returns-in_default-clause-plan c =
    let names = c.args.program.now.symbols in
    let program = program_tree c.args.program.now in
    let config = configuration names c.args.config.now in
    let cell = c.at-cell.result.now in
    let there = task_found names c.args.config.now c.args.task cell c.at-cell.ensures in
    change_ended program config c.args.task (results_tree c.args.output) (task_state names cell) there
    (∥∥₁_elim c.args.config.now.well_formed (Bool-set _ _) (λ formed. ended_by program config c.args.task
    (results_tree c.args.output) (task_state names cell) there (formed names) (c.in_default.ensures names)))

pub returns-then-is_some-clause-plan : goal.returns-then-is_some-clause-plan
returns-then-is_some-clause-plan c =
    let names = c.args.program.now.symbols in
    let cell = c.at-cell.result.now in
    change_ended (program_tree c.args.program.now) (configuration names c.args.config.now) c.args.task
    (results_tree c.args.output) (task_state names cell)
    (task_found names c.args.config.now c.args.task cell c.at-cell.ensures) (some_outcome cell.outcome (search rules))

pub returns-in-Ready-clause-plan : goal.returns-in-Ready-clause-plan
returns-in-Ready-clause-plan c =
    let names = c.args.program.now.symbols in
    let program = program_tree c.args.program.now in
    let config = configuration names c.args.config.now in
    let cell = c.at-cell.result.now in
    let task = task_state names cell in
    let there = task_found names c.args.config.now c.args.task cell c.at-cell.ensures in
    plan_there program config c.args.task (results_tree c.args.output) task there names task.frames c.take.result refl
    ∙ (c.take.ensures names c.args.task task.frames
    ∙ change_by_its_state program config c.args.task (results_tree c.args.output) task there Ready
    (option_map-none result_tree cell.outcome (search rules)) c.in-Ready.is)

pub returns-in-Awaiting-clause-plan : goal.returns-in-Awaiting-clause-plan
returns-in-Awaiting-clause-plan c =
    let names = c.args.program.now.symbols in
    let program = program_tree c.args.program.now in
    let config = configuration names c.args.config.now in
    let cell = c.at-cell.result.now in
    let task = task_state names cell in
    let frame = frame_state names c.in-Some.frame.now in
    let there = task_found names c.args.config.now c.args.task cell c.at-cell.ensures in
    let are = frames_by task.frames frame (c.in-Some.ensures names) in
    plan_there program config c.args.task (results_tree c.args.output) task there names _ c.wake.result are
    ∙ (c.wake.ensures c.args.task (drop 1 task.frames)
    ∙ change_awaiting program config c.args.task (results_tree c.args.output) task there _
    (option_map-none result_tree cell.outcome (search rules)) c.in-Awaiting.is are)

pub returns-in-Running-clause-plan : goal.returns-in-Running-clause-plan
returns-in-Running-clause-plan c =
    let names = c.args.program.now.symbols in
    let program = program_tree c.args.program.now in
    let config = configuration names c.args.config.now in
    let cell = c.at-cell.result.now in
    let task = task_state names cell in
    let frame = frame_state names c.in-Some.frame.now in
    let there = task_found names c.args.config.now c.args.task cell c.at-cell.ensures in
    let are = frames_by task.frames frame (c.in-Some.ensures names) in
    let still = option_map-none result_tree cell.outcome (search rules) in
    IfOk-weaker c.run.result _ _ (λ plan is.
    plan_there program config c.args.task (results_tree c.args.output) task there names _ plan are
    ∙ (is (record { index = c.args.task; task = task; frame = frame; others = drop 1 task.frames }) refl refl are still
    ∙ change_running program config c.args.task (results_tree c.args.output) task there frame (drop 1 task.frames)
    still c.in-Running.is are)) c.run.ensures.plan

pub returns-in-Running-clause-memory : goal.returns-in-Running-clause-memory
returns-in-Running-clause-memory c =
    let names = c.args.program.now.symbols in
    let program = program_tree c.args.program.now in
    let config = configuration names c.args.config.now in
    let cell = c.at-cell.result.now in
    let task = task_state names cell in
    let frame = frame_state names c.in-Some.frame.now in
    let there = task_found names c.args.config.now c.args.task cell c.at-cell.ensures in
    let are = frames_by task.frames frame (c.in-Some.ensures names) in
    let still = option_map-none result_tree cell.outcome (search rules) in
    OnErr-both c.run.result (λ open_still takes. record {
      task = task;
      there = there;
      runs = c.in-Running.is;
      frame = frame;
      innermost = sym (c.in-Some.ensures names);
      takes = takes;
      no_fault = λ change made. open_still
          (record { index = c.args.task; task = task; frame = frame; others = drop 1 task.frames }) change refl refl are
          still (change_running program config c.args.task (results_tree c.args.output) task there frame
          (drop 1 task.frames) still c.in-Running.is are ∙ made);
    }) c.run.ensures.memory c.run.ensures.takes
