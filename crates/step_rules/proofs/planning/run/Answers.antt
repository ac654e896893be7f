use Rattle.std.proofs.Common.{Some, sym, ap, subst, ◌∙◌}
use Rattle.std.proofs.lemmas.Option.{same_Some}
use Rattle.std.proofs.lemmas.Result.{IfOk-weaker, err_from_is_err_and, on_err_weaker}
use Rattle.abs_program.specs.InstructionViews.{instruction_tree}
use Rattle.abs_program.specs.NamedViews.{named_tree, program_tree}
use Rattle.abs_values.specs.ValueTrees.{ValueTree}
use Rattle.config_state.specs.ConfigViews.{configuration}
use Rattle.config_state.specs.Configurations.{FrameState, TaskState}
use Rattle.step_rules.proofs.MoverLemmas.{counted}
use Rattle.step_rules.proofs.PlanningLemmas.{give_open, no_point, point_found, run_faulty, run_at_end, run_nowhere, run_at_point}
use Rattle.step_rules.proofs.planning.run.Goals as goal
use Rattle.step_rules.specs.Lookups.{unit_value}
use Rattle.step_rules.specs.Plans.{IsNoFault, give_change}

pub returns-in-Bad-clause-plan : goal.returns-in-Bad-clause-plan
returns-in-Bad-clause-plan c = λ runner task frame frames still.
    let names = c.args.program.now.symbols in
    let program = program_tree c.args.program.now in
    let config = configuration names c.args.config.now in
    rw c.in-Bad.is (c.fault.ensures names config runner ∙ sym (run_faulty program config runner c.in-Bad.fault))

pub returns-in_err-unit-clause-memory : goal.returns-in_err-unit-clause-memory
returns-in_err-unit-clause-memory c =
    let names = c.args.program.now.symbols in
    let program = program_tree c.args.program.now in
    let config = configuration names c.args.config.now in
    let failed = err_from_is_err_and c.from_residual.result c.from_residual.ensures.1 in
    rw (failed.1, c.in-Values.is) (λ runner change task frame frames still made.
    let next = ap (λ (one : FrameState). one.next) frame ∙ c.in_default.is in
    subst IsNoFault (same_Some _ _ (sym (run_at_end program config runner c.in-Values.values next) ∙ made))
    (give_open config runner (unit_value names) still))

pub returns-in_default-clause-plan : goal.returns-in_default-clause-plan
returns-in_default-clause-plan c = λ runner task frame frames still.
    let names = c.args.program.now.symbols in
    let program = program_tree c.args.program.now in
    let config = configuration names c.args.config.now in
    let next = ap (λ (one : FrameState). one.next) frame ∙ c.in_default.is in
    let count = c.len.ensures ∙ counted names c.args.cell.now runner.frame runner.others
    (ap (λ (one : TaskState). one.frames) (sym task) ∙ frames) in
    rw c.in-Values.is (c.give.ensures names config runner count
    ∙ (ap (λ (value : ValueTree). Some (give_change config runner (Some value))) c.in_ok-unit.ensures
    ∙ sym (run_at_end program config runner c.in-Values.values next)))

pub returns-in_default-instruction-clause-plan : goal.returns-in_default-instruction-clause-plan
returns-in_default-instruction-clause-plan c = λ runner task frame frames still.
    let names = c.args.program.now.symbols in
    let program = program_tree c.args.program.now in
    let config = configuration names c.args.config.now in
    let next = ap (λ (one : FrameState). one.next) frame ∙ c.in-Some.is in
    let none = no_point program.source c.in-Some.next c.in_default-instruction.ensures in
    rw c.in-Values.is (sym (run_nowhere program config runner c.in-Values.values c.in-Some.next next none))

pub returns-clause-plan : goal.returns-clause-plan
returns-clause-plan c =
    let names = c.args.program.now.symbols in
    let program = program_tree c.args.program.now in
    let config = configuration names c.args.config.now in
    let found = point_found program.source c.in-Some.next
    (instruction_tree names c.in-Some-instruction.instruction.now) c.in-Some-instruction.ensures in
    rw c.in-Values.is (IfOk-weaker c.statement.result _ _ (λ plan is runner task frame frames still.
    let next = ap (λ (one : FrameState). one.next) frame ∙ c.in-Some.is in
    is runner found.0 (record {
      task_is = task;
      frame_is = frame;
      frames_are = frames;
      open_still = still;
      instruction_is = found.2;
    }) ∙ sym (run_at_point program config runner c.in-Values.values c.in-Some.next found.0 next found.1))
    c.statement.ensures.plan)

pub returns-clause-memory : goal.returns-clause-memory
returns-clause-memory c =
    let names = c.args.program.now.symbols in
    let program = program_tree c.args.program.now in
    let config = configuration names c.args.config.now in
    let found = point_found program.source c.in-Some.next
    (instruction_tree names c.in-Some-instruction.instruction.now) c.in-Some-instruction.ensures in
    rw c.in-Values.is (on_err_weaker c.statement.result (λ is runner change task frame frames still made.
    let next = ap (λ (one : FrameState). one.next) frame ∙ c.in-Some.is in
    is runner found.0 change (record {
      task_is = task;
      frame_is = frame;
      frames_are = frames;
      open_still = still;
      instruction_is = found.2;
    }) (sym (run_at_point program config runner c.in-Values.values c.in-Some.next found.0 next found.1) ∙ made))
    c.statement.ensures.memory)

pub returns-clause-takes : goal.returns-clause-takes
returns-clause-takes c =
    let names = c.args.program.now.symbols in
    let found = point_found (named_tree c.args.program.now) c.in-Some.next
    (instruction_tree names c.in-Some-instruction.instruction.now) c.in-Some-instruction.ensures in
    on_err_weaker c.statement.result (λ is. rw (c.in-Some.is, found.1) (is found.0 found.2)) c.statement.ensures.takes
