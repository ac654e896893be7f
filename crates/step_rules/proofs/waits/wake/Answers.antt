use Rattle.std.proofs.Common.{◌∷◌, Some, None, ◌∙◌}
use Rattle.abs_program.specs.InstructionViews.{instruction_tree}
use Rattle.abs_program.specs.NamedViews.{program_tree}
use Rattle.config_state.specs.ConfigViews.{configuration}
use Rattle.config_state.specs.Views.{frame_state, task_state}
use Rattle.step_rules.proofs.WaitPlanLemmas.{wake_found, no_wake}
use Rattle.step_rules.proofs.waits.wake.Goals as goal

pub returns-in_err-instruction : goal.returns-in_err-instruction
returns-in_err-instruction c = λ index others.
    let names = c.args.program.now.symbols in
    rw c.from_residual-in_err-instruction.ensures (wake_found (program_tree c.args.program.now)
    (configuration names c.args.config.now) index (task_state names c.args.cell.now)
    (frame_state names c.args.frame.now) others c.in_ok-frame.field-0 None c.in_ok-frame.was
    c.in_err-instruction.ensures)

pub returns-in-Await : goal.returns-in-Await
returns-in-Await c = λ index others.
    let names = c.args.program.now.symbols in
    let found = wake_found (program_tree c.args.program.now) (configuration names c.args.config.now) index
    (task_state names c.args.cell.now) (frame_state names c.args.frame.now) others c.in_ok-frame.field-0
    (Some (instruction_tree names c.in_ok-instruction.instruction.now)) c.in_ok-frame.was
    c.in_ok-instruction.ensures in
    let taken = c.take_resolved.ensures names index (frame_state names c.args.frame.now ∷ others) in
    let taken_is = rw c.as_slice.ensures.value at taken in
    let found_is = rw c.in-Await.is at found in
    taken_is ∙ found_is

pub returns-in_default : goal.returns-in_default
returns-in_default c = λ index others.
    let names = c.args.program.now.symbols in
    no_wake names (configuration names c.args.config.now) index (task_state names c.args.cell.now)
    (frame_state names c.args.frame.now) c.in_ok-instruction.instruction.now.effect c.in_default.not-Await
    ∙ wake_found (program_tree c.args.program.now) (configuration names c.args.config.now) index
    (task_state names c.args.cell.now) (frame_state names c.args.frame.now) others c.in_ok-frame.field-0
    (Some (instruction_tree names c.in_ok-instruction.instruction.now)) c.in_ok-frame.was
    c.in_ok-instruction.ensures
