use Rattle.std.proofs.Common.{Some, None}
use Rattle.abs_program.specs.InstructionViews.{instruction_tree}
use Rattle.abs_program.specs.NamedViews.{program_tree}
use Rattle.config_state.specs.Views.{frame_state}
use Rattle.step_rules.proofs.BlockedLemmas.{next_effect_found}
use Rattle.step_rules.proofs.enabled.next_effect.Goals as goal

pub returns-in_err-instruction : goal.returns-in_err-instruction
returns-in_err-instruction c =
    rw c.from_residual-in_err-instruction.ensures (next_effect_found (program_tree c.args.program.now)
    (frame_state c.args.program.now.symbols c.args.frame.now) c.in_ok-frame.field-0 None c.in_ok-frame.was
    c.in_err-instruction.ensures)

pub returns : goal.returns
returns c =
    next_effect_found (program_tree c.args.program.now) (frame_state c.args.program.now.symbols c.args.frame.now)
    c.in_ok-frame.field-0 (Some (instruction_tree c.args.program.now.symbols c.in_ok-instruction.instruction.now))
    c.in_ok-frame.was c.in_ok-instruction.ensures
